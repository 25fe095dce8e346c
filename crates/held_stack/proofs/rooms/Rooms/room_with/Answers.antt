use Rattle.std.proofs.Common.{◌-◌, min, ◌∙◌, ap, sym}
use Rattle.held_stack.proofs.FirstDue.{room_over, room_under}
use Rattle.held_stack.proofs.Holding.{before_each}
use Rattle.held_stack.proofs.rooms.Rooms.room_with.Goals as goal

pub returns-in-Some : goal.returns-in-Some
returns-in-Some c held are first =
    let e = c.args.e.now in
    let alone = c.saturating_sub-alone.ensures ∙ ap (λ n. n - c.args.now) c.saturating_sub.ensures in
    c.min.ensures ∙ ap (λ n. min n c.saturating_sub-in-Some.result) alone
    ∙ ap (min (e.deadline - e.left - c.args.now)) c.saturating_sub-in-Some.ensures
    ∙ room_over c.args.now e held c.in-Some.room (before_each e held first are.order)
    (sym (c.in-Some.ensures held are))

pub returns-in-None : goal.returns-in-None
returns-in-None c held are first =
    c.saturating_sub-alone.ensures ∙ ap (λ n. n - c.args.now) c.saturating_sub.ensures
    ∙ room_under c.args.now c.args.e.now held (before_each c.args.e.now held first are.order)
    (sym (c.room.ensures held are) ∙ c.in-None.is)
