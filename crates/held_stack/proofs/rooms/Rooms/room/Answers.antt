use Rattle.std.proofs.Common.{ℕ, ◌-◌, ◌∙◌, Some, option_map, ap}
use Rattle.held_stack.specs.Kept.{Lasting, first_of}
use Rattle.held_stack.proofs.Holding.{room_now}
use Rattle.held_stack.proofs.rooms.Rooms.room.Goals as goal

pub returns-in-Some : goal.returns-in-Some
returns-in-Some c held are =
    ap Some c.saturating_sub.ensures
    ∙ ap (λ o. option_map (λ (u : ℕ). u - c.args.now) o)
    (c.in-Some.ensures ∙ ap (λ (r : Lasting). first_of r.untils) c.self.view_is ∙ ap first_of are.untils)
    ∙ room_now c.args.now held
