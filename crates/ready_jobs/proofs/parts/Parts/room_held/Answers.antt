use Rattle.std.proofs.Common.{sym, ap, ◌∙◌, map, unwrap_or}
use Rattle.dover_model.specs.Common.{entry_of, held, room}
use Rattle.held_stack.proofs.Deadlines.{room_map, room_or_none}
use Rattle.ready_jobs.specs.Parts.{Parted, state_of}
use Rattle.ready_jobs.specs.Kept.{parted_of}
use Rattle.ready_jobs.proofs.Seeing.{held_list}
use Rattle.ready_jobs.proofs.parts.Parts.room_held.Goals as goal

pub returns : goal.returns
returns c =
    let inside = c.self.inside in
    let p = parted_of inside in
    let kept = c.self.invariant in
    c.unwrap_or.ensures ∙ ap (λ o. unwrap_or o 0) (c.room.ensures (map entry_of p.held) kept.held)
    ∙ room_or_none inside.clock (map entry_of p.held) ∙ room_map inside.clock p.held
    ∙ sym (ap (room inside.clock) (held_list p kept.roles))
    ∙ ap (λ (q : Parted). room q.clock (held (state_of q))) c.self.view_is
