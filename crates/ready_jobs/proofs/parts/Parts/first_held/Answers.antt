use Rattle.std.proofs.Common.{sym, ap, ◌∙◌}
use Rattle.dover_model.specs.Common.{held, due_first, first}
use Rattle.ready_jobs.specs.Parts.{Parted, state_of}
use Rattle.ready_jobs.specs.Kept.{parted_of}
use Rattle.ready_jobs.proofs.Seeing.{held_list, held_top}
use Rattle.ready_jobs.proofs.parts.Parts.first_held.Goals as goal

pub returns-clause-seen : goal.returns-clause-seen
returns-clause-seen c =
    let p = parted_of c.self.inside in
    let kept = c.self.invariant in
    c.peek.ensures ∙ sym (held_top p.version p.held kept.held.order)
    ∙ sym (ap (first (due_first p.version)) (held_list p kept.roles))
    ∙ ap (λ (q : Parted). first (due_first q.version) (held (state_of q))) c.self.view_is
