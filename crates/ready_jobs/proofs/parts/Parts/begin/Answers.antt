use Rattle.std.proofs.Common.{Some, None, sym, ap, ◌∙◌, subst, vec_capacity}
use Rattle.ready_jobs.specs.Parts.{Parted, AreParts}
use Rattle.ready_jobs.specs.Kept.{parted_of}
use Rattle.ready_jobs.proofs.Keeping.{begun_kept}
use Rattle.ready_jobs.proofs.parts.Parts.begin.Goals as goal

pub invariant_of-self : goal.invariant_of-self
invariant_of-self c =
    let inside = c.self.inside in
    subst (λ t. AreParts (record (parted_of inside) { running = Some t; fresh = None }) inside.rooms inside.pool
    (vec_capacity inside.held))
    (sym c.in_role.ensures)
    (begun_kept _ _ _ _ c.self.invariant _ (ap (λ (q : Parted). q.running) c.self.view_is ∙ c.requires) c.in-Some.is)
