use Rattle.std.proofs.Common.{sym, subst, vec_capacity}
use Rattle.waiting_pool.specs.Pools.{Pooled}
use Rattle.ready_jobs.specs.Parts.{AreParts}
use Rattle.ready_jobs.specs.Kept.{parted_of}
use Rattle.ready_jobs.proofs.Keeping.{versioned_kept}
use Rattle.ready_jobs.proofs.parts.Parts.declare.Goals as goal

pub invariant_of-self : goal.invariant_of-self
invariant_of-self c =
    let inside = c.self.inside in
    subst (λ (q : Pooled). AreParts
    (record (parted_of inside) { version = q.version; waiting = q.tasks }) inside.rooms q
    (vec_capacity inside.held))
    (sym c.declare.ensures)
    (versioned_kept _ _ _ _ c.self.invariant _)
