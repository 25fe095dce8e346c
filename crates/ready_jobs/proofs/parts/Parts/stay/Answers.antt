use Rattle.std.proofs.Common.{◌<◌, ◌∷◌, None, length, sym, ap, arith, ◌∙◌, subst, vec_capacity, option_to_list}
use Rattle.dover_model.specs.declared.events.Task.{Task}
use Rattle.waiting_pool.specs.Reordered.{IsReordered}
use Rattle.waiting_pool.specs.Pools.{Pooled}
use Rattle.ready_jobs.specs.Parts.{Parted, AreParts}
use Rattle.ready_jobs.specs.Kept.{parted_of}
use Rattle.waiting_pool.specs.Short.{no_number}
use Rattle.ready_jobs.proofs.Keeping.{fresh_small, stayed_kept}
use Rattle.ready_jobs.proofs.Silences.{ready_count}
use Rattle.ready_jobs.proofs.parts.Parts.stay.Goals as goal

pub add-requires-clause-number : goal.add-requires-clause-number
add-requires-clause-number g c =
    let inside = c.self.inside in
    subst (λ (t : Task). t.number < no_number) (sym c.in_role.ensures)
    (fresh_small _ _ _ _ c.self.invariant _ (ap (λ (q : Parted). q.fresh) c.self.view_is ∙ c.requires.fresh))

pub invariant_of-self : goal.invariant_of-self
invariant_of-self g c =
    let inside = c.self.inside in
    let after = c.add.new.self in
    subst (λ v. AreParts (record (parted_of inside) { version = v; fresh = None; waiting = after.tasks }) inside.rooms
    after (vec_capacity inside.held))
    (sym (ap (λ (q : Pooled). q.version) c.add.ensures.kept))
    (stayed_kept _ _ _ _ c.self.invariant _ _ (ap (λ (q : Parted). q.fresh) c.self.view_is ∙ c.requires.fresh)
    (subst (λ t. IsReordered (t ∷ inside.pool.tasks) after.tasks) c.in_role.ensures c.add.ensures.more)
    (ap (λ (q : Pooled). q.room) c.add.ensures.kept))

pub add-requires-clause-room : goal.add-requires-clause-room
add-requires-clause-room g c =
    let kept = c.self.invariant in
    let is = ap (λ (q : Parted). q.fresh) c.self.view_is ∙ c.requires.fresh in
    omega (
      arith,
      kept.few,
      kept.pool_room,
      ready_count (parted_of c.self.inside),
      ap (λ o. length (option_to_list o)) is,
    )
