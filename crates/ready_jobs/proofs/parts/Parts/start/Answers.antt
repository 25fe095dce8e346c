use Rattle.std.proofs.Common.{Some, sym, ap, ◌∙◌, subst, vec_capacity}
use Rattle.dover_model.specs.declared.events.Role.TheVariants.{Running}
use Rattle.dover_model.specs.Common.{with_role}
use Rattle.waiting_pool.specs.Pools.{Pooled}
use Rattle.ready_jobs.specs.Parts.{Parted, AreParts, AreSound}
use Rattle.ready_jobs.specs.Kept.{parted_of}
use Rattle.ready_jobs.proofs.Keeping.{started_kept, same_kept}
use Rattle.ready_jobs.proofs.parts.Parts.start.Goals as goal

pub take_waiting-requires-clause-modest : goal.take_waiting-requires-clause-modest
take_waiting-requires-clause-modest g c = (subst AreSound (sym c.self.view_is) c.requires.sound).modest

pub invariant_of-self : goal.invariant_of-self
invariant_of-self g c =
    let inside = c.self.inside in
    let after = c.take_waiting.new.self in
    subst (λ t. AreParts (record (parted_of inside)
    { version = after.version; running = Some t; waiting = after.tasks }) inside.rooms after
    (vec_capacity inside.held))
    (sym c.in_role.ensures)
    (subst (λ v. AreParts (record (parted_of inside)
    { version = v; running = Some (with_role c.in-Some.o Running); waiting = after.tasks }) inside.rooms after
    (vec_capacity inside.held)) (sym (ap (λ (q : Pooled). q.version) c.take_waiting.ensures.kept))
    (started_kept _ _ _ _ c.self.invariant _ _ (ap (λ (q : Parted). q.running) c.self.view_is ∙ c.requires.free)
    (c.take_waiting.ensures.rest c.in-Some.o c.in-Some.is) (ap (λ (q : Pooled). q.room) c.take_waiting.ensures.kept)))

pub invariant_of-self-in_default : goal.invariant_of-self-in_default
invariant_of-self-in_default g c =
    let inside = c.self.inside in
    let after = c.take_waiting.new.self in
    subst (λ v. AreParts (record (parted_of inside) { version = v; waiting = after.tasks }) inside.rooms after
    (vec_capacity inside.held))
    (sym (ap (λ (q : Pooled). q.version) c.take_waiting.ensures.kept))
    (same_kept (parted_of inside) inside.rooms inside.pool (vec_capacity inside.held) c.self.invariant after
    (c.take_waiting.ensures.none c.in_default.is)
    (ap (λ (q : Pooled). q.room) c.take_waiting.ensures.kept))
