use Rattle.std.proofs.Common.{true, sym, ap, subst, vec_capacity}
use Rattle.waiting_pool.specs.Pools.{Pooled}
use Rattle.ready_jobs.specs.Parts.{AreParts, AreSound}
use Rattle.ready_jobs.specs.Kept.{parted_of}
use Rattle.ready_jobs.proofs.Keeping.{abandoned_kept, pressed_kept}
use Rattle.ready_jobs.proofs.parts.Parts.abandon.Goals as goal

pub take_latest-requires-clause-modest : goal.take_latest-requires-clause-modest
take_latest-requires-clause-modest g c = (subst AreSound (sym c.self.view_is) c.requires.sound).modest

pub invariant_of-self : goal.invariant_of-self
invariant_of-self g c =
    let inside = c.self.inside in
    let after = c.take_latest.new.self in
    subst (λ v. AreParts (record (parted_of inside) { version = v; pressed = true; waiting = after.tasks })
    inside.rooms after (vec_capacity inside.held))
    (sym (ap (λ (q : Pooled). q.version) c.take_latest.ensures.kept))
    (pressed_kept _ _ _ _ (abandoned_kept _ _ _ _ c.self.invariant _ _ c.take_latest.ensures.rest
    c.take_latest.ensures.none (ap (λ (q : Pooled). q.room) c.take_latest.ensures.kept)) true)
