use Rattle.std.proofs.Common.{◌<◌, ◌∙◌, sym, ap, subst, length, arith}
use Rattle.ready_jobs.specs.Parts.{Parted, ready_of}
use Rattle.ready_jobs.proofs.Keeping.{come_kept}
use Rattle.ready_jobs.proofs.parts.Parts.come.Goals as goal

pub invariant_of-self : goal.invariant_of-self
invariant_of-self c =
    let inside = c.self.inside in
    come_kept _ _ _ _ c.self.invariant _ _ _ (ap (λ (q : Parted). q.fresh) c.self.view_is ∙ c.requires.stale)
    (subst (λ (q : Parted). length (ready_of q) < q.room) (sym c.self.view_is) c.requires.room) c.requires.number
    (omega (arith, c.requires.ahead, ap (λ (q : Parted). q.clock) c.self.view_is, c.release-self-inside.ensures.is))
