-- The job that breaks the ratio is sought among the extremes of the jobs that this is kept of.
use Rattle.std.proofs.Common.{◌≡◌, [], subst, sym, IfSome}
use Rattle.admission.specs.Kept.{StandsFor, HasExtremes}
use Rattle.admission.specs.Answers.{IsOther, AllKeepRatio}
use Rattle.admission.proofs.admitting.Admission.breaker.Goals as goal

pub returns-in-Some-clause-other : goal.returns-in-Some-clause-other
returns-in-Some-clause-other c jobs stands =
    let it = (subst (λ k. StandsFor k jobs) (sym c.self.view_is) stands).extremes in
    subst (λ k. IfSome c.breaker.result (λ other. IsOther k.rules.ratio jobs c.args.job.now other)) c.self.view_is
    (c.breaker.ensures.other jobs (subst (HasExtremes c.self.inside.ratio jobs) c.in-Some.is it))

pub returns-in-Some-clause-none : goal.returns-in-Some-clause-none
returns-in-Some-clause-none c jobs stands none =
    let it = (subst (λ k. StandsFor k jobs) (sym c.self.view_is) stands).extremes in
    subst (λ k. AllKeepRatio k.rules.ratio jobs c.args.job.now) c.self.view_is
    (c.breaker.ensures.none jobs (subst (HasExtremes c.self.inside.ratio jobs) c.in-Some.is it) none)

pub returns-in-None-clause-none : goal.returns-in-None-clause-none
returns-in-None-clause-none c jobs stands none =
    let it = (subst (λ k. StandsFor k jobs) (sym c.self.view_is) stands).extremes in
    let empty : jobs ≡ [] = subst (HasExtremes c.self.inside.ratio jobs) c.in-None.is it in
    subst (λ l. AllKeepRatio c.args.self.now.rules.ratio l c.args.job.now) (sym empty) tt
