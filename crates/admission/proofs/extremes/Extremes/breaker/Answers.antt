use Rattle.admission.proofs.Refusing.{between_keep}
use Rattle.admission.proofs.extremes.Extremes.breaker.Goals as goal

pub returns-then-have_between-clause-none : goal.returns-then-have_between-clause-none
returns-then-have_between-clause-none c jobs it none =
    between_keep c.args.ratio.now jobs c.args.self.now c.args.job.now it c.if-self.true
    (c.have_between.ensures.0 c.if-have_between.true)
