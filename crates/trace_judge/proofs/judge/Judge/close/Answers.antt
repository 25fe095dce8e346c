use Rattle.std.proofs.Common.{sym, subst}
use Rattle.trace_judge.specs.Judging.{Tells}
use Rattle.trace_judge.proofs.judge.Judge.close.Goals as goal

pub returns-in-Ok-clause-tells : goal.returns-in-Ok-clause-tells
returns-in-Ok-clause-tells c text stands =
    subst (λ v. Tells v text) (sym c.told.ensures.verdict) (c.in-Ok.ensures.tells text stands)

pub returns-in-Ok-clause-steps : goal.returns-in-Ok-clause-steps
returns-in-Ok-clause-steps c = c.told.ensures.steps

pub returns-in-Ok-clause-refused : goal.returns-in-Ok-clause-refused
returns-in-Ok-clause-refused c = c.told.ensures.refused
