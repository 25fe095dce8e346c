use Rattle.admission.specs.Least.{StandsBelow}
use Rattle.admission.proofs.least.least_ratio.Given as goal

-- the least with the denominators so far
abbrev pub invariant-loop-q : goal.invariant-loop-q
invariant-loop-q l = StandsBelow l.top l.bottom l.q l.best
