use Rattle.std.proofs.Common.{arith, subst}
use Rattle.admission.specs.Least.{StandsBelow}
use Rattle.admission.proofs.Seeking.{lesser_stands}
use Rattle.admission.proofs.least.with_next.Goals as goal

pub returns-in-Some : goal.returns-in-Some
returns-in-Some c = let p = c.least_numerator-p in
    lesser_stands c.args.top c.args.bottom p.result c.args.q c.requires.denominator p.ensures.enough p.ensures.least
    (omega arith) c.in-Some.kept
    (subst (StandsBelow c.args.top c.args.bottom c.args.q) c.in-Some.is c.requires.below) c.lesser.result
    c.lesser.ensures.next c.lesser.ensures.kept
