use Rattle.std.proofs.Common.{sym, ap, subst, arith}
use Rattle.trace_judge.specs.Reads.{Reading, Waited}
use Rattle.trace_judge.proofs.Completing.{late_wrong, early_right}
use Rattle.trace_judge.proofs.reader.TraceReader.is_right.Goals as goal

pub returns-then-self-at : goal.returns-then-self-at
returns-then-self-at c ls S z y waited = late_wrong c.args.self.now c.args.at ls S z y waited c.args.number
    (omega (arith, c.if-self-at.true, ap (λ (r : Reading). r.last) c.self.view_is))

pub returns : goal.returns
returns c ls S z y waited =
    early_right _ c.args.at ls S z y (subst (λ r. Waited r c.args.at ls S z y) (sym c.self.view_is) waited)
    c.args.number c.runs.result (omega (arith, c.if-self-at.false))
    c.runs.ensures.yes c.runs.ensures.no
