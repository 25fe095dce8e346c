use Rattle.std.proofs.Common.{sym, subst}
use Rattle.trace_judge.specs.Reads.{IsPaid}
use Rattle.trace_judge.specs.Judging.{Judged}
use Rattle.trace_judge.proofs.judge.Judge.miss.Goals as goal

pub returns-clause-paid : goal.returns-clause-paid
returns-clause-paid g c start paid = c.due-expected.ensures.paid start
    (subst (λ (j : Judged). IsPaid j.reader start c.args.comparisons.now) (sym c.self.view_is) paid)
