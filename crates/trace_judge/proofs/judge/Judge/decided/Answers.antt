use Rattle.std.proofs.Common.{sym, ap, ◌∙◌}
use Rattle.trace_judge.specs.Judging.{Judged}
use Rattle.trace_judge.proofs.Judging.{stands_not_wrong}
use Rattle.trace_judge.proofs.judge.Judge.decided.Goals as goal

pub returns-in_default : goal.returns-in_default
returns-in_default c text stands = sym (stands_not_wrong c.args.self.now text stands
    (λ line due is. c.in_default.not-Wrong line due (ap (λ (j : Judged). j.found) c.self.view_is ∙ is)))
