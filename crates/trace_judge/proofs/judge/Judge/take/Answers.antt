use Rattle.std.proofs.Common.{sym, ap, ◌∙◌, subst, take, length}
use Rattle.std.proofs.Math.Seq.{take-length}
use Rattle.trace_judge.specs.Judging.{Judged, Fed}
use Rattle.trace_judge.proofs.Judging.{wrong_fed, stands_not}
use Rattle.trace_judge.proofs.Spending.{pays_none}
use Rattle.trace_judge.proofs.judge.Judge.take.Goals as goal

pub returns-in-Wrong-clause-fed : goal.returns-in-Wrong-clause-fed
returns-in-Wrong-clause-fed g c =
    subst (Fed c.args.self.now c.args.self.now) (sym (take-length c.args.bytes.now))
    (wrong_fed c.args.self.now c.in-Wrong.line c.in-Wrong.expected c.args.bytes.now
    (ap (λ (j : Judged). j.found) (sym c.self.view_is) ∙ c.in-Wrong.is))

pub returns-in-Wrong-clause-paid : goal.returns-in-Wrong-clause-paid
returns-in-Wrong-clause-paid g c =
    pays_none c.args.self.now (take (length c.args.bytes.now) c.args.bytes.now) c.args.comparisons.now

pub returns-in-NoMemory-clause-spent : goal.returns-in-NoMemory-clause-spent
returns-in-NoMemory-clause-spent g c = pays_none c.args.self.now c.args.bytes.now c.args.comparisons.now

pub returns-in-NoMemory-clause-room : goal.returns-in-NoMemory-clause-room
returns-in-NoMemory-clause-room g c text stands = absurd (stands_not c.args.self.now text
    (ap (λ (j : Judged). j.found) (sym c.self.view_is) ∙ c.in-NoMemory.is) stands)
