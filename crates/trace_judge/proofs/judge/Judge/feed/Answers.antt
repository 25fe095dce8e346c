use Rattle.std.proofs.Common.{sym, ap, ◌∙◌}
use Rattle.std.proofs.lemmas.List.{take_rest}
use Rattle.dover_model.proofs.lists.Tests.{never}
use Rattle.trace_judge.specs.Judging.{Judged}
use Rattle.trace_judge.proofs.Judging.{err_of, wrong_fed, good_not_wrong, stands_good, stands_not}
use Rattle.trace_judge.proofs.Spending.{pays_none}
use Rattle.trace_judge.proofs.EndedLines.{fed_some, overfed_rest, pays_rest}
use Rattle.trace_judge.proofs.judge.Judge.feed.Goals as goal

pub returns-in-Wrong-clause-fed : goal.returns-in-Wrong-clause-fed
returns-in-Wrong-clause-fed g c =
    wrong_fed c.args.self.now c.in-Wrong.line c.in-Wrong.expected c.args.piece.now
    (ap (λ (j : Judged). j.found) (sym c.self.view_is) ∙ c.in-Wrong.is)

pub returns-in_err-count-clause-room : goal.returns-in_err-count-clause-room
returns-in_err-count-clause-room g c = err_of c.from_residual.result c.from_residual.ensures.0
    (overfed_rest c.args.self.now c.loop-rest.self c.args.piece.now c.loop-rest.rest.now c.args.comparisons.now
    c.loop-rest.comparisons c.loop-rest.invariant
    c.in_err-count.ensures.room)

pub returns-in_err-count-clause-decided : goal.returns-in_err-count-clause-decided
returns-in_err-count-clause-decided g c text stands wrong =
    never (sym (good_not_wrong c.args.self.now text (stands_good c.args.self.now text
    (ap (λ (j : Judged). j.found) (sym c.self.view_is) ∙ c.in-Good.is) stands)) ∙ wrong)

pub loop-rest-preserved : goal.loop-rest-preserved
loop-rest-preserved g c = rw take_rest
    (fed_some c.args.self.now c.loop-rest.self c.args.piece.now c.loop-rest.rest.now c.args.comparisons.now
    c.loop-rest.comparisons
    c.loop-rest.invariant c.take.new.self
    c.in_ok-count.count c.take.new.comparisons c.in_ok-count.ensures.fed c.in_ok-count.ensures.paid)

pub returns-in_err-count-clause-paid : goal.returns-in_err-count-clause-paid
returns-in_err-count-clause-paid g c =
    pays_rest c.args.self.now c.loop-rest.self c.args.piece.now c.loop-rest.rest.now c.args.comparisons.now
    c.loop-rest.comparisons
    c.loop-rest.invariant c.take.new.self c.take.new.comparisons c.in_err-count.ensures.spent

pub returns-clause-paid : goal.returns-clause-paid
returns-clause-paid g c =
    pays_rest c.args.self.now c.loop-rest.self c.args.piece.now c.loop-rest.rest.now c.args.comparisons.now
    c.loop-rest.comparisons
    c.loop-rest.invariant c.loop-rest.self c.loop-rest.comparisons
    (pays_none c.loop-rest.self c.loop-rest.rest.now c.loop-rest.comparisons)

pub returns-in-Wrong-clause-paid : goal.returns-in-Wrong-clause-paid
returns-in-Wrong-clause-paid g c = pays_none c.args.self.now c.args.piece.now c.args.comparisons.now

pub returns-in-NoMemory-clause-paid : goal.returns-in-NoMemory-clause-paid
returns-in-NoMemory-clause-paid g c = pays_none c.args.self.now c.args.piece.now c.args.comparisons.now

pub returns-in_err-count-clause-failed : goal.returns-in_err-count-clause-failed
returns-in_err-count-clause-failed g c =
    err_of c.from_residual.result c.from_residual.ensures.0 c.in_err-count.ensures.failed

pub returns-in-NoMemory-clause-room : goal.returns-in-NoMemory-clause-room
returns-in-NoMemory-clause-room g c text stands = absurd (stands_not c.args.self.now text
    (ap (λ (j : Judged). j.found) (sym c.self.view_is) ∙ c.in-NoMemory.is) stands)

pub returns-in-NoMemory-clause-decided : goal.returns-in-NoMemory-clause-decided
returns-in-NoMemory-clause-decided g c text stands _ = absurd (stands_not c.args.self.now text
    (ap (λ (j : Judged). j.found) (sym c.self.view_is) ∙ c.in-NoMemory.is) stands)
