use Rattle.std.proofs.Common.{sym, subst, ap, ◌∙◌}
use Rattle.dover_model.specs.Verdict.{expected_after}
use Rattle.trace_judge.specs.Reads.{IsPaid, Reading, ReadsAhead}
use Rattle.trace_judge.proofs.Paying.{paid_on}
use Rattle.trace_judge.proofs.Readings.{opens_of, ends_of, ended_due, named_ahead, named_due, next_reader, kept_on}
use Rattle.trace_judge.proofs.reader.TraceReader.due.Goals as goal

pub invariant_of-self : goal.invariant_of-self
invariant_of-self g c = next_reader _ c.self.invariant c.upcoming.new.self c.upcoming.result c.in-Going.is
    c.upcoming.ensures.next
    (kept_on c.self.inside.course c.upcoming.new.self c.upcoming.ensures.kept c.upcoming.ensures.fewer)

pub returns-in-Going-clause-due : goal.returns-in-Going-clause-due
returns-in-Going-clause-due g c =
    named_due _ _ c.self.view_is c.upcoming.new.self c.upcoming.result c.in-Going.is c.upcoming.ensures.next

pub returns-in-Going-clause-ahead : goal.returns-in-Going-clause-ahead
returns-in-Going-clause-ahead g c =
    named_ahead _ _ c.self.view_is c.upcoming.new.self c.upcoming.result c.in-Going.is c.upcoming.ensures.next

pub returns-in-Ended-clause-due : goal.returns-in-Ended-clause-due
returns-in-Ended-clause-due g c ls reads =
    let it = ends_of _ ls c.in-Ended.is (subst (λ v. ReadsAhead v ls) (sym c.self.view_is) reads) in
    ended_due _ ls it.0 it.1

pub returns-in-Going-clause-paid : goal.returns-in-Going-clause-paid
returns-in-Going-clause-paid g c start paid = paid_on _ c.upcoming.new.self _ start c.args.comparisons.now
    c.upcoming.new.comparisons
    (subst (λ (r : Reading). IsPaid r start c.args.comparisons.now) (sym c.self.view_is) paid)
    (c.upcoming.ensures.paid start) (c.upcoming.ensures.freely start)

pub returns-in-Opening-clause-due : goal.returns-in-Opening-clause-due
returns-in-Opening-clause-due g c ls reads = ap expected_after (opens_of c.args.self.now ls
    (ap (λ (r : Reading). r.stage) (sym c.self.view_is) ∙ c.in-Opening.is) reads).lines

pub returns-in-Going-clause-kept : goal.returns-in-Going-clause-kept
returns-in-Going-clause-kept g c =
    ap (λ (r : Reading). record r { course = c.upcoming.new.self }) c.self.view_is
