use Rattle.std.proofs.Common.{◌∙◌, sym, ap, subst, arith}
use Rattle.dover_model.proofs.lists.Tests.{never}
use Rattle.trace_judge.specs.Reads.{IsPaid, Reading}
use Rattle.trace_judge.proofs.Paying.{paid_on}
use Rattle.trace_judge.proofs.Readings.{kept_on}
use Rattle.trace_judge.proofs.Taking.{settled_ahead, settled_yes, settled_no, settled_reader, is_nothing, is_something}
use Rattle.trace_judge.proofs.reader.TraceReader.waits_until.Goals as goal

pub invariant_of-self : goal.invariant_of-self
invariant_of-self g c = settled_reader _ c.self.invariant c.settle.new.self c.args.tick c.settle.result
    (ap (λ (r : Reading). r.stage) c.self.view_is ∙ c.requires.going) c.settle.ensures.settled c.settle.ensures.low
    (kept_on c.self.inside.course c.settle.new.self c.settle.ensures.kept c.settle.ensures.fewer)

pub returns-clause-yes : goal.returns-clause-yes
returns-clause-yes g c quiet =
    settled_yes _ _ c.self.view_is c.settle.new.self c.args.tick c.settle.result c.settle.ensures.settled
    c.settle.ensures.low
    (is_nothing c.settle.result c.is_none.result c.is_none.ensures quiet)
    (omega (arith, c.if-self-tick.false))
    (omega (arith, c.if-clock-tick.false, c.clock.ensures.is))

pub returns-clause-no : goal.returns-clause-no
returns-clause-no g c loud floor =
    let some = is_something c.settle.result c.is_none.result c.is_none.ensures loud in
    settled_no _ _ c.self.view_is c.settle.new.self c.args.tick c.settle.result c.settle.ensures.settled
    c.settle.ensures.low some.0 some.1

pub returns-clause-ahead : goal.returns-clause-ahead
returns-clause-ahead g c =
    settled_ahead _ _ c.self.view_is c.settle.new.self c.args.tick c.settle.result c.settle.ensures.settled
    c.settle.ensures.low
    (ap (λ (r : Reading). r.stage) c.self.view_is ∙ c.requires.going)

pub returns-clause-paid : goal.returns-clause-paid
returns-clause-paid g c start paid = paid_on _ c.settle.new.self _ start c.args.comparisons.now c.settle.new.comparisons
    (subst (λ (r : Reading). IsPaid r start c.args.comparisons.now) (sym c.self.view_is) paid)
    (c.settle.ensures.paid start) (c.settle.ensures.freely start)

pub returns-clause-kept : goal.returns-clause-kept
returns-clause-kept g c =
    ap (λ (r : Reading). record r { course = c.settle.new.self }) c.self.view_is

pub returns-then-self-tick-clause-no : goal.returns-then-self-tick-clause-no
returns-then-self-tick-clause-no g c _ floor _ _ _ _ _ _ =
    absurd (omega (arith, floor, c.if-self-tick.true, ap (λ (r : Reading). r.floor) c.self.view_is))

pub returns-then-self-tick-clause-yes : goal.returns-then-self-tick-clause-yes
returns-then-self-tick-clause-yes g c clash = never clash

pub returns-then-clock-tick-clause-yes : goal.returns-then-clock-tick-clause-yes
returns-then-clock-tick-clause-yes g c clash = never clash
