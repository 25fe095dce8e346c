use Rattle.std.proofs.Common.{sym, subst, arith, ap, ◌∙◌}
use Rattle.trace_judge.specs.Reads.{IsPaid, Reading}
use Rattle.trace_judge.proofs.Readings.{few_items, unchanged_on}
use Rattle.trace_judge.proofs.Refusals.{not_waited, refused_few, refused_took, refused_reader, job_line, job_named}
use Rattle.trace_judge.proofs.Refusals.{job_not, job_may, job_roomy}
use Rattle.dover_model.proofs.valid.Limiting.{tick_most}
use Rattle.trace_judge.proofs.reader.TraceReader.refuse.Goals as goal

pub returns-then-not-may_refuse-clause-took : goal.returns-then-not-may_refuse-clause-took
returns-then-not-may_refuse-clause-took g c =
    job_not c.args.at c.args.release c.args.work c.args.deadline c.args.value c.args.cause c.requires.form
    c.args.self.now c.requires.going
    (c.may_refuse.ensures.no c.if-not-may_refuse.true)

pub returns-then-not-waits_until-clause-took : goal.returns-then-not-waits_until-clause-took
returns-then-not-waits_until-clause-took g c = not_waited
    (job_line c.args.at c.args.release c.args.work c.args.deadline c.args.value c.args.cause c.requires.form)
    (job_named c.args.at c.args.release c.args.work c.args.deadline c.args.value c.args.cause c.requires.form)
    c.args.self.now c.requires.going
    c.waits_until.new.self (c.waits_until.ensures.no c.if-not-waits_until.true) c.waits_until.ensures.ahead

pub returns-then-not-bears_out-clause-took : goal.returns-then-not-bears_out-clause-took
returns-then-not-bears_out-clause-took g c =
    job_roomy c.args.at c.args.release c.args.work c.args.deadline c.args.value c.args.cause c.requires.form
    c.args.self.now c.waits_until.new.self c.requires.going c.waits_until.ensures.ahead
    (c.waits_until.ensures.yes c.if-not-waits_until.false)
    (c.bears_out.ensures.is c.if-not-bears_out.true) (c.bears_out.ensures.no c.if-not-bears_out.true)

pub invariant_of-self : goal.invariant_of-self
invariant_of-self g c = refused_reader
    (job_line c.args.at c.args.release c.args.work c.args.deadline c.args.value c.args.cause c.requires.form)
    (job_named c.args.at c.args.release c.args.work c.args.deadline c.args.value c.args.cause c.requires.form)
    c.args.self.now c.requires.going _ c.waits_until.new.self c.self-2.view_is c.waits_until.ensures.kept
    (c.may_refuse.ensures.yes c.if-not-may_refuse.false).1
    (c.may_refuse.ensures.yes c.if-not-may_refuse.false).2
    (job_may c.args.at c.args.release c.args.work c.args.deadline c.args.value c.args.cause c.requires.form
    c.args.self.now c.waits_until.new.self (c.may_refuse.ensures.yes c.if-not-may_refuse.false).0
    (c.may_refuse.ensures.refuses c.if-not-may_refuse.false) (c.bears_out.ensures.yes c.if-not-bears_out.false))
    (c.waits_until.ensures.yes c.if-not-waits_until.false) c.self-2.invariant _ c.self.view_is c.self.invariant

pub returns-clause-took : goal.returns-clause-took
returns-clause-took g c = refused_took
    (job_line c.args.at c.args.release c.args.work c.args.deadline c.args.value c.args.cause c.requires.form)
    (job_named c.args.at c.args.release c.args.work c.args.deadline c.args.value c.args.cause c.requires.form)
    c.args.self.now c.requires.going _ c.waits_until.new.self c.self-2.view_is c.waits_until.ensures.kept
    (c.may_refuse.ensures.yes c.if-not-may_refuse.false).1
    (c.may_refuse.ensures.yes c.if-not-may_refuse.false).2
    (job_may c.args.at c.args.release c.args.work c.args.deadline c.args.value c.args.cause c.requires.form
    c.args.self.now c.waits_until.new.self (c.may_refuse.ensures.yes c.if-not-may_refuse.false).0
    (c.may_refuse.ensures.refuses c.if-not-may_refuse.false) (c.bears_out.ensures.yes c.if-not-bears_out.false))
    (c.waits_until.ensures.yes c.if-not-waits_until.false)

pub returns-clause-paid : goal.returns-clause-paid
returns-clause-paid g c start paid =
    subst (λ (r : Reading). IsPaid r start c.waits_until.new.comparisons) (sym c.self-2.view_is)
    (c.waits_until.ensures.paid start paid)

pub overflow_add-self-2 : goal.overflow_add-self-2
overflow_add-self-2 g c = let same = c.self-2.view_is ∙ c.waits_until.ensures.kept in omega (
  arith,
  refused_few _ c.self-2.invariant (ap (λ (r : Reading). r.stage) same ∙ c.requires.going),
  ap (λ (r : Reading). r.items) same,
  few_items _ _ (c.may_refuse.ensures.yes c.if-not-may_refuse.false).2,
)

pub returns-then-not-waits_until-clause-kept : goal.returns-then-not-waits_until-clause-kept
returns-then-not-waits_until-clause-kept g c = unchanged_on c.args.self.now c.waits_until.new.self
    c.waits_until.ensures.kept c.waits_until.ensures.course.jobs

pub returns-then-not-waits_until-clause-paid : goal.returns-then-not-waits_until-clause-paid
returns-then-not-waits_until-clause-paid g c = c.waits_until.ensures.paid

pub returns-then-not-bears_out-clause-kept : goal.returns-then-not-bears_out-clause-kept
returns-then-not-bears_out-clause-kept g c = unchanged_on c.args.self.now c.waits_until.new.self
    c.waits_until.ensures.kept c.waits_until.ensures.course.jobs

pub returns-then-not-bears_out-clause-paid : goal.returns-then-not-bears_out-clause-paid
returns-then-not-bears_out-clause-paid g c = c.waits_until.ensures.paid

pub waits_until-requires-clause-known : goal.waits_until-requires-clause-known
waits_until-requires-clause-known g c = omega (
  arith,
  (c.may_refuse.ensures.yes c.if-not-may_refuse.false).1,
  tick_most c.args.self.now.kept.rules.version,
)
