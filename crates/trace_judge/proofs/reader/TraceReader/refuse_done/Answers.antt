use Rattle.std.proofs.Common.{sym, subst, arith, ap, ◌∙◌}
use Rattle.trace_judge.specs.Reads.{IsPaid, Reading}
use Rattle.trace_judge.proofs.Readings.{few_items, unchanged_on}
use Rattle.trace_judge.proofs.Refusals.{not_waited, refused_few, refused_took, refused_reader, done_line, done_named}
use Rattle.trace_judge.proofs.Refusals.{done_not, done_may, done_right}
use Rattle.trace_judge.proofs.reader.TraceReader.refuse_done.Goals as goal

pub returns-then-not-may_refuse_done-clause-took : goal.returns-then-not-may_refuse_done-clause-took
returns-then-not-may_refuse_done-clause-took g c = done_not c.args.at c.args.tick c.args.number c.requires.form
    c.args.self.now c.requires.going (c.may_refuse_done.ensures.no c.if-not-may_refuse_done.true)

pub returns-then-not-waits_until-clause-took : goal.returns-then-not-waits_until-clause-took
returns-then-not-waits_until-clause-took g c = not_waited
    (done_line c.args.at c.args.tick c.args.number c.requires.form)
    (done_named c.args.at c.args.tick c.args.number c.requires.form)
    c.args.self.now c.requires.going
    c.waits_until.new.self (c.waits_until.ensures.no c.if-not-waits_until.true) c.waits_until.ensures.ahead

pub returns-then-is_right_done-clause-took : goal.returns-then-is_right_done-clause-took
returns-then-is_right_done-clause-took g c = done_right c.args.at c.args.tick c.args.number c.requires.form
    c.args.self.now c.waits_until.new.self c.requires.going c.waits_until.ensures.ahead
    (c.waits_until.ensures.yes c.if-not-waits_until.false)
    (λ ls S z y waited. sym c.if-is_right_done.true ∙ c.is_right_done.ensures ls S z y waited)

pub invariant_of-self : goal.invariant_of-self
invariant_of-self g c = refused_reader
    (done_line c.args.at c.args.tick c.args.number c.requires.form)
    (done_named c.args.at c.args.tick c.args.number c.requires.form)
    c.args.self.now c.requires.going _ c.waits_until.new.self c.self-2.view_is c.waits_until.ensures.kept
    (c.may_refuse_done.ensures.yes c.if-not-may_refuse_done.false).1
    (c.may_refuse_done.ensures.yes c.if-not-may_refuse_done.false).3
    (done_may c.args.at c.args.tick c.args.number c.requires.form c.args.self.now c.waits_until.new.self
    (c.may_refuse_done.ensures.yes c.if-not-may_refuse_done.false).0
    (c.may_refuse_done.ensures.yes c.if-not-may_refuse_done.false).2
    (λ ls S z y waited. sym c.if-is_right_done.false ∙ c.is_right_done.ensures ls S z y waited))
    (c.waits_until.ensures.yes c.if-not-waits_until.false) c.self-2.invariant _ c.self.view_is c.self.invariant

pub returns-clause-took : goal.returns-clause-took
returns-clause-took g c = refused_took
    (done_line c.args.at c.args.tick c.args.number c.requires.form)
    (done_named c.args.at c.args.tick c.args.number c.requires.form)
    c.args.self.now c.requires.going _ c.waits_until.new.self c.self-2.view_is c.waits_until.ensures.kept
    (c.may_refuse_done.ensures.yes c.if-not-may_refuse_done.false).1
    (c.may_refuse_done.ensures.yes c.if-not-may_refuse_done.false).3
    (done_may c.args.at c.args.tick c.args.number c.requires.form c.args.self.now c.waits_until.new.self
    (c.may_refuse_done.ensures.yes c.if-not-may_refuse_done.false).0
    (c.may_refuse_done.ensures.yes c.if-not-may_refuse_done.false).2
    (λ ls S z y waited. sym c.if-is_right_done.false ∙ c.is_right_done.ensures ls S z y waited))
    (c.waits_until.ensures.yes c.if-not-waits_until.false)

pub returns-clause-paid : goal.returns-clause-paid
returns-clause-paid g c start paid =
    subst (λ (r : Reading). IsPaid r start c.waits_until.new.comparisons) (sym c.self-2.view_is)
    (c.waits_until.ensures.paid start paid)

pub overflow_add-self-2 : goal.overflow_add-self-2
overflow_add-self-2 g c = let same = c.self-2.view_is ∙ c.waits_until.ensures.kept in omega (
  arith,
  refused_few _ c.self-2.invariant (ap (λ (r : Reading). r.stage) same ∙ c.requires.going),
  ap (λ (r : Reading). r.items) same,
  few_items _ _ (c.may_refuse_done.ensures.yes c.if-not-may_refuse_done.false).3,
)

pub returns-then-not-waits_until-clause-kept : goal.returns-then-not-waits_until-clause-kept
returns-then-not-waits_until-clause-kept g c = unchanged_on c.args.self.now c.waits_until.new.self
    c.waits_until.ensures.kept c.waits_until.ensures.course.jobs

pub returns-then-not-waits_until-clause-paid : goal.returns-then-not-waits_until-clause-paid
returns-then-not-waits_until-clause-paid g c = c.waits_until.ensures.paid

pub returns-then-is_right_done-clause-kept : goal.returns-then-is_right_done-clause-kept
returns-then-is_right_done-clause-kept g c = unchanged_on c.args.self.now c.waits_until.new.self
    c.waits_until.ensures.kept c.waits_until.ensures.course.jobs

pub returns-then-is_right_done-clause-paid : goal.returns-then-is_right_done-clause-paid
returns-then-is_right_done-clause-paid g c = c.waits_until.ensures.paid

pub is_right_done-requires : goal.is_right_done-requires
is_right_done-requires g c = record { low = (c.may_refuse_done.ensures.yes c.if-not-may_refuse_done.false).2 }
