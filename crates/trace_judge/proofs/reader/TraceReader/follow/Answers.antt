use Rattle.std.proofs.Common.{◌∙◌, sym, ap, subst, arith, max, refl}
use Rattle.ready_jobs.proofs.ChangedCourses.{ends_next}
use Rattle.trace_judge.specs.Reads.{IsPaid, Reading}
use Rattle.trace_judge.proofs.Paying.{paid_on, paid_late}
use Rattle.trace_judge.proofs.Readings.{next_reader, followed_on}
use Rattle.trace_judge.proofs.Taking.{step_room, not_due, ended_took, ended_reader, stepped_took, stepped_reader}
use Rattle.trace_judge.proofs.reader.TraceReader.follow.Goals as goal

pub invariant_of-self : goal.invariant_of-self
invariant_of-self g c =
    let it = c.follow.ensures.no c.if-not-follow.true in
    next_reader _ c.self.invariant c.follow.new.self it.0
    (ap (λ (r : Reading). r.stage) c.self.view_is ∙ c.requires.going) it.1
    (followed_on c.self.inside.course c.follow.new.self c.follow.ensures.kept c.follow.ensures.fewer)

pub returns-then-not-follow-clause-followed : goal.returns-then-not-follow-clause-followed
returns-then-not-follow-clause-followed g c =
    let it = c.follow.ensures.no c.if-not-follow.true in
    not_due _ _ c.self.view_is c.requires.going c.follow.new.self it.0 it.1 c.args.event.now
    c.requires.form it.2

pub keep_step-requires : goal.keep_step-requires
keep_step-requires g c keep =
    let it = c.follow.ensures.yes c.if-not-follow.false in
    omega (
      arith,
      step_room _ _ c.self.view_is c.requires.going it.there c.args.event.now it.comes c.self.invariant keep,
      c.self.inside.steps.ok.0,
    )

pub invariant_of-self-then-is_end : goal.invariant_of-self-then-is_end
invariant_of-self-then-is_end g c =
    let it = c.follow.ensures.yes c.if-not-follow.false in
    let last = sym c.is_end.ensures ∙ c.if-is_end.true in
    ended_reader _ _ c.self.view_is c.requires.going c.follow.new.self c.args.event.now
    (ends_next c.self.inside.course c.follow.new.self c.args.event.now it last) c.args.event.now c.requires.form
    refl c.keep_step.new.steps.items _ c.keep_step.ensures.items c.keep_step.ensures.room last
    c.clock-self-inside.result c.self.invariant
    (followed_on c.self.inside.course c.follow.new.self c.follow.ensures.kept c.follow.ensures.fewer)

pub returns-then-is_end-clause-followed : goal.returns-then-is_end-clause-followed
returns-then-is_end-clause-followed g c =
    let it = c.follow.ensures.yes c.if-not-follow.false in
    let last = sym c.is_end.ensures ∙ c.if-is_end.true in
    ended_took _ _ c.self.view_is c.requires.going c.follow.new.self c.args.event.now
    (ends_next c.self.inside.course c.follow.new.self c.args.event.now it last) c.args.event.now c.requires.form
    refl c.keep_step.new.steps.items _ c.keep_step.ensures.items c.keep_step.ensures.room last
    c.clock-self-inside.result

pub invariant_of-self-2 : goal.invariant_of-self-2
invariant_of-self-2 g c =
    let it = c.follow.ensures.yes c.if-not-follow.false in
    stepped_reader _ _ c.self.view_is c.requires.going it.there c.args.event.now it.comes c.args.event.now
    c.requires.form refl c.keep_step.new.steps.items _ c.keep_step.ensures.items c.keep_step.ensures.room
    (sym c.is_end.ensures ∙ c.if-is_end.false) c.follow.new.self it.passes
    c.clock-self-inside.result c.max-self-inside.result (c.clock-self-inside.ensures.is ∙ it.clock)
    (c.max-self-inside.ensures ∙ ap (max c.self.inside.floor) c.floor_after-floor.ensures) c.self.invariant
    (followed_on c.self.inside.course c.follow.new.self c.follow.ensures.kept c.follow.ensures.fewer)

pub returns-clause-followed : goal.returns-clause-followed
returns-clause-followed g c =
    let it = c.follow.ensures.yes c.if-not-follow.false in
    stepped_took _ _ c.self.view_is c.requires.going it.there c.args.event.now it.comes c.args.event.now
    c.requires.form refl c.keep_step.new.steps.items _ c.keep_step.ensures.items c.keep_step.ensures.room
    (sym c.is_end.ensures ∙ c.if-is_end.false) c.follow.new.self it.passes
    c.clock-self-inside.result c.max-self-inside.result (c.clock-self-inside.ensures.is ∙ it.clock)
    (c.max-self-inside.ensures ∙ ap (max c.self.inside.floor) c.floor_after-floor.ensures)

pub returns-then-not-follow-clause-paid : goal.returns-then-not-follow-clause-paid
returns-then-not-follow-clause-paid g c start paid = paid_on _ c.follow.new.self _ start c.args.comparisons.now
    c.follow.new.comparisons (subst (λ (r : Reading). IsPaid r start c.args.comparisons.now) (sym c.self.view_is) paid)
    (c.follow.ensures.paid start) (c.follow.ensures.freely c.if-not-follow.true start)

pub returns-then-is_end-clause-paid : goal.returns-then-is_end-clause-paid
returns-then-is_end-clause-paid g c start paid = paid_late c.follow.new.self c.clock-self-inside.result start
    c.follow.new.comparisons (c.follow.ensures.paid start
    (subst (λ (r : Reading). IsPaid r start c.args.comparisons.now) (sym c.self.view_is) paid).paid)
    (omega (arith, c.clock-self-inside.ensures.is))

pub returns-clause-paid : goal.returns-clause-paid
returns-clause-paid g c start paid = paid_late c.follow.new.self c.clock-self-inside.result start
    c.follow.new.comparisons (c.follow.ensures.paid start
    (subst (λ (r : Reading). IsPaid r start c.args.comparisons.now) (sym c.self.view_is) paid).paid)
    (omega (arith, c.clock-self-inside.ensures.is))
