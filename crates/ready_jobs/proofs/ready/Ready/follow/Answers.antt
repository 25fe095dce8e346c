use Rattle.std.proofs.Common.{◌<◌, length, refl, sym, ap, ◌∙◌, subst}
use Rattle.std.proofs.lemmas.Bool.{false≢true}
use Rattle.dover_model.specs.declared.events.Event.TheVariants.{End}
use Rattle.dover_model.specs.Common.{event_of, Prints}
use Rattle.ready_jobs.specs.Course.{Course, Follows, ComesNext, Takes}
use Rattle.ready_jobs.specs.Deeds.{step_at}
use Rattle.ready_jobs.proofs.Courses.{some_jobs, due_now, kept_on}
use Rattle.ready_jobs.proofs.SilentCourses.{over_next, reached_comes}
use Rattle.ready_jobs.proofs.ChangedCourses.{over_takes}
use Rattle.ready_jobs.proofs.Naming.{same_event}
use Rattle.ready_jobs.proofs.ready.Ready.follow.Goals as goal

pub returns-then-is_empty-clause-yes : goal.returns-then-is_empty-clause-yes
returns-then-is_empty-clause-yes g c is =
    let now = c.args.self.now in
    subst (λ e. Takes now e now)
    (sym (c.is_end_with.ensures.0 is ∙ ap (λ (d : Course). End d.done) c.self.view_is))
    (over_takes now (sym (ap (λ (d : Course). d.ready) c.self.view_is) ∙ c.is_empty.ensures.0 c.if-is_empty.true))

pub returns-then-is_empty-clause-no : goal.returns-then-is_empty-clause-no
returns-then-is_empty-clause-no g c other =
    let now = c.args.self.now in
    let none = sym (ap (λ (d : Course). d.ready) c.self.view_is) ∙ c.is_empty.ensures.0 c.if-is_empty.true in (
      End now.done,
      λ J z follows. (z, follows, over_next now J z follows none),
      λ same. false≢true (sym other
          ∙ c.is_end_with.ensures.1 (sym same ∙ sym (ap (λ (d : Course). End d.done) c.self.view_is))),
    )

pub returns-then-not-prints-clause-no : goal.returns-then-not-prints-clause-no
returns-then-not-prints-clause-no g c other =
    let d = c.go_on-action.new.self in
    let at = c.clock.ensures ∙ ap (λ (d : Course). d.clock) c.self-2.view_is in
    let it = reached_comes c.args.self.now d (step_at d.clock c.go_on-action.result) c.go_on-action.ensures.reached (
      c.self.invariant.0,
      c.self.invariant.1,
      subst (λ d. Follows d c.self.invariant.0 c.self.invariant.1) c.self.view_is c.self.invariant.2,
    ) in (
      it.0,
      it.2,
      λ same. false≢true (sym c.if-not-prints.true
          ∙ c.prints.ensures.1 (ap (λ n. step_at n c.go_on-action.result) at ∙ it.1 ∙ ap Prints same)),
    )

pub returns-clause-yes : goal.returns-clause-yes
returns-clause-yes g c is =
    let d = c.go_on-action.new.self in
    let at = c.clock.ensures ∙ ap (λ (d : Course). d.clock) c.self-2.view_is in
    let it = reached_comes c.args.self.now d (step_at d.clock c.go_on-action.result) c.go_on-action.ensures.reached (
      c.self.invariant.0,
      c.self.invariant.1,
      subst (λ d. Follows d c.self.invariant.0 c.self.invariant.1) c.self.view_is c.self.invariant.2,
    ) in
    let same = same_event it.0 c.args.event.now (sym it.1 ∙ ap (λ n. step_at n c.go_on-action.result) (sym at)
    ∙ c.prints.ensures.0 c.if-not-prints.false) in
    record {
      there = d;
      comes = subst (ComesNext c.args.self.now d) same it.2;
      passes = c.take.ensures.after;
      clock = ap (λ (d : Course). d.clock) c.take.ensures.kept;
    }

pub returns-clause-paid : goal.returns-clause-paid
returns-clause-paid g c start paid = c.take.ensures.paid start (c.go_on-action.ensures.paid start paid)

pub go_on-action-requires-clause-some : goal.go_on-action-requires-clause-some
go_on-action-requires-clause-some g c =
    subst (λ (d : Course). 0 < length d.ready) c.self.view_is
    (some_jobs _ c.is_empty.result c.if-is_empty.false c.is_empty.ensures.1)

pub take-requires : goal.take-requires
take-requires g c =
    let at = c.clock.ensures ∙ ap (λ (d : Course). d.clock) c.self-2.view_is in
    due_now c.go_on-action.new.self c.clock.result c.go_on-action.result c.args.event.now at c.go_on-action.ensures.step
    c.go_on-action.ensures.finds (ap event_of (c.prints.ensures.0 c.if-not-prints.false))

pub returns-clause-freely : goal.returns-clause-freely
returns-clause-freely g c other = absurd (false≢true (sym other))

pub returns-clause-no : goal.returns-clause-no
returns-clause-no g c other = absurd (false≢true (sym other))

pub returns-clause-kept : goal.returns-clause-kept
returns-clause-kept g c = kept_on c.args.self.now c.go_on-action.new.self c.take.new.self c.go_on-action.ensures.kept
    c.take.ensures.kept

pub returns-then-not-prints-clause-freely : goal.returns-then-not-prints-clause-freely
returns-then-not-prints-clause-freely g c other = c.go_on-action.ensures.freely

pub returns-then-not-prints-clause-paid : goal.returns-then-not-prints-clause-paid
returns-then-not-prints-clause-paid g c = c.go_on-action.ensures.paid

pub returns-then-not-prints-clause-yes : goal.returns-then-not-prints-clause-yes
returns-then-not-prints-clause-yes g c is = absurd (false≢true is)

pub returns-then-not-prints-clause-kept : goal.returns-then-not-prints-clause-kept
returns-then-not-prints-clause-kept g c =
    let d = c.go_on-action.new.self in kept_on c.args.self.now d d c.go_on-action.ensures.kept refl
