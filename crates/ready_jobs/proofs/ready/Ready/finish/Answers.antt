use Rattle.std.proofs.Common.{◌+◌, sym, ap, ◌∙◌, subst, refl, arith}
use Rattle.dover_model.specs.declared.events.Task.{Task}
use Rattle.ready_jobs.specs.Parts.{Parted}
use Rattle.ready_jobs.specs.Course.{Finishes, RunsNowhere, course_of}
use Rattle.ready_jobs.specs.Spending.{HasPaid, HasPaidFreely}
use Rattle.dover_model.proofs.lists.Members.{some_same}
use Rattle.dover_model.proofs.lists.Tests.{none_is_some}
use Rattle.ready_jobs.proofs.Courses.{follows_modest}
use Rattle.ready_jobs.proofs.ChangedCourses.{course_finishes, finished_course, runs_nowhere}
use Rattle.ready_jobs.proofs.Spending.{finish_pays}
use Rattle.ready_jobs.proofs.ready.Ready.finish.Goals as goal

pub returns-in_default-clause-no : goal.returns-in_default-clause-no
returns-in_default-clause-no c _ =
    let i = c.self.inside in (
      subst (λ d. RunsNowhere d c.args.number) c.self.view_is
          (runs_nowhere i.ratio i.parts i.jobs i.done c.laws.ensures.roles c.args.number
          (λ r runs named. none_is_some (sym c.in_default.is ∙ c.running.ensures.is ∙ runs))),
      refl,
    )

pub returns-then-from-number-clause-no : goal.returns-then-from-number-clause-no
returns-then-from-number-clause-no c _ =
    let i = c.self.inside in (
      subst (λ d. RunsNowhere d c.args.number) c.self.view_is
          (runs_nowhere i.ratio i.parts i.jobs i.done c.laws.ensures.roles c.args.number
          (λ r runs named. c.if-from-number.true (c.from.ensures
          ∙ ap (λ (t : Task). t.number)
          (some_same c.in-Some.r r (sym c.in-Some.is ∙ c.running.ensures.is ∙ runs)) ∙ named))),
      refl,
    )

pub overflow_add-self : goal.overflow_add-self
overflow_add-self c =
    let i = c.self.inside in
    let new = finished_course i.ratio i.parts c.complete.new.self i.jobs i.done c.value.result c.laws.ensures.roles
    c.in-Some.r (sym c.running.ensures.is ∙ c.in-Some.is) c.complete.ensures c.value.ensures.is c.self.invariant in
    omega (
      arith,
      follows_modest (course_of i.ratio c.complete.new.self i.jobs (i.done + c.value.result)) new.0 new.1 new.2,
    )

pub invariant_of-self : goal.invariant_of-self
invariant_of-self c =
    let i = c.self.inside in
    finished_course i.ratio i.parts c.complete.new.self i.jobs i.done c.value.result c.laws.ensures.roles
    c.in-Some.r (sym c.running.ensures.is ∙ c.in-Some.is) c.complete.ensures c.value.ensures.is c.self.invariant

pub returns-clause-yes : goal.returns-clause-yes
returns-clause-yes c _ =
    let i = c.self.inside in
    let q : Parted = c.complete.new.self in
    subst (λ d. Finishes d c.args.number (course_of i.ratio q i.jobs (i.done + c.value.result))) c.self.view_is
    (course_finishes _ _ _ _ _ _ c.laws.ensures.roles _ (sym c.running.ensures.is ∙ c.in-Some.is) c.complete.ensures
    c.value.ensures.is _ (sym c.from.ensures ∙ c.if-from-number.false))

pub returns-clause-paid : goal.returns-clause-paid
returns-clause-paid c start now paid freely =
    let i = c.self.inside in
    subst (λ q. HasPaid (course_of i.ratio q i.jobs (i.done + c.value.result)) start now) (sym c.complete.ensures)
    (finish_pays i.ratio i.parts i.jobs i.done c.value.result c.laws.ensures.roles start now
    (subst (λ d. HasPaidFreely d start now) (sym c.self.view_is) (freely refl)))
