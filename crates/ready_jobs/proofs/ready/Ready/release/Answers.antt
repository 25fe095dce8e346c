use Rattle.std.proofs.Common.{◌≤◌, ◌+◌, ◌++◌, ◌∷◌, [], sym, ap, subst, arith}
use Rattle.dover_model.specs.Common.{state_at, HasSpentFor}
use Rattle.waiting_pool.specs.Reordered.{IsReordered}
use Rattle.ready_jobs.specs.Parts.{Parted, ready_of}
use Rattle.ready_jobs.specs.Course.{Course, IsCourse, course_of, with_release, fresh_job}
use Rattle.ready_jobs.specs.Spending.{HasPaid}
use Rattle.ready_jobs.proofs.Courses.{course_few}
use Rattle.ready_jobs.proofs.ChangedCourses.{come_stale, come_course, come_order}
use Rattle.ready_jobs.proofs.Spending.{release_pays}
use Rattle.ready_jobs.proofs.ready.Ready.release.Goals as goal

pub come-requires-clause-stale : goal.come-requires-clause-stale
come-requires-clause-stale c =
    let i = c.self.inside in
    come_stale i.ratio i.parts i.jobs i.done c.args.job c.laws.ensures.roles
    (subst (λ (d : Course). IsCourse (with_release d c.args.job d.room)) (sym c.self.view_is) c.requires.course)

pub invariant_of-self : goal.invariant_of-self
invariant_of-self c =
    let i = c.self.inside in
    come_course i.ratio i.parts i.jobs i.done c.args.job c.laws.ensures.roles
    (subst (λ (d : Course). IsCourse (with_release d c.args.job d.room)) (sym c.self.view_is) c.requires.course)
    c.come.new.self c.come.ensures

pub returns-clause-ready : goal.returns-clause-ready
returns-clause-ready c =
    let i = c.self.inside in
    subst (λ (d : Course). IsReordered (d.ready ++ fresh_job d c.args.job ∷ []) (ready_of c.come.new.self))
    c.self.view_is
    (come_order i.ratio i.parts i.jobs i.done c.args.job c.laws.ensures.roles
    (subst (λ (d : Course). IsCourse (with_release d c.args.job d.room)) (sym c.self.view_is) c.requires.course)
    c.come.new.self c.come.ensures)

pub returns-clause-paid : goal.returns-clause-paid
returns-clause-paid c start now paid =
    let i = c.self.inside in
    subst (λ t. HasSpentFor (i.jobs + 1) (state_at t (ready_of c.come.new.self)) start now)
    (sym (ap (λ (q : Parted). q.clock) c.come.ensures))
    (release_pays (course_of i.ratio i.parts i.jobs i.done) c.args.job (ready_of c.come.new.self)
    (subst (λ (d : Course). d.clock ≤ c.args.job.release) (sym c.self.view_is) c.requires.ahead)
    (come_order i.ratio i.parts i.jobs i.done c.args.job c.laws.ensures.roles
    (subst (λ (d : Course). IsCourse (with_release d c.args.job d.room)) (sym c.self.view_is) c.requires.course)
    c.come.new.self c.come.ensures) start now
    (subst (λ d. HasPaid d start now) (sym c.self.view_is) paid))

pub overflow_add-self : goal.overflow_add-self
overflow_add-self c =
    omega (arith, course_few _ c.requires.course, ap (λ (d : Course). d.jobs) c.self.view_is)

pub come-requires-clause-number : goal.come-requires-clause-number
come-requires-clause-number c =
    omega (arith, course_few _ c.requires.course, ap (λ (d : Course). d.jobs) c.self.view_is)
