use Rattle.std.proofs.Common.{ap, ◌∙◌, sym, subst}
use Rattle.ready_jobs.specs.Course.{Course, IsCourse, course_of}
use Rattle.ready_jobs.proofs.Courses.{declared_course, none_ready}
use Rattle.ready_jobs.proofs.Silences.{none_waits}
use Rattle.ready_jobs.proofs.ready.Ready.declare.Goals as goal

pub declare-requires-clause-none : goal.declare-requires-clause-none
declare-requires-clause-none c =
    let i = c.self.inside in
    none_waits i.parts (none_ready _ c.self.invariant (ap (λ (d : Course). d.jobs) c.self.view_is ∙ c.requires.none))

pub invariant_of-self : goal.invariant_of-self
invariant_of-self c =
    let i = c.self.inside in
    subst (λ q. IsCourse (course_of c.args.ratio q i.jobs i.done)) (sym c.declare.ensures)
    (declared_course (course_of i.ratio i.parts i.jobs i.done)
    (record { ratio = c.args.ratio; version = c.args.version }) c.self.invariant
    (ap (λ (d : Course). d.jobs) c.self.view_is ∙ c.requires.none) c.p.ensures.ratio)
