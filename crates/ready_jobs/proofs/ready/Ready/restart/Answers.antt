use Rattle.std.proofs.Common.{ap, ◌∙◌, sym, subst, length}
use Rattle.ready_jobs.specs.Course.{Course, IsCourse, course_of, new_course}
use Rattle.ready_jobs.proofs.Courses.{restarted, restarted_course}
use Rattle.ready_jobs.proofs.ready.Ready.restart.Goals as goal

pub invariant_of-self : goal.invariant_of-self
invariant_of-self c =
    let i = c.self.inside in
    subst IsCourse (sym (restarted i.ratio i.parts c.reset_clock.new.self i.jobs i.done c.self.invariant
    (ap (λ (d : Course). length d.ready) c.self.view_is ∙ c.requires) c.reset_clock.ensures))
    (restarted_course (course_of i.ratio i.parts i.jobs i.done) c.self.invariant)

pub returns-clause-anew : goal.returns-clause-anew
returns-clause-anew c =
    let i = c.self.inside in
    restarted i.ratio i.parts c.reset_clock.new.self i.jobs i.done c.self.invariant
    (ap (λ (d : Course). length d.ready) c.self.view_is ∙ c.requires) c.reset_clock.ensures
    ∙ ap (λ (d : Course). new_course d.rules d.room) c.self.view_is
