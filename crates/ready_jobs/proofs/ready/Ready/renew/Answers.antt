use Rattle.std.proofs.Common.{ap, ◌∙◌, length}
use Rattle.ready_jobs.specs.Course.{Course}
use Rattle.ready_jobs.proofs.Courses.{renewed_course}
use Rattle.ready_jobs.proofs.ready.Ready.renew.Goals as goal

pub invariant_of-self : goal.invariant_of-self
invariant_of-self c =
    let i = c.self.inside in
    renewed_course _ c.self.invariant (ap (λ (d : Course). length d.ready) c.self.view_is ∙ c.requires)
