use Rattle.std.proofs.Common.{ap, ◌∙◌}
use Rattle.ready_jobs.specs.Course.{successor_of}
use Rattle.ready_jobs.proofs.Courses.{course_part}
use Rattle.ready_jobs.proofs.Silences.{known_sound}
use Rattle.ready_jobs.proofs.ready.Ready.successor.Goals as goal

pub successor-requires : goal.successor-requires
successor-requires c =
    let i = c.self.inside in
    known_sound _ i.parts c.laws.ensures.roles (course_part i.ratio i.parts i.jobs i.done c.self.invariant)

pub returns : goal.returns
returns c = c.successor.ensures ∙ ap successor_of c.self.view_is
