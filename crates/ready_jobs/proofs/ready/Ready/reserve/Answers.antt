use Rattle.std.proofs.Common.{sym, ap, ◌∙◌, subst}
use Rattle.ready_jobs.specs.Course.{Follows, course_of}
use Rattle.ready_jobs.proofs.Courses.{follows_room}
use Rattle.ready_jobs.proofs.ready.Ready.reserve.Goals as goal

pub invariant_of-self : goal.invariant_of-self
invariant_of-self c =
    let i = c.self.inside in
    let old = c.self.invariant in
    let q = c.reserve.new.self in
    let same = c.reserve.ensures.kept
    ∙ ap (λ ts. record i.parts { waiting = ts; room = q.room }) c.reserve.ensures.same in (
      old.0,
      old.1,
      subst (λ p. Follows (course_of i.ratio p i.jobs i.done) old.0 old.1) (sym same)
          (follows_room (course_of i.ratio i.parts i.jobs i.done) q.room old.0 old.1 old.2),
    )
