use Rattle.std.proofs.Common.{[], sym, subst}
use Rattle.dover_model.specs.State.{opening}
use Rattle.ready_jobs.specs.Course.{Follows, course_of}
use Rattle.ready_jobs.proofs.Courses.{new_follows}
use Rattle.ready_jobs.proofs.ready.Ready.new.Goals as goal

pub invariant_of-result : goal.invariant_of-result
invariant_of-result c = (
  record { rules = record { ratio = c.args.ratio; version = c.args.version; finishes = [] }; jobs = [] },
  opening [],
  subst (λ p. Follows (course_of c.args.ratio p 0 0)
      (record { rules = record { ratio = c.args.ratio; version = c.args.version; finishes = [] }; jobs = [] })
      (opening []))
      (sym c.in_ok-new.ensures)
      (new_follows (record { ratio = c.args.ratio; version = c.args.version }) 0 c.p.ensures.ratio),
)
