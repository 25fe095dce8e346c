use Rattle.std.proofs.Common.{◌<◌, length, sym, ap, ◌∙◌, subst}
use Rattle.dover_model.specs.declared.events.Event.TheVariants.{End}
use Rattle.dover_model.specs.Leading.{PrintsNext}
use Rattle.ready_jobs.specs.Course.{Course}
use Rattle.ready_jobs.proofs.Courses.{some_jobs}
use Rattle.ready_jobs.proofs.SilentCourses.{over_next}
use Rattle.ready_jobs.proofs.ready.Ready.upcoming.Goals as goal

pub returns-then-is_empty-clause-next : goal.returns-then-is_empty-clause-next
returns-then-is_empty-clause-next g c J z follows = (
  z,
  follows,
  subst (λ n. PrintsNext J.rules z (End n) z) (sym (ap (λ (d : Course). d.done) c.self.view_is))
      (over_next c.args.self.now J z follows
      (sym (ap (λ (d : Course). d.ready) c.self.view_is)
      ∙ c.is_empty.ensures.0 c.if-is_empty.true)),
)

pub due_next-requires : goal.due_next-requires
due_next-requires g c = record {
  some = subst (λ (d : Course). 0 < length d.ready) c.self.view_is
      (some_jobs _ c.is_empty.result c.if-is_empty.false c.is_empty.ensures.1);
}

pub returns-clause-kept : goal.returns-clause-kept
returns-clause-kept g c = c.due_next.ensures.kept

pub returns-clause-fewer : goal.returns-clause-fewer
returns-clause-fewer g c = c.due_next.ensures.fewer

pub returns-clause-paid : goal.returns-clause-paid
returns-clause-paid g c = c.due_next.ensures.paid

pub returns-clause-freely : goal.returns-clause-freely
returns-clause-freely g c = c.due_next.ensures.freely
