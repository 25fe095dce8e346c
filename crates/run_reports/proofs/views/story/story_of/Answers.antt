use Rattle.std.proofs.Common.{arith}
use Rattle.dover_model.proofs.valid.JobLimits.{job_limits}
use Rattle.run_reports.proofs.views.Telling.{story_is}
use Rattle.run_reports.proofs.views.story.story_of.Goals as goal

pub put_weighed-requires-clause-run : goal.put_weighed-requires-clause-run
put_weighed-requires-clause-run c = c.requires

pub put_weighed-requires-clause-value : goal.put_weighed-requires-clause-value
put_weighed-requires-clause-value c =
    omega (arith, c.value.ensures.is, (job_limits c.value.ensures.job).modest)

pub returns : goal.returns
returns c J of same under = story_is c.args.version c.args.k c.args.run.now J of c.args.number c.args.jobs.now same
    under c.args.job.now _ _ _ c.new-text.ensures.items c.in_ok-put_asked.ensures
    (rw c.value.ensures.is at c.in_ok-put_weighed.ensures J of same)
