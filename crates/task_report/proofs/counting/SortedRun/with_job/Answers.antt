use Rattle.std.proofs.Common.{◌∙◌, ap, get_or, sym}
use Rattle.task_report.specs.Counting.{no_job}
use Rattle.task_report.specs.Tallies.{task_of, together}
use Rattle.task_report.proofs.Counted.{left_out, taken, task_there}
use Rattle.task_report.proofs.counting.SortedRun.with_job.Goals as goal

pub returns-then-index-task-clause-is : goal.returns-then-index-task-clause-is
returns-then-index-task-clause-is c = λ tasks steps known.
    left_out (task_of tasks (get_or c.args.self.now.jobs.items c.args.number no_job)) c.args.task _ c.args.tally.now
    (λ same. c.if-index-task.true (c.index.ensures
    ∙ task_there tasks steps c.args.self.now known c.args.number _ c.requires.there ∙ same))

pub returns-clause-is : goal.returns-clause-is
returns-clause-is c = λ tasks steps known.
    taken (task_of tasks (get_or c.args.self.now.jobs.items c.args.number no_job)) c.args.task c.together.result _ _
    (sym (c.index.ensures ∙ task_there tasks steps c.args.self.now known c.args.number _ c.requires.there)
    ∙ c.if-index-task.false)
    (c.together.ensures.is ∙ ap (together c.args.tally.now) (c.job_tally.ensures.is tasks steps known))
