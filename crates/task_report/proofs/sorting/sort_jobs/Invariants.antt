use Rattle.std.proofs.Common.{◌≡◌, map, take}
use Rattle.task_report.specs.Tallies.{task_of}
use Rattle.task_report.proofs.sorting.sort_jobs.Given as goal

-- of the jobs so far the numbers of their tasks
abbrev pub invariant-loop-job : goal.invariant-loop-job
invariant-loop-job l = l.of.items ≡ map (task_of l.tasks) (take l.job-index l.jobs)
