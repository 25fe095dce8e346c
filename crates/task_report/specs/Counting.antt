-- What is kept of a run to count the jobs of its tasks.
use Rattle.std.specs.Prelude.{◌≡◌, ℕ, ◌<◌, List, length, map, filter, slice_index_or, ◌==◌, if◌then◌else◌}
use Rattle.std.specs.List.{enumerate_from}
use Rattle.dover_model.specs.declared.events.Event.{Event}
use Rattle.dover_model.specs.Common.{JobFacts, job_of_numbers}
use Rattle.run_reports.specs.report.Counts.{jobs_released}
use Rattle.run_reports.specs.report.Courses.{course_in, unseen}
use Rattle.task_words.specs.declared.tasks.task.PeriodicTask.{PeriodicTask}
use Rattle.task_report.specs.Tallies.{task_of, job_tally, all_together, together}
use Rattle.task_report.specs.declared.tally.Tally.{Tally}
use Rattle.task_report.specs.declared.counting.SortedRun.{SortedRun}

-- read of no list
abbrev pub no_job : JobFacts
no_job = job_of_numbers 0 0 0 0

-- of each job of these steps its task is known, and its course
pub record Sorted (tasks : List PeriodicTask) (steps : List Event) (run : SortedRun) : Type 0 where
  pub jobs_are : run.jobs.items ≡ jobs_released steps
  pub sorted : run.of.items ≡ map (task_of tasks) run.jobs.items
  pub counts : length run.courses.items ≡ length run.jobs.items
  pub courses : (n : ℕ) → n < length run.jobs.items → slice_index_or run.courses.items n unseen ≡ course_in steps n

-- the tally with a job, if it is of the task of number y
abbrev pub with_job : List PeriodicTask → List Event → (y : ℕ) → Tally → ℕ × JobFacts → Tally
with_job tasks steps y t n_j = if task_of tasks n_j.1 == y then together t (job_tally steps n_j) else t

-- what became of the jobs of task y in these steps
abbrev pub tally_in : List PeriodicTask → List Event → (y : ℕ) → Tally
tally_in tasks steps y =
    all_together steps (filter (λ n_j. task_of tasks n_j.1 == y) (enumerate_from 0 (jobs_released steps)))
