-- What became of the jobs of each task.
use Rattle.std.specs.Prelude.{ℕ, ◌+◌, ◌-◌, List, map, filter, Bool, not, ◌&&◌, ◌==◌, nat_lt, if◌then◌else◌, length}
use Rattle.std.specs.Prelude.{fold, max, min, Option, Some, None}
use Rattle.std.specs.List.{enumerate_from, prefix_len}
use Rattle.dover_model.specs.declared.events.Event.{Event}
use Rattle.dover_model.specs.Common.{Instance, JobFacts, printed}
use Rattle.run_reports.specs.report.Courses.{course_in, ending_in}
use Rattle.run_reports.specs.declared.report.endings.Ending.{Ending}
use Rattle.run_reports.specs.declared.report.endings.Ending.TheVariants.{Completed, Abandoned}
use Rattle.task_words.specs.tasks.Tasks.{releases}
use Rattle.task_words.specs.declared.tasks.task.PeriodicTask.{PeriodicTask}
use Rattle.task_report.specs.declared.tally.Tally.{Tally}

-- ---- whose a job is

-- a job has the work of a task, its deadline, counted from the release, and its value
abbrev pub has_numbers : PeriodicTask → JobFacts → Bool
has_numbers task j = (j.work == task.work) && (j.deadline == j.release + task.deadline) && (j.value == task.value)

-- and is released at a tick at which the task releases a job
abbrev pub is_unrolled : PeriodicTask → JobFacts → Bool
is_unrolled task j = has_numbers task j && not (task.period == 0) && releases task j.release

-- the number of the first task that passes a test, or how many there are where none does
abbrev pub first_task : (PeriodicTask → Bool) → List PeriodicTask → ℕ
first_task p tasks = prefix_len (λ task. not (p task)) tasks

-- The number of the task that a job is of: the first that has its numbers and releases a job then, or where there is
-- none the first that has its numbers. Where none has, it is of no task, and this is how many there are.
abbrev pub task_of : List PeriodicTask → JobFacts → ℕ
task_of tasks j = if nat_lt (first_task (λ task. is_unrolled task j) tasks) (length tasks)
    then first_task (λ task. is_unrolled task j) tasks
    else first_task (λ task. has_numbers task j) tasks

-- ---- what became of jobs

-- of no jobs
abbrev pub no_jobs : Tally
no_jobs = record {
  jobs = 0;
  completed = 0;
  lost = 0;
  value = 0;
  lost_value = 0;
  longest = 0;
  responses = 0;
  preempted = 0;
  slack = None;
}

-- Of a job that ended so, or not at all, and got the processor so often. It lost it before it was done as often, but
-- for the last time where it completed.
abbrev pub of_job : JobFacts → Option Ending → (gets : ℕ) → Tally
of_job j None gets = record no_jobs { jobs = 1; preempted = gets }
of_job j (Some (Abandoned at)) gets = record no_jobs { jobs = 1; lost = 1; lost_value = j.value; preempted = gets }
of_job j (Some (Completed at)) gets = record no_jobs {
  jobs = 1;
  completed = 1;
  value = j.value;
  longest = at - j.release;
  responses = at - j.release;
  preempted = gets - 1;
  slack = Some (j.deadline - at);
}

-- the least of the times that there are
abbrev pub least : Option ℕ → Option ℕ → Option ℕ
least (Some a) (Some b) = Some (min a b)
least (Some a) None = Some a
least None b = b

-- of the jobs of both
abbrev pub together : Tally → Tally → Tally
together a b = record {
  jobs = a.jobs + b.jobs;
  completed = a.completed + b.completed;
  lost = a.lost + b.lost;
  value = a.value + b.value;
  lost_value = a.lost_value + b.lost_value;
  longest = max a.longest b.longest;
  responses = a.responses + b.responses;
  preempted = a.preempted + b.preempted;
  slack = least a.slack b.slack;
}

-- of a job with its number, by the printed steps of a run
abbrev pub job_tally : List Event → ℕ × JobFacts → Tally
job_tally run n_j = of_job n_j.1 (ending_in run n_j.0) (course_in run n_j.0).count

-- of some jobs with their numbers
abbrev pub all_together : List Event → List (ℕ × JobFacts) → Tally
all_together run jobs = fold together no_jobs (map (job_tally run) jobs)

-- of the jobs of the task of this number, or of no task
abbrev pub task_tally : List PeriodicTask → Instance → ℕ → Tally
task_tally tasks J y =
    all_together (printed J) (filter (λ n_j. task_of tasks n_j.1 == y) (enumerate_from 0 J.jobs))
