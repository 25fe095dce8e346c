-- Which tasks may stand together, and how many jobs they may release.
use Rattle.std.specs.Prelude.{ℕ, ◌*◌, ◌≤◌, List, map, length, ◌==◌, if◌then◌else◌, Option, Some, IsTrue}
use Rattle.std.specs.List.{AllByRecursion, sum_by}
use Rattle.dover_model.specs.declared.events.Version.TheVariants.{Two}
use Rattle.dover_model.specs.Common.{last_tick_in, most_jobs, most_total, IsJob, Fraction, Declaration, is_within_ratio}
use Rattle.dover_model.specs.Common.{total_value, refusal_of}
use Rattle.dover_model.specs.declared.events.Refusal.{Refusal}
use Rattle.dover_model.specs.declared.events.Refusal.TheVariants.{BadJob}
use Rattle.task_words.specs.tasks.Tasks.{jobs_before, count_before, tested_job}
use Rattle.task_words.specs.declared.tasks.task.PeriodicTask.{PeriodicTask}

-- ---- one task behind others

-- the limits of version Two count for tasks, whatever version is declared
abbrev pub task_rules : Fraction → Declaration
task_rules k = record { ratio = k; version = Two }

-- why a task may not stand behind these, if it may not: its period is 0, or the job that it is tested by isn't admitted
-- behind those of the others
abbrev pub task_refusal : (until : ℕ) → Fraction → List PeriodicTask → PeriodicTask → Option Refusal
task_refusal until k tasks task =
    if task.period == 0 then Some BadJob else refusal_of (task_rules k) (map (tested_job until) tasks)
    (tested_job until task)

-- a task with a period, whose last job before a tick is within the limits of a job in version Two
pub record IsTask (until : ℕ) (task : PeriodicTask) : Type 0 where
  pub period : 1 ≤ task.period
  pub job : IsJob (tested_job until task)
  pub due : (tested_job until task).deadline ≤ last_tick_in Two

-- the jobs of both are within the ratio of each other
abbrev pub AreWithin : (until : ℕ) → Fraction → PeriodicTask → PeriodicTask → Type 0
AreWithin until k a b = IsTrue (is_within_ratio k (tested_job until a) (tested_job until b))

-- tasks that may stand together
pub record AreTasks (until : ℕ) (k : Fraction) (tasks : List PeriodicTask) : Type 0 where
  pub each : AllByRecursion (IsTask until) tasks
  pub few : length tasks ≤ most_jobs Two
  pub densities : AllByRecursion (λ a. AllByRecursion (AreWithin until k a) tasks) tasks

-- ---- all jobs

-- the jobs that are released before a tick are no more, and worth no more, than a feed of version Two may have
pub record Fits (until : ℕ) (tasks : List PeriodicTask) : Type 0 where
  pub count : length (jobs_before until tasks) ≤ most_jobs Two
  pub total : total_value (jobs_before until tasks) ≤ most_total Two

-- how many jobs each task releases, summed up, and what they are worth
abbrev pub counts : (until : ℕ) → List PeriodicTask → ℕ
counts until tasks = sum_by (count_before until) tasks

abbrev pub worths : (until : ℕ) → List PeriodicTask → ℕ
worths until tasks = sum_by (λ task. count_before until task * task.value) tasks
