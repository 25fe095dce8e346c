-- Budgets of tasks that pay for changes of hands.
use Rattle.std.specs.Prelude.{◌≡◌, ℕ, ◌+◌, ◌-◌, ◌*◌, ◌<◌, ◌==◌, List, map, length, get_or, nat_lt, if◌then◌else◌}
use Rattle.std.specs.Int.{div_ceil}
use Rattle.std.specs.List.{filter, sum_by}
use Rattle.dover_model.specs.Common.{Fraction, Instance, JobFacts, is_heavy, numbered, Each}
use Rattle.task_laws.specs.Switches.{AreOfTask}
use Rattle.task_words.specs.tasks.Merging.{blank_task}
use Rattle.task_words.specs.declared.tasks.task.PeriodicTask.{PeriodicTask}

-- how many jobs of the second task may preempt one of the first
abbrev pub most_preempting : PeriodicTask → PeriodicTask → ℕ
most_preempting i j = if nat_lt j.deadline i.deadline then div_ceil (i.deadline - j.deadline) j.period else 0

-- how many of them may take the processor from it
abbrev pub most_taking : Fraction → PeriodicTask → PeriodicTask → ℕ
most_taking k i j = if is_heavy k j.value i.value then div_ceil (i.deadline + j.deadline - 1) j.period else 0

-- how often a job of the task gets the processor at most
abbrev pub most_gets : Fraction → List PeriodicTask → PeriodicTask → ℕ
most_gets k tasks i = 1 + sum_by (most_preempting i) tasks + sum_by (most_taking k i) tasks

-- the task with its work, and so many ticks for each time that it gets the processor
abbrev pub with_budget : Fraction → (cost : ℕ) → List PeriodicTask → PeriodicTask → PeriodicTask
with_budget k cost tasks i = record i { work = i.work + cost * most_gets k tasks i }

-- the same of all tasks
abbrev pub budgeted : Fraction → (cost : ℕ) → List PeriodicTask → List PeriodicTask
budgeted k cost tasks = map (with_budget k cost tasks) tasks

-- the task of this number
abbrev pub task_at : List PeriodicTask → ℕ → PeriodicTask
task_at tasks y = get_or tasks y blank_task

-- the jobs whose task `of` says is this one
abbrev pub jobs_of : (of : ℕ → ℕ) → ℕ → List (ℕ × JobFacts) → List (ℕ × JobFacts)
jobs_of of y jobs = filter (λ m_i. of m_i.0 == y) jobs

-- each job is of the task whose number `of` has for it: it has its work and its value, and those of one task are apart
-- and due as it says
pub record AreOfTasks (tasks : List PeriodicTask) (of : ℕ → ℕ) (J : Instance) : Type 0 where
  pub named : Each (λ m_i. of m_i.0 < length tasks) (numbered J)
  pub works : Each (λ m_i. m_i.1.work ≡ (task_at tasks (of m_i.0)).work) (numbered J)
  pub values : Each (λ m_i. m_i.1.value ≡ (task_at tasks (of m_i.0)).value) (numbered J)
  pub apart : (y : ℕ) → y < length tasks
      → AreOfTask (task_at tasks y).period (task_at tasks y).deadline (jobs_of of y (numbered J))
