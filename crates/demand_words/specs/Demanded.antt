-- What is told of tasks for all time: whether a window can have more work in it than ticks.
use Rattle.std.specs.Prelude.{◌≡◌, ◌≤◌, ◌<◌, ℕ, ◌+◌, ◌-◌, ◌*◌, ◌/◌, ◌^◌, List, map, length}
use Rattle.std.specs.Int.{div_ceil}
use Rattle.std.specs.List.{sum_by}
use Rattle.dover_model.specs.Limits.{last_tick_in, most_work, most_jobs}
use Rattle.dover_model.specs.declared.events.Version.TheVariants.{Two}
use Rattle.task_laws.specs.Demand.{TaskFacts, demand, AreMet}
use Rattle.task_words.specs.budget.Budgets.{task_at}
use Rattle.task_words.specs.declared.tasks.task.PeriodicTask.{PeriodicTask}
use Rattle.demand_words.specs.declared.answers.Demand.{Demand}
use Rattle.demand_words.specs.declared.answers.Demand.TheVariants.{Met, Window, Over, Size}

-- a task whose jobs may come at any ticks that are a period apart or more
abbrev pub facts : PeriodicTask → TaskFacts
facts task = record { distance = task.period; work = task.work; due = task.deadline }

abbrev pub all_facts : List PeriodicTask → List TaskFacts
all_facts tasks = map facts tasks

-- more than one tick of work a tick in the long run: there are windows that lack any number of ticks
abbrev pub AreOver : List TaskFacts → Type 0
AreOver tasks = (lacking : ℕ) → (length : ℕ) × (length + lacking < demand tasks length)

-- ---- the limit of the test

-- a task's share of the processor, in parts of a scale, rounded up
abbrev pub share : (scale : ℕ) → TaskFacts → ℕ
share scale task = div_ceil (scale * task.work) task.distance

-- from this length on no window is too short, by these shares
pub record IsHorizon (tasks : List TaskFacts) (scale horizon : ℕ) : Type 0 where
  pub all : sum_by (share scale) tasks ≤ scale
  pub far : sum_by (λ task. share scale task * (task.distance - task.due)) tasks
      ≤ (scale - sum_by (share scale) tasks) * horizon

-- at so many windows the test looks at most
abbrev pub most_looks : (tasks : ℕ) → ℕ
most_looks tasks = 1_000_000_000 / (tasks + 1)

-- ---- the answer

-- No window has more work than ticks; or this one has, with so much work; or more than one tick a tick comes; or the
-- test would take too long: then more windows than the most lie below each horizon by shares in parts of 2^64.
abbrev pub Tells : List TaskFacts → Demand → Type 0
Tells tasks Met = AreMet tasks
Tells tasks (Window ticks work) = (work ≡ demand tasks ticks) × (ticks < work)
Tells tasks Over = AreOver tasks
Tells tasks Size = (horizon : ℕ) → IsHorizon tasks (2 ^ 64) horizon → most_looks (length tasks) < horizon

-- ---- which tasks may be asked about

-- few tasks, each with a period, and with no more work and no later a deadline than a job may have
pub record AreLimited (tasks : List PeriodicTask) : Type 0 where
  pub few : length tasks ≤ most_jobs Two
  pub period : (y : ℕ) → y < length tasks → 1 ≤ (task_at tasks y).period
  pub work : (y : ℕ) → y < length tasks → (task_at tasks y).work ≤ most_work
  pub due : (y : ℕ) → y < length tasks → (task_at tasks y).deadline ≤ last_tick_in Two
