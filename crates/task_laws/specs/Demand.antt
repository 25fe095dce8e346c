-- What the jobs of tasks can ask for in a window, where those of one task come apart.
use Rattle.std.specs.Prelude.{zero, suc, [], ◌∷◌, ◌++◌}
use Rattle.std.specs.Prelude.{ℕ, ◌+◌, ◌-◌, ◌*◌, ◌/◌, ◌≤◌, ◌<◌, ◌==◌, List, length, get_or, nat_le, if◌then◌else◌}
use Rattle.std.specs.List.{sum_by, filter}
use Rattle.dover_model.specs.JobFacts.{JobFacts}
use Rattle.dover_model.specs.Instance.{Instance}
use Rattle.dover_model.specs.Schedules.{numbered}
use Rattle.dover_model.specs.Sound.{Each}
use Rattle.task_laws.specs.Switches.{AreOfTask}

-- a task whose jobs come at least so many ticks apart, have so much work at most, and are due so many ticks behind
-- their release
pub record TaskFacts : Type 0 where
  pub distance : ℕ
  pub work : ℕ
  pub due : ℕ

-- how many of its jobs at most are released in a window of so many ticks and due in it
abbrev pub jobs_within : TaskFacts → (length : ℕ) → ℕ
jobs_within task length = if nat_le task.due length then (length - task.due) / task.distance + 1 else 0

-- how much work the jobs of the tasks have at most that are released in a window of so many ticks and due in it
abbrev pub demand : List TaskFacts → (length : ℕ) → ℕ
demand tasks length = sum_by (λ task. task.work * jobs_within task length) tasks

-- the task of this number
abbrev pub facts_at : List TaskFacts → ℕ → TaskFacts
facts_at tasks y = get_or tasks y (record { distance = 1; work = 0; due = 0 })

-- the jobs whose task `of` says is this one
abbrev pub of_number : (of : ℕ → ℕ) → ℕ → List (ℕ × JobFacts) → List (ℕ × JobFacts)
of_number of y jobs = filter (λ n_j. of n_j.0 == y) jobs

-- each job is of the task whose number `of` has for it: it has no more than its work, and those of one task are apart
-- and due as it says
pub record AskNoMore (tasks : List TaskFacts) (of : ℕ → ℕ) (J : Instance) : Type 0 where
  pub named : Each (λ n_j. of n_j.0 < length tasks) (numbered J)
  pub some : (y : ℕ) → y < length tasks → 1 ≤ (facts_at tasks y).distance
  pub works : Each (λ n_j. n_j.1.work ≤ (facts_at tasks (of n_j.0)).work) (numbered J)
  pub apart : (y : ℕ) → y < length tasks
      → AreOfTask (facts_at tasks y).distance (facts_at tasks y).due (of_number of y (numbered J))

-- in no window they ask for more than it has
abbrev pub AreMet : List TaskFacts → Type 0
AreMet tasks = (length : ℕ) → demand tasks length ≤ length

-- Shares of the processor, in parts of a scale: each task's share is no less than its work by its distance, and
-- together they are no more than the scale.
pub record AreShares (tasks : List TaskFacts) (scale : ℕ) (share : TaskFacts → ℕ) : Type 0 where
  pub some : 1 ≤ scale
  pub apart : Each (λ task. 1 ≤ task.distance) tasks
  pub enough : Each (λ task. scale * task.work ≤ share task * task.distance) tasks
  pub all : sum_by share tasks ≤ scale

-- ---- the jobs that ask for all of it

-- so many jobs of the task, the first of which is released at this tick, and each other one as soon as it may be
abbrev pub soon : TaskFacts → (from : ℕ) → (count : ℕ) → List JobFacts
soon task from zero = []
soon task from (suc n) =
    record { release = from; work = task.work; deadline = from + task.due; value = 1 }
    ∷ soon task (from + task.distance) n

-- of each task those that are released as soon as they may be, from tick 0 on, and due in so many ticks
abbrev pub all_soon : List TaskFacts → (length : ℕ) → List JobFacts
all_soon [] length = []
all_soon (task ∷ tasks) length = soon task 0 (jobs_within task length) ++ all_soon tasks length
