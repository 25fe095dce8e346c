-- Hard work: what has the processor as soon as it comes, above a run that knows nothing of it; and what it leaves.
use Rattle.std.specs.Prelude.{◌≡◌, ℕ, zero, suc, ◌+◌, ◌-◌, ◌*◌, ◌≤◌, List, [], ◌∷◌, take, drop, map, Bool, not, ◌==◌}
use Rattle.std.specs.Prelude.{◌&&◌}
use Rattle.std.specs.Prelude.{nat_lt, if◌then◌else◌}
use Rattle.std.specs.Int.{div_ceil}
use Rattle.std.specs.List.{sum_by}
use Rattle.dover_model.specs.Limits.{idle}
use Rattle.dover_model.specs.JobFacts.{JobFacts}
use Rattle.dover_model.specs.Sound.{Each}
use Rattle.task_laws.specs.Switches.{AreSpaced}
use Rattle.dover_model.specs.Weights.{one_if}

-- ---- the ticks that hard work has, where so much of it comes at each tick

-- the hard work that is open as this tick begins, before what comes at it
abbrev pub open_before : (ℕ → ℕ) → ℕ → ℕ
open_before comes zero = 0
open_before comes (suc t) = open_before comes t + comes t - 1

-- hard work has this tick: some is open
abbrev pub is_hard : (ℕ → ℕ) → ℕ → Bool
is_hard comes t = nat_lt 0 (open_before comes t + comes t)

-- how much comes in so many ticks from this one on
abbrev pub comes_in : (ℕ → ℕ) → (from length : ℕ) → ℕ
comes_in comes from zero = 0
comes_in comes from (suc n) = comes from + comes_in comes (suc from) n

-- how many of so many ticks from this one on hard work has
abbrev pub hard_in : (ℕ → ℕ) → (from length : ℕ) → ℕ
hard_in comes from zero = 0
hard_in comes from (suc n) = one_if (is_hard comes from) + hard_in comes (suc from) n

-- in so many ticks no more comes than this says, wherever they begin
abbrev pub ComesAtMost : (most comes : ℕ → ℕ) → Type 0
ComesAtMost most comes = (from length : ℕ) → comes_in comes from length ≤ most length

-- ---- what is left of a schedule, where the job that has a tick of hard work loses it

-- how many of these ticks, the first of which is this one, number n has without hard work
abbrev pub left_from : (ℕ → ℕ) → ℕ → ℕ → List ℕ → ℕ
left_from comes n t [] = 0
left_from comes n t (m ∷ s) = one_if ((m == n) && not (is_hard comes t)) + left_from comes n (suc t) s

-- how many ticks of its window the job of number n has without hard work
abbrev pub left_by_hard : (ℕ → ℕ) → List ℕ → ℕ × JobFacts → ℕ
left_by_hard comes s (n, j) = left_from comes n j.release (drop j.release (take j.deadline s))

-- how many ticks of its window hard work has
abbrev pub hard_beside : (ℕ → ℕ) → JobFacts → ℕ
hard_beside comes j = hard_in comes j.release (j.deadline - j.release)

-- ---- a clock that stands still in these ticks

-- how many of so many ticks from this one on hard work leaves
abbrev pub free_in : (ℕ → ℕ) → (from length : ℕ) → ℕ
free_in comes from zero = 0
free_in comes from (suc n) =
    if is_hard comes from then free_in comes (suc from) n else suc (free_in comes (suc from) n)

-- what that clock shows at a tick
abbrev pub stands_at : (ℕ → ℕ) → ℕ → ℕ
stands_at comes t = free_in comes 0 t

-- The schedule of so many ticks, from this one on, in which each tick that hard work leaves goes to who is next in a
-- schedule by that clock.
abbrev pub stretched : (ℕ → ℕ) → (from length : ℕ) → List ℕ → List ℕ
stretched comes from zero s = []
stretched comes from (suc n) [] = idle ∷ stretched comes (suc from) n []
stretched comes from (suc n) (m ∷ s) =
    if is_hard comes from then idle ∷ stretched comes (suc from) n (m ∷ s) else m ∷ stretched comes (suc from) n s

-- Each job of the first list is one of the second by that clock: it has its work and its value, is released at what the
-- clock shows then, and due no later than at what it shows at the deadline.
abbrev pub AreByClock : (ℕ → ℕ) → List JobFacts → List JobFacts → Type 0
AreByClock comes [] [] = Unit {0}
AreByClock comes [] (j ∷ js) = ⊥
AreByClock comes (i ∷ is) [] = ⊥
AreByClock comes (i ∷ is) (j ∷ js) = (i.release ≡ stands_at comes j.release)
    × (i.deadline ≤ stands_at comes j.deadline) × (j.work ≤ i.work) × (i.value ≤ j.value) × AreByClock comes is js

-- ---- hard tasks

-- a task whose jobs come at least so many ticks apart, and have so much work at most
pub record HardTask : Type 0 where
  pub distance : ℕ
  pub work : ℕ

-- what comes of it: the tick, and the work
pub record HardJob : Type 0 where
  pub release : ℕ
  pub work : ℕ

-- these are its jobs, in the order of their releases
pub record AreJobsOf (h : HardTask) (jobs : List HardJob) : Type 0 where
  pub some : 1 ≤ h.distance
  pub spaced : AreSpaced h.distance (map (λ i. i.release) jobs)
  pub works : Each (λ i. i.work ≤ h.work) jobs

-- what comes of jobs at a tick
abbrev pub comes_of_jobs : List HardJob → ℕ → ℕ
comes_of_jobs jobs t = sum_by (λ i. if i.release == t then i.work else 0) jobs

-- and of several tasks, each with its jobs
abbrev pub comes_of : List (HardTask × List HardJob) → ℕ → ℕ
comes_of tasks t = sum_by (λ h_jobs. comes_of_jobs h_jobs.1 t) tasks

-- the most that comes of the tasks in so many ticks: of each a job at the first tick, and one more behind each distance
abbrev pub most_of : List (HardTask × List HardJob) → ℕ → ℕ
most_of tasks length = sum_by (λ h_jobs. h_jobs.0.work * div_ceil length h_jobs.0.distance) tasks
