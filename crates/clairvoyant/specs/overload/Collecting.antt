-- How far the stretches of some jobs are known.
use Rattle.std.specs.Prelude.{◌≡◌, ℕ, ◌≤◌, ◌<◌, ◌+◌, ◌-◌, List, [], length, take, drop, sum_by}
use Rattle.dover_model.specs.Common.{JobFacts, total_value, last_tick, Each, work_inside}
use Rattle.clairvoyant.specs.overload.Stretches.{AreInOrder, IsStretch, IsReached, MeetsSome, most_sets, sets_in}
use Rattle.clairvoyant.specs.overload.Stretches.{value_outside}
use Rattle.clairvoyant.specs.declared.overload.costing.Costing.{Costing}
use Rattle.clairvoyant.specs.declared.overload.overfull.Ticks.{Ticks}
use Rattle.clairvoyant.specs.declared.overload.stretch.Stretch.{Stretch}

-- so many of the jobs are released before the tick, and these are the first
pub record IsCut (jobs : List JobFacts) (tick place : ℕ) : Type 0 where
  pub few : place ≤ length jobs
  pub before : Each (λ j. j.release < tick) (take place jobs)
  pub behind : Each (λ j. tick ≤ j.release) (drop place jobs)

-- these are the jobs that are released from the one tick on and before the other
abbrev pub IsNear : List JobFacts → (from until : ℕ) → List JobFacts → Type 0
IsNear jobs from until near = (first : ℕ) × (second : ℕ) × IsCut jobs from first × IsCut jobs until second
    × (near ≡ take (second - first) (drop first jobs))

-- no window that begins at the tick or later has more work than ticks
abbrev pub HasRoom : List JobFacts → (from : ℕ) → Type 0
HasRoom jobs from = (a b : ℕ) → from ≤ a → work_inside jobs a b ≤ b - a

-- nor any between two ticks
abbrev pub HasRoomWithin : List JobFacts → (from until : ℕ) → Type 0
HasRoomWithin jobs from until = (a b : ℕ) → from ≤ a → b ≤ until → work_inside jobs a b ≤ b - a

-- these ticks are a window between two ticks with more work than ticks, and none between them ends before it begins
pub record IsFirst (jobs : List JobFacts) (from until : ℕ) (ticks : Ticks) : Type 0 where
  pub later : from ≤ ticks.from
  pub some : ticks.from < ticks.until
  pub within : ticks.until ≤ until
  pub overfull : ticks.until - ticks.from < work_inside jobs ticks.from ticks.until
  pub before : HasRoomWithin jobs from ticks.from

-- The stretches so far are apart, and the last ends at the tick that is noted, which is 0 where there is none. Each
-- window that begins before it, with more work than ticks, meets one. What is left of the sets that may be looked at is
-- noted.
pub record HasCosted (jobs : List JobFacts) (costing : Costing) : Type 0 where
  pub total : costing.costed.total ≡ total_value jobs
  pub in_order : AreInOrder costing.costed.stretches.items
  pub begun : costing.costed.stretches.items ≡ [] → costing.at ≡ 0
  pub low : costing.at ≤ last_tick
  pub ended : Each (λ (x : Stretch). x.until ≤ costing.at) costing.costed.stretches.items
  pub each : Each (IsStretch jobs) costing.costed.stretches.items
  pub sum : costing.costed.cap ≡ value_outside jobs costing.costed.stretches.items
      + sum_by (λ (x : Stretch). x.cap) costing.costed.stretches.items
  pub meets : (a b : ℕ) → a < costing.at → b - a < work_inside jobs a b → MeetsSome costing.costed.stretches.items a b
  pub left : most_sets ≤ costing.sets + sets_in jobs costing.costed.stretches.items
  pub few : sets_in jobs costing.costed.stretches.items ≤ most_sets
      → Each (IsReached jobs) costing.costed.stretches.items
