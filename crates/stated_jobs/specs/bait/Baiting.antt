-- A baiting feed that is within the limits, and what is still to come of it.
use Rattle.std.specs.Prelude.{ℕ, ◌≤◌, List, [], ◌∷◌, ◌++◌, length, ◌==◌}
use Rattle.std.specs.List.{filter, flat_map, range_with_len}
use Rattle.dover_model.specs.declared.events.Version.TheVariants.{Two}
use Rattle.dover_model.specs.Common.{most_jobs, most_value, Fraction, JobFacts, Each, tight_job, bait_jobs}

-- the feed has no more jobs than a feed may have, and no job is worth more than a job may be
pub record FitsLimits (k : Fraction) (rounds : ℕ) : Type 0 where
  pub few : length (bait_jobs k rounds) ≤ most_jobs Two
  pub modest : Each (λ j. j.value ≤ most_value) (bait_jobs k rounds)

-- what callers see of a feed: its ratio, its rounds, and the jobs that are still to come
pub record Baiting : Type 0 where
  pub ratio : Fraction
  pub rounds : ℕ
  pub jobs : List JobFacts

-- The jobs from a tick on: in each of so many ticks the links of that tick and a unit job, and in the bait's tick its
-- links and the bait.
abbrev pub jobs_from : (unit bait bait_tick : ℕ) → (links : List JobFacts) → (tick ticks : ℕ) → List JobFacts
jobs_from unit bait bait_tick links tick ticks =
    flat_map (λ t. filter (λ j. j.release == t) links ++ tight_job t 1 unit ∷ []) (range_with_len tick ticks)
    ++ filter (λ j. j.release == bait_tick) links ++ tight_job bait_tick bait 1 ∷ []
