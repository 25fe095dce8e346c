-- Prices for the ticks of jobs, and what schedules pay.
use Rattle.std.specs.Prelude.{◌≡◌, ℕ, ◌≤◌, ◌<◌, ◌+◌, ◌*◌, List, length, get_or, cond}
use Rattle.std.specs.List.{sum_by, enumerate_from}
use Rattle.dover_model.specs.Common.{JobFacts, is_served, is_inside}
use Rattle.clairvoyant.specs.declared.overload.layers.Priced.{Priced}

-- what a schedule pays for a job, at the price that stands at its number: for the job's work, if it serves it
abbrev pub paid : List ℕ → List ℕ → ℕ × JobFacts → ℕ
paid prices s (n, j) = get_or prices n 0 * cond (is_served s (n, j)) j.work 0

-- no schedule pays more
abbrev pub PaysAtMost : List JobFacts → List ℕ → ℕ → Type 0
PaysAtMost jobs prices cost = (s : List ℕ) → sum_by (paid prices s) (enumerate_from 0 jobs) ≤ cost

-- there is a price for each job, and no schedule pays more than is noted
pub record HasPriced (jobs : List JobFacts) (priced : Priced) : Type 0 where
  pub count : length priced.prices.items ≡ length jobs
  pub small : priced.cost ≤ 2_000_000_000_000_000_000_000_000_000_000_000_000
  pub pays : PaysAtMost jobs priced.prices.items priced.cost

-- the prices of the jobs inside the window have risen by no more than this, and no other has
abbrev pub IsRaised : List JobFacts → (a b more : ℕ) → (old new : List ℕ) → Type 0
IsRaised jobs a b more old new = (n : ℕ) (j : JobFacts) → n < length jobs → j ≡ get_or jobs n j
    → get_or new n 0 ≤ get_or old n 0 + cond (is_inside a b j) more 0
