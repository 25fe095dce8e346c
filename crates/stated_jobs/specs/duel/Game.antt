-- Schedulers, what makes one on-line, and what it is to lose.
use Rattle.std.specs.Prelude.{ℕ, ◌+◌, ◌*◌, ◌≤◌, ◌<◌, ◌≡◌, ◌↔◌, List, length, slice_get, Some, IsTrue}
use Rattle.std.specs.List.{AllByRecursion}
use Rattle.dover_model.specs.declared.events.Version.TheVariants.{One}
use Rattle.dover_model.specs.Common.{Fraction, JobFacts, IsInOrder, is_within_ratio, IsValid, jobs_under, worth}
use Rattle.dover_model.specs.Common.{known_at}
use Rattle.dover_model.specs.declared.events.Version.{Version}

-- what a scheduler does with each list of jobs: place t of its schedule names the job that has tick t
abbrev pub Scheduler : Type 0
Scheduler = List JobFacts → List ℕ

-- It is on-line for lists of this kind: in each tick it runs the same released job, or none of them, for any two lists
-- in which the same jobs are released by then.
abbrev pub IsOnline : (List JobFacts → Type 0) → Scheduler → Type 0
IsOnline kind scheduler = (t : ℕ) (jobs others : List JobFacts) → kind jobs → kind others
    → known_at t jobs ≡ known_at t others → (n : ℕ) → n < length (known_at t jobs)
    → (slice_get (scheduler jobs) t ≡ Some n) ↔ (slice_get (scheduler others) t ≡ Some n)

-- jobs that may be served under this ratio and version
abbrev pub AreValid : Version → Fraction → List JobFacts → Type 0
AreValid version k jobs = IsValid (jobs_under version k jobs)

-- jobs of any size, in order of release and within the ratio of each other
pub record ArePlain (k : Fraction) (jobs : List JobFacts) : Type 0 where
  pub some : AllByRecursion (λ j. 1 ≤ j.work) jobs
  pub windows : AllByRecursion (λ j. j.release + j.work ≤ j.deadline) jobs
  pub in_order : IsInOrder jobs
  pub densities : AllByRecursion (λ i. AllByRecursion (λ j. IsTrue (is_within_ratio k i j)) jobs) jobs

-- on these jobs the scheduler is worth less than part/whole of what some schedule is
pub record IsBeaten (k : Fraction) (whole part : ℕ) (scheduler : Scheduler) (jobs : List JobFacts) : Type 0 where
  pub schedule : List ℕ
  pub less : whole * worth (jobs_under One k jobs) (scheduler jobs) < part * worth (jobs_under One k jobs) schedule

-- it is so on some jobs of this kind
pub record Loses (kind : List JobFacts → Type 0) (k : Fraction) (whole part : ℕ) (scheduler : Scheduler) : Type 0 where
  pub jobs : List JobFacts
  pub fine : kind jobs
  pub beaten : IsBeaten k whole part scheduler jobs

-- it is so on a front of these jobs: those that are released by some tick
pub record LosesOnFront (k : Fraction) (whole part : ℕ) (scheduler : Scheduler) (jobs : List JobFacts) : Type 0 where
  pub tick : ℕ
  pub beaten : IsBeaten k whole part scheduler (known_at tick jobs)
