-- What is kept of the jobs that are admitted, and for which jobs it stands.
use Rattle.std.specs.Prelude.{◌≡◌, ℕ, ◌+◌, ◌*◌, ◌≤◌, ◌<◌, List, [], ◌∷◌, ◌++◌, length, Option, Some, None}
use Rattle.std.specs.List.{AllByRecursion}
use Rattle.dover_model.specs.Common.{most_jobs, most_total, JobFacts, IsJob, Fraction, Declaration, total_value}
use Rattle.dover_model.specs.Common.{is_within_ratio_both_ways}
use Rattle.dover_model.specs.declared.events.Version.{Version}
use Rattle.admission.specs.declared.extremes.Numbered.{Numbered}
use Rattle.admission.specs.declared.extremes.Extremes.{Extremes}

-- what is kept of the jobs that are admitted
pub record Kept : Type 0 where
  pub rules : Declaration
  pub count : ℕ
  pub total : ℕ
  pub extremes : Option Extremes

-- the density of i is below that of j
abbrev pub IsLessDense : JobFacts → JobFacts → Type 0
IsLessDense i j = i.value * j.work < j.value * i.work

-- the first of the jobs that no other comes under: it is under each before it, and none behind it is under it
pub record IsFirstBy (Under : JobFacts → JobFacts → Type 0) (jobs : List JobFacts) (x : Numbered) : Type 0 where
  pub before : List JobFacts
  pub behind : List JobFacts
  pub place : jobs ≡ before ++ x.job ∷ behind
  pub number : x.number ≡ length before
  pub first : AllByRecursion (λ i. Under x.job i) before
  pub later : AllByRecursion (λ i. Under i x.job → ⊥) behind

-- the least dense job, and of equally dense ones the first
abbrev pub IsLeastDense : List JobFacts → Numbered → Type 0
IsLeastDense jobs x = IsFirstBy IsLessDense jobs x

-- the densest job, and of equally dense ones the first
abbrev pub IsDensest : List JobFacts → Numbered → Type 0
IsDensest jobs x = IsFirstBy (λ i j. IsLessDense j i) jobs x

-- the job is neither less dense than the least dense one nor denser than the densest
abbrev pub IsBetween : Extremes → JobFacts → Type 0
IsBetween e j = (IsLessDense j e.least.job → ⊥) × (IsLessDense e.densest.job j → ⊥)

-- the least dense and the densest of jobs within their limits, and whether the two keep the ratio
pub record AreExtremes (k : Fraction) (jobs : List JobFacts) (e : Extremes) : Type 0 where
  pub each : AllByRecursion IsJob jobs
  pub least : IsLeastDense jobs e.least
  pub densest : IsDensest jobs e.densest
  pub keep : e.keep_ratio ≡ is_within_ratio_both_ways k e.least.job e.densest.job

-- the same, where there may be no job
abbrev pub HasExtremes : Fraction → List JobFacts → Option Extremes → Type 0
HasExtremes k jobs None = jobs ≡ []
HasExtremes k jobs (Some e) = AreExtremes k jobs e

-- this is kept of these jobs
pub record StandsFor (kept : Kept) (jobs : List JobFacts) : Type 0 where
  pub count : kept.count ≡ length jobs
  pub total : kept.total ≡ total_value jobs
  pub extremes : HasExtremes kept.rules.ratio jobs kept.extremes

-- the limits of all jobs are kept
pub record IsWithinLimits (version : Version) (count total : ℕ) : Type 0 where
  pub count_fits : count ≤ most_jobs version
  pub total_fits : total ≤ most_total version

-- the limits of all jobs leave room for this one
pub record HasRoom (kept : Kept) (j : JobFacts) : Type 0 where
  pub count : kept.count < most_jobs kept.rules.version
  pub total : kept.total + j.value ≤ most_total kept.rules.version
