-- Why a job isn't admitted, and which other job is named.
use Rattle.std.specs.Prelude.{◌≡◌, ℕ, ◌⊎◌, List, true, false, Option, Some, None, Result, Ok, Err}
use Rattle.std.specs.List.{AllByRecursion}
use Rattle.dover_model.specs.declared.events.Refusal.{Refusal}
use Rattle.dover_model.specs.declared.events.Refusal.TheVariants as plain
use Rattle.dover_model.specs.Common.{JobFacts, Fraction, is_within_ratio_both_ways}
use Rattle.admission.specs.declared.extremes.Numbered.{Numbered}
use Rattle.admission.specs.declared.refused.Refused.{Refused}
use Rattle.admission.specs.declared.refused.Refused.TheVariants.{BadJob, Count, Total, Ratio}
use Rattle.admission.specs.Kept.{IsLeastDense, IsDensest}

-- the cause without the other job
abbrev pub refusal_of_refused : Refused → Refusal
refusal_of_refused BadJob = plain.BadJob
refusal_of_refused Count = plain.Count
refusal_of_refused Total = plain.Total
refusal_of_refused (Ratio other) = plain.Ratio

-- the refusal that is answered, if the job isn't
abbrev pub refusal_in : Result JobFacts Refused → Option Refusal
refusal_in (Ok job) = None
refusal_in (Err refused) = Some (refusal_of_refused refused)

-- the job of this number
abbrev pub numbered : ℕ → JobFacts → Numbered
numbered number job = record { number = number; job = job }

-- each of the jobs keeps the ratio with j
abbrev pub AllKeepRatio : Fraction → List JobFacts → JobFacts → Type 0
AllKeepRatio k jobs j = AllByRecursion (λ i. is_within_ratio_both_ways k i j ≡ true) jobs

-- each least dense job keeps the ratio with j
abbrev pub LeastDenseKeeps : Fraction → List JobFacts → JobFacts → Type 0
LeastDenseKeeps k jobs j = (x : Numbered) → IsLeastDense jobs x → is_within_ratio_both_ways k x.job j ≡ true

-- the job of this number breaks the ratio with j, and is the least dense one, or else the densest
pub record IsOther (k : Fraction) (jobs : List JobFacts) (j : JobFacts) (other : ℕ) : Type 0 where
  pub job : JobFacts
  pub breaks : is_within_ratio_both_ways k job j ≡ false
  pub which : IsLeastDense jobs (numbered other job) ⊎ (IsDensest jobs (numbered other job) × LeastDenseKeeps k jobs j)

-- where the ratio is broken, the other job is named
abbrev pub NamesOther : Fraction → List JobFacts → JobFacts → Refused → Type 0
NamesOther k jobs j BadJob = Unit {0}
NamesOther k jobs j Count = Unit {0}
NamesOther k jobs j Total = Unit {0}
NamesOther k jobs j (Ratio other) = IsOther k jobs j other
