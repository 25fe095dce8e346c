-- What is answered where a duel is asked for.
use Rattle.std.specs.Prelude.{◌≡◌, ℕ, ◌≤◌, List, length, take, Option, Some, None, Result, Ok, Err}
use Rattle.dover_model.specs.declared.events.Version.TheVariants.{One}
use Rattle.dover_model.specs.Common.{Fraction, JobFacts}
use Rattle.stated_jobs.specs.declared.duel.links.Share.{Share}
use Rattle.stated_jobs.specs.declared.duel.asking.NoDuel.{NoDuel}
use Rattle.stated_jobs.specs.declared.duel.asking.NoDuel.TheVariants as no
use Rattle.stated_jobs.specs.duel.Game.{AreValid}
use Rattle.stated_jobs.specs.duel.Jobs.{duel_jobs}
use Rattle.stated_jobs.specs.duel.Links.{IsTooMuch}

-- the jobs of the duel for a share
abbrev pub jobs_for : Fraction → Share → List JobFacts
jobs_for k share = duel_jobs k share.whole share.part

-- the front of so many jobs, or all of them
abbrev pub front_of : Option ℕ → List JobFacts → List JobFacts
front_of None jobs = jobs
front_of (Some count) jobs = take count jobs

-- there are so many jobs
abbrev pub HasFront : Option ℕ → List JobFacts → Type 0
HasFront None jobs = Unit {0}
HasFront (Some count) jobs = count ≤ length jobs

-- The share is more than the rules save, the jobs of its duel are valid, and they have this front.
pub record IsDuel (k : Fraction) (share : Share) (front : Option ℕ) : Type 0 where
  pub much : IsTooMuch k share.whole share.part
  pub valid : AreValid One k (jobs_for k share)
  pub front_is : HasFront front (jobs_for k share)

-- The share is no more than the rules save; or the jobs of its duel aren't valid; or they are fewer than the front.
abbrev pub IsNoDuel : Fraction → Share → Option ℕ → NoDuel → Type 0
IsNoDuel k share front no.Share = IsTooMuch k share.whole share.part → ⊥
IsNoDuel k share front no.Size = IsTooMuch k share.whole share.part × (AreValid One k (jobs_for k share) → ⊥)
IsNoDuel k share front no.Front = IsTooMuch k share.whole share.part × AreValid One k (jobs_for k share)
    × (HasFront front (jobs_for k share) → ⊥)

-- how many jobs the front has, or why there is none
abbrev pub Answers : Fraction → Share → Option ℕ → Result ℕ NoDuel → Type 0
Answers k share front (Ok count) = IsDuel k share front × (count ≡ length (front_of front (jobs_for k share)))
Answers k share front (Err cause) = IsNoDuel k share front cause
