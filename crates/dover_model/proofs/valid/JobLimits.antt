-- The limits of a ratio and of a job, one by one, as facts.
use Rattle.std.proofs.Common.{◌+◌, ◌≤◌, ◌<◌, ◌↔◌, IsTrue, Some}
use Rattle.dover_model.specs.Common.{most_p, most_q, last_tick, most_value, most_work, Fraction, IsRatio, is_ratio}
use Rattle.dover_model.specs.Common.{is_some_factor}
use Rattle.dover_model.specs.Common.{Factor, JobFacts, IsJob, is_job}
use Rattle.dover_model.specs.Fraction.{is_factor}
use Rattle.dover_model.proofs.lists.Tests.{both, at_most, below}

-- ---- a factor

-- its limits
pub record FactorLimits (f : Factor) : Type 0 where
  pub least : 1 ≤ f.c
  pub more : f.c < f.b
  pub small_c : f.c ≤ most_q
  pub small_b : f.b ≤ most_p

-- as the test says
factor_parts : (f : Factor) → IsTrue (is_factor f) ↔ ((((1 ≤ f.c) × (f.c < f.b)) × (f.c ≤ most_q)) × (f.b ≤ most_p))
factor_parts f = both _ _ (both _ _ (both _ _ (at_most _ _) (below _ _)) (at_most _ _)) (at_most _ _)

-- a factor is within its limits
pub factor_limits : (f : Factor) → IsTrue (is_some_factor (Some f)) → FactorLimits f
factor_limits f h =
    let x = (factor_parts f).0 h in record { least = x.0.0.0; more = x.0.0.1; small_c = x.0.1; small_b = x.1 }

-- what is within them is a factor
pub factor_from : (f : Factor) → FactorLimits f → IsTrue (is_some_factor (Some f))
factor_from f limits = (factor_parts f).1 (((limits.least, limits.more), limits.small_c), limits.small_b)

-- ---- a ratio

-- its limits
pub record RatioLimits (k : Fraction) : Type 0 where
  pub least : 1 ≤ k.q
  pub above_one : k.q ≤ k.p
  pub small_q : k.q ≤ most_q
  pub small_p : k.p ≤ most_p
  pub factor : IsTrue (is_some_factor k.factor)

-- as the test says
limits_of_ratio : (k : Fraction) → IsTrue (is_ratio k) ↔ RatioLimits k
limits_of_ratio k = (
  λ h. let f = parts.0 h in record {
    least = f.0.0.0.0;
    above_one = f.0.0.0.1;
    small_q = f.0.0.1;
    small_p = f.0.1;
    factor = f.1;
  },
  λ r. parts.1 ((((r.least, r.above_one), r.small_q), r.small_p), r.factor),
) where
  parts : IsTrue (is_ratio k)
      ↔ (((((1 ≤ k.q) × (k.q ≤ k.p)) × (k.q ≤ most_q)) × (k.p ≤ most_p)) × IsTrue (is_some_factor k.factor))
  parts = both _ _ (both _ _ (both _ _ (both _ _ (at_most _ _) (at_most _ _)) (at_most _ _)) (at_most _ _))
      (λ h. h, λ h. h)

-- a ratio is within its limits
pub ratio_limits : {k : Fraction} → IsRatio k → RatioLimits k
ratio_limits {k} ratio = (limits_of_ratio k).0 ratio.passes

-- what is within them is a ratio
pub ratio_from : {k : Fraction} → RatioLimits k → IsRatio k
ratio_from {k} limits = record { passes = (limits_of_ratio k).1 limits }

-- ---- a job

-- its limits
pub record JobLimits (j : JobFacts) : Type 0 where
  pub work : 1 ≤ j.work
  pub small : j.work ≤ most_work
  pub window : j.release + j.work ≤ j.deadline
  pub due : j.deadline ≤ last_tick
  pub worth : 1 ≤ j.value
  pub modest : j.value ≤ most_value

-- as the test says
limits_of_job : (j : JobFacts) → IsTrue (is_job j) ↔ JobLimits j
limits_of_job j = (
  λ h. let f = parts.0 h in record {
    work = f.0.0.0.0.0;
    small = f.0.0.0.0.1;
    window = f.0.0.0.1;
    due = f.0.0.1;
    worth = f.0.1;
    modest = f.1;
  },
  λ r. parts.1 (((((r.work, r.small), r.window), r.due), r.worth), r.modest),
) where
  parts : IsTrue (is_job j)
      ↔ ((((((1 ≤ j.work) × (j.work ≤ most_work)) × (j.release + j.work ≤ j.deadline)) × (j.deadline ≤ last_tick))
      × (1 ≤ j.value)) × (j.value ≤ most_value))
  parts = both _ _ (both _ _ (both _ _ (both _ _ (both _ _ (at_most _ _) (at_most _ _)) (at_most _ _)) (at_most _ _))
      (at_most _ _)) (at_most _ _)

-- a job is within its limits
pub job_limits : {j : JobFacts} → IsJob j → JobLimits j
job_limits {j} job = (limits_of_job j).0 job.passes

-- what is within them is a job
pub job_from : {j : JobFacts} → JobLimits j → IsJob j
job_from {j} limits = record { passes = (limits_of_job j).1 limits }

-- the test of a job, as a fact
pub job_passes : (j : JobFacts) → IsTrue (is_job j) ↔ IsJob j
job_passes j = (λ h. record { passes = h }, λ job. job.passes)
