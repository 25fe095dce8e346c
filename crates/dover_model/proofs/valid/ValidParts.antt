-- The parts of valid jobs: what their tests say of each job and of each two, as facts.
use Rattle.std.proofs.Common.{◌*◌, ◌≤◌, ◌↔◌, List, [], ◌∷◌, length, IsTrue, refl}
use Rattle.std.specs.List.{AllByRecursion}
use Rattle.dover_model.specs.Common.{last_deadline, last_tick_in, most_jobs, most_total, JobFacts, IsJob, Fraction}
use Rattle.dover_model.specs.Common.{IsRatio, Instance, IsInOrder}
use Rattle.dover_model.specs.Common.{IsValid, is_valid, is_within_ratio, total_value}
use Rattle.dover_model.specs.Instance.{is_in_order}
use Rattle.dover_model.proofs.lists.Tests.{both, at_most, each}
use Rattle.dover_model.proofs.valid.JobLimits.{job_passes}

-- ---- two densities

-- the density of i is at most the ratio times the density of j
abbrev pub IsWithinRatio : Fraction → JobFacts → JobFacts → Type 0
IsWithinRatio k i j = k.q * i.value * j.work ≤ k.p * j.value * i.work

-- as the test says
pub is_within_ratio-agrees : (k : Fraction) (i j : JobFacts) → IsTrue (is_within_ratio k i j) ↔ IsWithinRatio k i j
is_within_ratio-agrees k i j = at_most _ _

-- ---- the order of releases

-- no release falls below one before it
abbrev pub ReleasesInOrder : List JobFacts → Type 0
ReleasesInOrder [] = Unit {0}
ReleasesInOrder (j ∷ jobs) = AllByRecursion (λ later. j.release ≤ later.release) jobs × ReleasesInOrder jobs

-- as the test says
order_agrees : (jobs : List JobFacts) → IsTrue (is_in_order jobs) ↔ ReleasesInOrder jobs
order_agrees [] = (λ h. tt, λ h. refl)
order_agrees (j ∷ jobs) = both _ _ (each _ _ (λ later. at_most _ _) jobs) (order_agrees jobs)

-- the parts of an order
pub order_parts : {jobs : List JobFacts} → IsInOrder jobs → ReleasesInOrder jobs
order_parts {jobs} order = (order_agrees jobs).0 order.passes

-- jobs with these parts are in order
pub order_from : {jobs : List JobFacts} → ReleasesInOrder jobs → IsInOrder jobs
order_from {jobs} parts = record { passes = (order_agrees jobs).1 parts }

-- ---- valid jobs

-- the jobs are within the limits, in order of release, and within the ratio of each other
pub record ValidParts (J : Instance) : Type 0 where
  pub ratio : IsRatio J.rules.ratio
  pub each : AllByRecursion IsJob J.jobs
  pub due : last_deadline J.jobs ≤ last_tick_in J.rules.version
  pub in_order : ReleasesInOrder J.jobs
  pub count : length J.jobs ≤ most_jobs J.rules.version
  pub total : total_value J.jobs ≤ most_total J.rules.version
  pub densities : AllByRecursion (λ i. AllByRecursion (IsWithinRatio J.rules.ratio i) J.jobs) J.jobs

-- as the test says
valid_agrees : (J : Instance) → IsTrue (is_valid J) ↔ ValidParts J
valid_agrees J = (
  λ h. let f = parts.0 h in record {
    ratio = f.0.0.0.0.0.0;
    each = f.0.0.0.0.0.1;
    due = f.0.0.0.0.1;
    in_order = f.0.0.0.1;
    count = f.0.0.1;
    total = f.0.1;
    densities =
        f.1;
  },
  λ r. parts.1 ((((((r.ratio, r.each), r.due), r.in_order), r.count), r.total), r.densities),
) where
  parts : IsTrue (is_valid J)
      ↔ ((((((IsRatio J.rules.ratio × AllByRecursion IsJob J.jobs)
      × (last_deadline J.jobs ≤ last_tick_in J.rules.version)) × ReleasesInOrder J.jobs)
      × (length J.jobs ≤ most_jobs J.rules.version)) ×
      (total_value J.jobs ≤ most_total J.rules.version))
      × AllByRecursion (λ i. AllByRecursion (IsWithinRatio J.rules.ratio i) J.jobs) J.jobs)
  parts = both _ _ (both _ _ (both _ _ (both _ _ (both _ _ (both _ _ (λ h. record { passes = h }, λ ratio. ratio.passes)
      (each _ _ job_passes _)) (at_most _ _))
      (order_agrees _)) (at_most _ _))
      (at_most _ _)) (each _ _ (λ i. each _ _ (λ j. is_within_ratio-agrees J.rules.ratio i j) J.jobs) J.jobs)

-- the parts of valid jobs
pub valid_parts : {J : Instance} → IsValid J → ValidParts J
valid_parts {J} valid = (valid_agrees J).0 valid.passes

-- jobs with these parts are valid
pub valid_from : {J : Instance} → ValidParts J → IsValid J
valid_from {J} parts = record { passes = (valid_agrees J).1 parts }
