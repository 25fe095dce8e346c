-- The baiting feed is valid: each job is within the limits, and all are within the ratio of each other.
use Rattle.std.proofs.Common.{◌≡◌, ℕ, zero, suc, ◌+◌, ◌-◌, ◌*◌, ◌≤◌, ◌<◌, List, [], ◌∷◌, arith}
use Rattle.std.specs.List.{sum, AllByRecursion}
use Rattle.std.proofs.lemmas.Nat.{mul-le}
use Rattle.std.proofs.Math.Nat.{mul-div-le}
use Rattle.std.proofs.lemmas.List.Sums.{sum_by-cons}
use Rattle.dover_model.specs.declared.events.Version.TheVariants.{Two}
use Rattle.dover_model.specs.Common.{last_tick_in, most_jobs, most_value, most_total, Fraction, IsRatio, IsJob, IsValid}
use Rattle.dover_model.specs.Common.{jobs_under, total_value, unit_value, most_light, first_link, chain, last_link}
use Rattle.dover_model.specs.Common.{bait_value, tight_job, bait_jobs}
use Rattle.dover_model.specs.declared.events.Version.{Version}
use Rattle.dover_model.proofs.bound.Calculus.{dense_within}
use Rattle.dover_model.proofs.valid.Limiting.{jobs_least, tick_least, total_least}
use Rattle.dover_model.proofs.valid.Dues.{last_within}
use Rattle.stated_jobs.specs.bait.Baiting.{FitsLimits}
use Rattle.stated_jobs.proofs.bait.Coming.{AreSome, are_some}
use Rattle.stated_jobs.proofs.bait.Chains.{last_from}
use Rattle.stated_jobs.proofs.bait.Heavy.{light_least}
use Rattle.stated_jobs.proofs.bait.Feeds.{how_much, in_order, whole, small, modest, all_jobs, unit_low, unit_some}
use Rattle.dover_model.proofs.valid.ValidParts.{IsWithinRatio, valid_from}
use Rattle.dover_model.proofs.valid.JobLimits.{ratio_limits, job_from}

-- the last link is some, and at most all of them
largest_within : (w : ℕ) (ws : List ℕ) → 1 ≤ w → AreSome ws → (1 ≤ last_from w ws) × (last_from w ws ≤ sum (w ∷ ws))
largest_within w [] some others = (some, level (sum (w ∷ [])) (sum_by-cons (λ x. x) w [])) where
  level : (all : ℕ) → all ≡ w + 0 → w ≤ all
  level all is = omega arith
largest_within w (x ∷ ws) some others =
    let more = largest_within x ws others.0 others.1 in
    (more.0, level (last_from x ws) (sum (x ∷ ws)) (sum (w ∷ (x ∷ ws))) more.1 (sum_by-cons (λ y. y) w (x ∷ ws))) where
      level : (last part all : ℕ) → last ≤ part → all ≡ w + part → last ≤ all
      level last part all low is = omega arith

pub last_link_within : (k : Fraction) (rounds : ℕ) → 1 ≤ rounds → (1 ≤ last_link k rounds)
    × (last_link k rounds ≤ sum (chain k rounds))
last_link_within k zero many = absurd (omega (arith, many))
last_link_within k (suc rounds) many =
    largest_within _ _ (omega arith) (are_some k rounds (suc (most_light k (first_link k))) (omega arith))

-- the bait is worth something
pub some_bait : (k : Fraction) (rounds : ℕ) → IsRatio k → 1 ≤ rounds → FitsLimits k rounds → 1 ≤ bait_value k rounds
some_bait k rounds ratio many fits =
    let ends = last_link_within k rounds many in
    join (last_link k rounds) (sum (chain k rounds)) (bait_value k rounds) ends.0 ends.1 (small k rounds fits)
    (λ low. light_least k (last_link k rounds) ratio low) where
      join : (last all light : ℕ) → 1 ≤ last → last ≤ all → all < most_jobs Two → (last ≤ 1_000_000_000 → last ≤ light)
          → 1 ≤ light
      join last all light some low few least = omega (arith, some, least (omega (arith, low, few)))

-- a job without slack is within the limits
tight_is_job : (s w d : ℕ) → s < most_jobs Two → 1 ≤ w → w ≤ most_value → 1 ≤ d * w → d * w ≤ most_value
    → IsJob (tight_job s w d)
tight_is_job s w d early some low worth modest = job_from (record {
  work = some;
  small = omega (arith, low);
  window = omega arith;
  due = omega (arith, early, low);
  worth = worth;
  modest = modest;
})

module _ (k : Fraction) (rounds : ℕ) (ratio : IsRatio k) (fits : FitsLimits k rounds)
    (some_bait : 1 ≤ bait_value k rounds) where
  each_is_job : AllByRecursion IsJob (bait_jobs k rounds)
  each_is_job = all_jobs k rounds IsJob (small k rounds fits)
      (λ s w early some low. tight_is_job s w 1 early some (below w low) (once w some)
      (once_low w low))
      (λ s early. tight_is_job s 1 (unit_value k) early one one_low (unit_worth (unit_value k) (unit_some k ratio))
      (unit_modest (unit_value k) (unit_low k ratio)))
      (λ s early. tight_is_job s (bait_value k rounds) 1 early some_bait (modest k rounds fits)
      (once (bait_value k rounds) some_bait)
      (once_modest (bait_value k rounds) (modest k rounds fits))) where
        below : (w : ℕ) → w < most_jobs Two → w ≤ most_value
        below w low = omega arith

        once : (w : ℕ) → 1 ≤ w → 1 ≤ 1 * w
        once w some = omega arith

        once_low : (w : ℕ) → w < most_jobs Two → 1 * w ≤ most_value
        once_low w low = omega arith

        once_modest : (w : ℕ) → w ≤ most_value → 1 * w ≤ most_value
        once_modest w low = omega arith

        one : 1 ≤ 1
        one = omega arith

        one_low : 1 ≤ most_value
        one_low = omega arith

        unit_worth : (v : ℕ) → 1 ≤ v → 1 ≤ v * 1
        unit_worth v some = omega arith

        unit_modest : (v : ℕ) → v ≤ 1_000_000 → v * 1 ≤ most_value
        unit_modest v low = omega arith

  -- a job without slack of a density within the ratio is within the ratio of each
  dense : (s w d : ℕ) → k.q * d ≤ k.p → AllByRecursion (IsWithinRatio k (tight_job s w d)) (bait_jobs k rounds)
  dense s w d low = all_jobs k rounds (IsWithinRatio k (tight_job s w d)) (small k rounds fits)
      (λ s2 v early some less. dense_within k.p k.q d 1 w v low one)
      (λ s2 early. dense_within k.p k.q d (unit_value k) w 1 low (unit_some k ratio))
      (λ s2 early. dense_within k.p k.q d 1 w (bait_value k rounds) low one)
    where
      one : 1 ≤ 1
      one = omega arith

  densities : AllByRecursion (λ i. AllByRecursion (IsWithinRatio k i) (bait_jobs k rounds)) (bait_jobs k rounds)
  densities = all_jobs k rounds (λ i. AllByRecursion (IsWithinRatio k i) (bait_jobs k rounds)) (small k rounds fits)
      (λ s w early some less. dense s w 1 (plain (ratio_limits ratio).above_one))
      (λ s early. dense s 1 (unit_value k) (mul-div-le k.p k.q))
      (λ s early. dense s (bait_value k rounds) 1 (plain (ratio_limits ratio).above_one)) where
        plain : k.q ≤ k.p → k.q * 1 ≤ k.p
        plain low = omega arith

  total : total_value (bait_jobs k rounds) ≤ most_total Two
  total = level (total_value (bait_jobs k rounds)) (sum (chain k rounds)) (unit_value k) (bait_value k rounds)
      (how_much _ _ _ _ _ _ _ _ _ (whole k rounds))
      (small k rounds fits) (unit_low k ratio)
      (modest k rounds fits) where
        level : (all links unit bait : ℕ) → all ≡ links + unit * (links - rounds) + bait → links < most_jobs Two
            → unit ≤ 1_000_000 → bait ≤ most_value
            → all ≤ most_total Two
        level all links unit bait is few low modest =
            let product : unit * (links - rounds) ≤ 1_000_000 * 1_000_000 =
            mul-le unit (links - rounds) 1_000_000 1_000_000 low
            (omega (arith, few)) in
            omega (arith, is, few, product, modest)

  -- each is due soon
  soon : AllByRecursion (λ j. j.deadline ≤ last_tick_in Two) (bait_jobs k rounds)
  soon = all_jobs k rounds (λ j. j.deadline ≤ last_tick_in Two) (small k rounds fits)
      (λ s w early some low. omega (arith, early, low)) (λ s early. omega (arith, early))
      (λ s early. omega (arith, early, modest k rounds fits))

  pub valid : (version : Version)
      → IsValid (jobs_under version k (bait_jobs k rounds))
  valid version = valid_from (record {
    ratio = ratio;
    each = each_is_job;
    due = omega (arith, last_within (last_tick_in Two) (bait_jobs k rounds) soon, tick_least version);
    in_order = in_order _ _ _ _ _ _ _ _ _ (whole k rounds);
    count = omega (arith, fits.few, jobs_least version);
    total = omega (arith, total, total_least version);
    densities = densities;
  })
