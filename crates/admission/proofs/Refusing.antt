-- Testing a job against the least dense and the densest one is testing it against all.
use Rattle.std.proofs.Common.{◌≡◌, ◌≤◌, List, [], ◌∷◌, Bool, true, false, refl, sym, ◌∙◌, arith, ℕ, ◌+◌, ◌*◌, ◌<◌, ◌⊎◌}
use Rattle.std.proofs.Common.{inl, inr, length, Some, None, not, ◌&&◌, nat_le, nat_lt, le-leb, lt-ltb, le-ltb}
use Rattle.std.proofs.lemmas.Nat.{mul-le}
use Rattle.std.specs.List.{list_all}
use Rattle.std.proofs.lemmas.Bool.{lt-leb, leb-true, false≢true, and_from, and_parts}
use Rattle.dover_model.specs.Common.{last_tick_in, most_jobs, most_total, JobFacts, IsJob, is_job, Fraction}
use Rattle.dover_model.specs.Common.{Declaration, total_value, is_within_ratio_both_ways, refusal_of}
use Rattle.dover_model.specs.declared.events.Refusal.TheVariants.{BadJob, Count, Total, Ratio}
use Rattle.dover_model.specs.Admission.{first_cause}
use Rattle.dover_model.proofs.bound.Calculus.{cancel}
use Rattle.dover_model.proofs.lists.Tests.{both, each}
use Rattle.dover_model.proofs.lists.Members.{all_both, by_bool}
use Rattle.admission.specs.declared.extremes.Extremes.{Extremes}
use Rattle.admission.specs.Kept.{IsLessDense, IsLeastDense, IsDensest, IsBetween, AreExtremes}
use Rattle.admission.specs.Answers.{AllKeepRatio, LeastDenseKeeps, IsOther, numbered}
use Rattle.admission.proofs.Comparing.{not_both, no_less, within_least, within_densest}
use Rattle.admission.proofs.Firsts.{none_under, first_is, IsDenser, not_both_denser}
use Rattle.dover_model.proofs.valid.ValidParts.{IsWithinRatio, is_within_ratio-agrees}
use Rattle.dover_model.proofs.valid.JobLimits.{job_limits}

-- the test says so of both ways
both_ways : (k : Fraction) (i j : JobFacts) → (IsWithinRatio k i j × IsWithinRatio k j i)
    → is_within_ratio_both_ways k i j ≡ true
both_ways k i j within = (both _ _ (is_within_ratio-agrees k i j) (is_within_ratio-agrees k j i)).1 within

-- both ways are within
ways : (k : Fraction) (i j : JobFacts) → is_within_ratio_both_ways k i j ≡ true → IsWithinRatio k i j
    × IsWithinRatio k j i
ways k i j within = (both _ _ (is_within_ratio-agrees k i j) (is_within_ratio-agrees k j i)).0 within

-- what the least dense and the densest job keep, all keep
pub all_keep : (k : Fraction) (jobs : List JobFacts) (e : Extremes) (j : JobFacts) → AreExtremes k jobs e
    → is_within_ratio_both_ways k e.least.job j ≡ true → is_within_ratio_both_ways k e.densest.job j ≡ true
    → AllKeepRatio k jobs j
all_keep k jobs e j it least densest =
    all_both (λ i. IsLessDense i e.least.job → ⊥) (λ i. IsDenser i e.densest.job → ⊥)
    (λ i. is_within_ratio_both_ways k i j ≡ true) jobs
    keeps (none_under IsLessDense not_both jobs e.least it.least)
    (none_under IsDenser not_both_denser jobs e.densest it.densest) where
      least_job : IsJob e.least.job
      least_job = first_is IsLessDense not_both jobs e.least it.least IsJob it.each

      densest_job : IsJob e.densest.job
      densest_job = first_is IsDenser not_both_denser jobs e.densest it.densest IsJob it.each

      keeps : (i : JobFacts) → (IsLessDense i e.least.job → ⊥) → (IsDenser i e.densest.job → ⊥)
          → is_within_ratio_both_ways k i j ≡ true
      keeps i no_less_dense no_denser = both_ways k i j (
        within_densest k.p k.q j.value j.work e.densest.job.value e.densest.job.work i.value i.work
            (job_limits densest_job).work
            (no_less e.densest.job i no_denser) (ways k e.densest.job j densest).0,
        within_least k.p k.q j.value j.work e.least.job.value e.least.job.work i.value i.work
            (job_limits least_job).work
            (no_less i e.least.job no_less_dense) (ways k e.least.job j least).1,
      )

-- where the least dense and the densest keep the ratio, it is at least one
at_least_one : (p q lv lw dv dw : ℕ) → 1 ≤ dv → 1 ≤ lw → lv * dw ≤ dv * lw → q * dv * lw ≤ p * lv * dw → q ≤ p
at_least_one p q lv lw dv dw worth work order within =
    let more : p * (lv * dw) ≤ p * (dv * lw) = mul-le p (lv * dw) p (dv * lw) (omega arith) order in
    cancel (dv * lw) q p (mul-le 1 1 dv lw worth work) (omega arith)

-- what is no denser is within a ratio of at least one
within_more : (p q iv iw jv jw : ℕ) → q ≤ p → iv * jw ≤ jv * iw → q * iv * jw ≤ p * jv * iw
within_more p q iv iw jv jw ratio order =
    let more : q * (iv * jw) ≤ p * (jv * iw) = mul-le q (iv * jw) p (jv * iw) ratio order in omega (more, arith)

-- a job between the least dense and the densest keeps the ratio with all, where those two keep it
pub between_keep : (k : Fraction) (jobs : List JobFacts) (e : Extremes) (j : JobFacts) → AreExtremes k jobs e
    → e.keep_ratio ≡ true → IsBetween e j → AllKeepRatio k jobs j
between_keep k jobs e j it kept between = all_keep k jobs e j it (both_ways k e.least.job j (
  within_more k.p k.q e.least.job.value e.least.job.work j.value j.work ratio above,
  within_densest k.p k.q e.least.job.value e.least.job.work e.densest.job.value e.densest.job.work j.value j.work
      (job_limits densest_job).work below within.1,
)) (both_ways k e.densest.job j (
  within_least k.p k.q e.densest.job.value e.densest.job.work e.least.job.value e.least.job.work j.value j.work
      (job_limits least_job).work above within.1,
  within_more k.p k.q j.value j.work e.densest.job.value e.densest.job.work ratio below,
)) where
  least_job : IsJob e.least.job
  least_job = first_is IsLessDense not_both jobs e.least it.least IsJob it.each

  densest_job : IsJob e.densest.job
  densest_job = first_is IsDenser not_both_denser jobs e.densest it.densest IsJob it.each

  above : e.least.job.value * j.work ≤ j.value * e.least.job.work
  above = no_less j e.least.job between.0

  below : j.value * e.densest.job.work ≤ e.densest.job.value * j.work
  below = no_less e.densest.job j between.1

  order : e.least.job.value * e.densest.job.work ≤ e.densest.job.value * e.least.job.work
  order = no_less e.densest.job e.least.job (first_is IsDenser not_both_denser jobs e.densest it.densest
      (λ i. IsLessDense i e.least.job → ⊥) (none_under IsLessDense not_both jobs e.least it.least))

  within : IsWithinRatio k e.least.job e.densest.job × IsWithinRatio k e.densest.job e.least.job
  within = ways k e.least.job e.densest.job (sym it.keep ∙ kept)

  ratio : k.q ≤ k.p
  ratio = at_least_one k.p k.q e.least.job.value e.least.job.work e.densest.job.value e.densest.job.work
      (job_limits densest_job).worth (job_limits least_job).work order within.1

-- what one least dense job keeps, each keeps
pub least_keep : (k : Fraction) (jobs : List JobFacts) (e : Extremes) (j : JobFacts) → AreExtremes k jobs e
    → is_within_ratio_both_ways k e.least.job j ≡ true → LeastDenseKeeps k jobs j
least_keep k jobs e j it keeps x least = both_ways k x.job j (
  within_densest k.p k.q j.value j.work e.least.job.value e.least.job.work x.job.value x.job.work
      (job_limits least_job).work
      (no_less e.least.job x.job (first_is IsLessDense not_both jobs e.least it.least (λ i. IsLessDense i x.job → ⊥)
      (none_under IsLessDense not_both jobs x least))) (ways k e.least.job j keeps).0,
  within_least k.p k.q j.value j.work e.least.job.value e.least.job.work x.job.value x.job.work
      (job_limits least_job).work
      (no_less x.job e.least.job (first_is IsLessDense not_both jobs x least (λ i. IsLessDense i e.least.job → ⊥)
      (none_under IsLessDense not_both jobs e.least it.least))) (ways k e.least.job j keeps).1,
) where
  least_job : IsJob e.least.job
  least_job = first_is IsLessDense not_both jobs e.least it.least IsJob it.each

-- ---- the refusal

-- the first cause that holds
first_bad : (a b c d : Bool) → a ≡ false
    → first_cause ((not a, BadJob) ∷ (b, Count) ∷ (c, Total) ∷ (not d, Ratio) ∷ []) ≡ Some BadJob
first_bad a b c d one = rw one refl

first_count : (a b c d : Bool) → a ≡ true → b ≡ true
    → first_cause ((not a, BadJob) ∷ (b, Count) ∷ (c, Total) ∷ (not d, Ratio) ∷ []) ≡ Some Count
first_count a b c d one two = rw (one, two) refl

first_total : (a b c d : Bool) → a ≡ true → b ≡ false → c ≡ true
    → first_cause ((not a, BadJob) ∷ (b, Count) ∷ (c, Total) ∷ (not d, Ratio) ∷ []) ≡ Some Total
first_total a b c d one two three = rw (one, two, three) refl

first_ratio : (a b c d : Bool) → a ≡ true → b ≡ false → c ≡ false → d ≡ false
    → first_cause ((not a, BadJob) ∷ (b, Count) ∷ (c, Total) ∷ (not d, Ratio) ∷ []) ≡ Some Ratio
first_ratio a b c d one two three four = rw (one, two, three, four) refl

-- no cause holds
no_cause : (a b c d : Bool) → a ≡ true → b ≡ false → c ≡ false → d ≡ true
    → first_cause ((not a, BadJob) ∷ (b, Count) ∷ (c, Total) ∷ (not d, Ratio) ∷ []) ≡ None
no_cause a b c d one two three four = rw (one, two, three, four) refl

-- the job is within the limits of one job and the version's last tick
abbrev passes_alone : Declaration → JobFacts → Bool
passes_alone rules j = is_job j && nat_le j.deadline (last_tick_in rules.version)

-- a job within these limits passes their test
alone : (rules : Declaration) (j : JobFacts) → IsJob j → j.deadline ≤ last_tick_in rules.version
    → passes_alone rules j ≡ true
alone rules j job due = and_from (is_job j) (nat_le j.deadline (last_tick_in rules.version)) job.passes
    (le-leb _ _ due)

-- a job within all limits that keeps the ratio with all isn't refused
pub not_refused : (rules : Declaration) (jobs : List JobFacts) (j : JobFacts) → IsJob j
    → j.deadline ≤ last_tick_in rules.version
    → length jobs < most_jobs rules.version → total_value jobs + j.value ≤ most_total rules.version
    → AllKeepRatio rules.ratio jobs j → refusal_of rules jobs j ≡ None
not_refused rules jobs j job due count total all =
    let k : Fraction = rules.ratio in
    no_cause (passes_alone rules j) (nat_le (most_jobs rules.version) (length jobs))
    (nat_lt (most_total rules.version) (total_value jobs + j.value))
    (list_all (λ i. is_within_ratio_both_ways k i j) jobs) (alone rules j job due) (lt-leb _ _ count)
    (le-ltb _ _ total)
    ((each (λ i. is_within_ratio_both_ways k i j) (λ i. is_within_ratio_both_ways k i j ≡ true)
    (λ i. (λ h. h, λ h. h)) jobs).1 all)

-- a job out of these limits is refused as that
pub bad_refused : (rules : Declaration) (jobs : List JobFacts) (j : JobFacts)
    → (IsJob j → j.deadline ≤ last_tick_in rules.version → ⊥) → refusal_of rules jobs j ≡ Some BadJob
bad_refused rules jobs j bad =
    first_bad (passes_alone rules j) (nat_le (most_jobs rules.version) (length jobs))
    (nat_lt (most_total rules.version) (total_value jobs + j.value))
    (list_all (λ i. is_within_ratio_both_ways rules.ratio i j) jobs)
    (by_bool (passes_alone rules j ≡ false) (passes_alone rules j) (λ passes.
    let parts = and_parts (is_job j) (nat_le j.deadline (last_tick_in rules.version)) passes in
    absurd (bad (record { passes = parts.0 }) (leb-true _ _ parts.1))) (λ fails. fails))

-- a job behind as many as there may be is refused for their count
pub count_refused : (rules : Declaration) (jobs : List JobFacts) (j : JobFacts) → IsJob j
    → j.deadline ≤ last_tick_in rules.version
    → most_jobs rules.version ≤ length jobs → refusal_of rules jobs j ≡ Some Count
count_refused rules jobs j job due full =
    first_count (passes_alone rules j) (nat_le (most_jobs rules.version) (length jobs))
    (nat_lt (most_total rules.version) (total_value jobs + j.value))
    (list_all (λ i. is_within_ratio_both_ways rules.ratio i j) jobs) (alone rules j job due)
    (le-leb _ _ full)

-- a job that takes the values past their limit is refused for their sum
pub total_refused : (rules : Declaration) (jobs : List JobFacts) (j : JobFacts) → IsJob j
    → j.deadline ≤ last_tick_in rules.version
    → length jobs < most_jobs rules.version → most_total rules.version < total_value jobs + j.value
    → refusal_of rules jobs j ≡ Some Total
total_refused rules jobs j job due count over =
    first_total (passes_alone rules j) (nat_le (most_jobs rules.version) (length jobs))
    (nat_lt (most_total rules.version) (total_value jobs + j.value))
    (list_all (λ i. is_within_ratio_both_ways rules.ratio i j) jobs) (alone rules j job due)
    (lt-leb _ _ count) (lt-ltb _ _ over)

-- a job with another that breaks the ratio is refused for it
pub ratio_refused : (rules : Declaration) (jobs : List JobFacts) (j : JobFacts) (other : ℕ) → IsJob j
    → j.deadline ≤ last_tick_in rules.version
    → length jobs < most_jobs rules.version → total_value jobs + j.value ≤ most_total rules.version
    → IsOther rules.ratio jobs j other → refusal_of rules jobs j ≡ Some Ratio
ratio_refused rules jobs j other job due count total it =
    let k : Fraction = rules.ratio in
    first_ratio (passes_alone rules j) (nat_le (most_jobs rules.version) (length jobs))
    (nat_lt (most_total rules.version) (total_value jobs + j.value))
    (list_all (λ i. is_within_ratio_both_ways k i j) jobs) (alone rules j job due) (lt-leb _ _ count)
    (le-ltb _ _ total)
    (by_bool (list_all (λ i. is_within_ratio_both_ways k i j) jobs ≡ false)
    (list_all (λ i. is_within_ratio_both_ways k i j) jobs)
    (λ all. absurd (by_which ((each (λ i. is_within_ratio_both_ways k i j)
    (λ i. is_within_ratio_both_ways k i j ≡ true) (λ i. (λ h. h, λ h. h)) jobs).0 all) it.which))
    (λ fails. fails)) where
      broken : is_within_ratio_both_ways rules.ratio it.job j ≡ true → ⊥
      broken keeps = false≢true (sym it.breaks ∙ keeps)

      by_which : AllKeepRatio rules.ratio jobs j
          → (IsLeastDense jobs (numbered other it.job) ⊎ (IsDensest jobs (numbered other it.job)
          × LeastDenseKeeps rules.ratio jobs j)) → ⊥
      by_which all (inl least) = broken (first_is IsLessDense not_both jobs (numbered other it.job) least
          (λ i. is_within_ratio_both_ways rules.ratio i j ≡ true) all)
      by_which all (inr densest) = broken (first_is IsDenser not_both_denser jobs (numbered other it.job) densest.0
          (λ i. is_within_ratio_both_ways rules.ratio i j ≡ true) all)
