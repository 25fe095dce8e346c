-- Jobs that are drawn are within the limits, in order, and within the ratio of each other.
use Rattle.std.proofs.Common.{◌≡◌, ℕ, zero, suc, ◌+◌, ◌-◌, ◌*◌, ◌/◌, ◌%◌, ◌≤◌, ◌∷◌, length, refl, sym, ap, ◌∙◌, arith}
use Rattle.std.specs.List.{AllByRecursion}
use Rattle.std.proofs.lemmas.Nat.{mul-le}
use Rattle.std.proofs.Math.Nat.{mul-div-le, le-div_iff_mul-le}
use Rattle.std.proofs.lemmas.List.Sums.{sum_by-cons}
use Rattle.dover_model.specs.declared.events.Version.{Version}
use Rattle.dover_model.specs.declared.events.Version.TheVariants.{Two}
use Rattle.dover_model.specs.Common.{last_tick_in, Fraction, IsRatio, JobFacts, IsJob, IsValid, jobs_under, total_value}
use Rattle.dover_model.specs.Common.{next_state, high_bits, most_density, job_of_draws, generated_jobs_from}
use Rattle.dover_model.specs.Common.{generated_jobs}
use Rattle.dover_model.proofs.bound.Calculus.{dense_within}
use Rattle.dover_model.proofs.valid.Limiting.{jobs_least, tick_least, total_least}
use Rattle.dover_model.proofs.valid.Dues.{last_within}
use Rattle.stated_jobs.specs.trial.Turns.{next_four, next_job}
use Rattle.dover_model.proofs.valid.ValidParts.{IsWithinRatio, ReleasesInOrder, valid_from}
use Rattle.dover_model.proofs.valid.JobLimits.{ratio_limits, job_from}

-- so many jobs are drawn
pub so_many : (k : Fraction) (count state last : ℕ) → length (generated_jobs_from k count state last) ≡ count
so_many k zero state last = refl
so_many k (suc count) state last = ap suc (so_many k count _ _)

module _ (k : Fraction) (state last a b c d : ℕ) (first : a ≡ next_state state) (second : b ≡ next_state a)
    (third : c ≡ next_state b)
    (fourth : d ≡ next_state c) where
  two : b ≡ next_state (next_state state)
  two = second ∙ ap next_state first

  three : c ≡ next_state (next_state (next_state state))
  three = third ∙ ap next_state two

  -- four draws lead to this state
  pub four : d ≡ next_four state
  four = fourth ∙ ap next_state three

  -- and to this job
  pub job_is : (job : JobFacts) → job ≡ job_of_draws k last (high_bits a) (high_bits b) (high_bits c) (high_bits d)
      → job ≡ next_job k state last
  job_is job is = is
      ∙ ap (λ x. job_of_draws k last (high_bits x) (high_bits b) (high_bits c) (high_bits d)) first
      ∙ ap (λ x. job_of_draws k last (high_bits (next_state state)) (high_bits x) (high_bits c) (high_bits d)) two
      ∙ ap (λ x. job_of_draws k last (high_bits (next_state state)) (high_bits (next_state (next_state state)))
      (high_bits x) (high_bits d)) three
      ∙ ap (λ x. job_of_draws k last (high_bits (next_state state)) (high_bits (next_state (next_state state)))
      (high_bits (next_state (next_state (next_state state)))) (high_bits x)) four

-- where some are still to come, the next job is before the others
pub next_one : (k : Fraction) (left state last : ℕ) (job : JobFacts) (state2 last2 : ℕ) → 1 ≤ left
    → job ≡ next_job k state last
    → state2 ≡ next_four state → last2 ≡ job.release
    → generated_jobs_from k left state last ≡ job ∷ generated_jobs_from k (left - 1) state2 last2
next_one k zero state last job state2 last2 some here later release = absurd (omega arith)
next_one k (suc left) state last job state2 last2 some here later release =
    let fewer : suc left - 1 ≡ left = omega arith in
    let after : (next_job k state last).release ≡ last2 = sym (ap (λ (j : JobFacts). j.release) here) ∙ sym release in
    ap (λ j. j ∷ generated_jobs_from k left (next_four state) (next_job k state last).release) (sym here)
    ∙ ap (λ n. job ∷ generated_jobs_from k left (next_four state) n) after
    ∙ ap (λ n. job ∷ generated_jobs_from k left n last2) (sym later)
    ∙ ap (λ n. job ∷ generated_jobs_from k n state2 last2) (sym fewer)

module _ (k : Fraction) (ratio : IsRatio k) where
  -- a density is drawn from at least one
  some_density : 1 ≤ most_density k
  some_density = let one : 1 ≤ k.p / k.q =
      (le-div_iff_mul-le {k = k.q} {x = 1} {y = k.p} (omega (arith, (ratio_limits ratio).least))).1
      (omega (arith, (ratio_limits ratio).above_one)) in
      omega (arith, one)

  -- and is at most the ratio
  density_low : (h : ℕ) → k.q * (1 + h % most_density k) ≤ k.p
  density_low h =
      let most : 1 + h % most_density k ≤ k.p / k.q = omega (arith, some_density) in
      let times : k.q * (1 + h % most_density k) ≤ k.q * (k.p / k.q) =
      mul-le k.q (1 + h % most_density k) k.q (k.p / k.q) (omega arith) most in
      omega (arith, times, mul-div-le k.p k.q)

  -- the value of a job
  pub value_low : (h w : ℕ) → (1 + h % most_density k) * (1 + w % 20) ≤ 20_000
  value_low h w = mul-le (1 + h % most_density k) (1 + w % 20) 1_000 20 (omega (arith, some_density)) (omega arith)

  value_some : (h w : ℕ) → 1 ≤ (1 + h % most_density k) * (1 + w % 20)
  value_some h w = mul-le 1 1 (1 + h % most_density k) (1 + w % 20) (omega arith) (omega arith)

  -- a drawn job is a job
  pub is_job : (last r w s d : ℕ) → last ≤ 16_000_000 → IsJob (job_of_draws k last r w s d)
  is_job last r w s d early = job_from (record {
    work = omega arith;
    small = omega arith;
    window = omega arith;
    due = omega (arith, early);
    worth = value_some d w;
    modest = omega (arith, value_low d w);
  })

  -- it is due soon
  drawn_due : (last r w s d : ℕ) → last ≤ 16_000_000 → (job_of_draws k last r w s d).deadline ≤ last_tick_in Two
  drawn_due last r w s d early = omega (arith, early)

  -- two drawn jobs are within the ratio
  two_within : (last r w s d last2 r2 w2 s2 d2 : ℕ)
      → IsWithinRatio k (job_of_draws k last r w s d) (job_of_draws k last2 r2 w2 s2 d2)
  two_within last r w s d last2 r2 w2 s2 d2 =
      dense_within k.p k.q (1 + d % most_density k) (1 + d2 % most_density k) (1 + w % 20) (1 + w2 % 20) (density_low d)
      (omega arith)

  -- of each job of a list
  all_drawn : (P : JobFacts → Type 0) → ((last r w s d : ℕ) → last ≤ 16_000_000 → P (job_of_draws k last r w s d))
      → (count state last : ℕ) → last + 8 * count ≤ 16_000_000
      → AllByRecursion P (generated_jobs_from k count state last)
  all_drawn P each zero state last fits = tt
  all_drawn P each (suc count) state last fits =
      (each last _ _ _ _ (omega arith), all_drawn P each count _ _ (omega arith))

  -- no release is below the last one
  all_later : (low count state last : ℕ) → low ≤ last
      → AllByRecursion (λ j. low ≤ j.release) (generated_jobs_from k count state last)
  all_later low zero state last early = tt
  all_later low (suc count) state last early = (omega arith, all_later low count _ _ (omega arith))

  in_order : (count state last : ℕ) → ReleasesInOrder (generated_jobs_from k count state last)
  in_order zero state last = tt
  in_order (suc count) state last = (all_later _ count _ _ (omega arith), in_order count _ _)

  -- small values add up
  total_low : (count state last : ℕ) → total_value (generated_jobs_from k count state last) ≤ 20_000 * count
  total_low zero state last = omega arith
  total_low (suc count) state last = omega (
    arith,
    sum_by-cons (λ j. j.value) (next_job k state last)
        (generated_jobs_from k count (next_four state) (next_job k state last).release),
    value_low (high_bits (next_four state)) (high_bits (next_state (next_state state))),
    total_low count (next_four state) (next_job k state last).release,
  )

  -- the list is valid
  pub valid : (seed count : ℕ) (version : Version) → count ≤ 1_000_000
      → IsValid (jobs_under version k (generated_jobs seed count k))
  valid seed count version few = valid_from (record {
    ratio = ratio;
    each = all_drawn IsJob is_job count seed 0 (omega (arith, few));
    due = omega (
      arith,
      last_within (last_tick_in Two) (generated_jobs seed count k)
          (all_drawn (λ j. j.deadline ≤ last_tick_in Two) drawn_due count seed 0 (omega (arith, few))),
      tick_least version,
    );
    in_order = in_order count seed 0;
    count = omega (arith, so_many k count seed 0, few, jobs_least version);
    total = omega (arith, total_low count seed 0, few, total_least version);
    densities = all_drawn (λ i. AllByRecursion (IsWithinRatio k i) (generated_jobs seed count k))
        (λ last r w s d _. all_drawn (IsWithinRatio k (job_of_draws k last r w s d))
        (λ last2 r2 w2 s2 d2 _. two_within last r w s d last2 r2 w2 s2 d2) count seed 0 (omega (arith, few))) count seed
        0 (omega (arith, few));
  })
