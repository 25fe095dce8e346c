-- What schedules pay, at a price for the ticks of each job.
use Rattle.std.proofs.Common.{◌≡◌, ℕ, suc, ◌+◌, ◌-◌, ◌*◌, ◌≤◌, ◌<◌, List, [], ◌∷◌, length, get_or, inl, inr}
use Rattle.std.proofs.Common.{ap, ◌∙◌, subst, Bool, true, false, cond, arith}
use Rattle.std.specs.List.{sum_by, enumerate_from}
use Rattle.std.proofs.lemmas.Nat.{mul-le}
use Rattle.dover_model.specs.Common.{JobFacts, Rules, total_value, is_served, worth, numbered, IsMember, Each}
use Rattle.dover_model.specs.Common.{is_inside, Job}
use Rattle.dover_model.proofs.lists.Members.{sum_le, sum_plus, sum_zero, cond_le}
use Rattle.dover_model.proofs.rest.Parting.{worth_to}
use Rattle.dover_model.proofs.runs.Serving.{sum_numbered}
use Rattle.clairvoyant.specs.overload.Pricing.{paid, PaysAtMost, IsRaised}
use Rattle.clairvoyant.specs.overload.Stretches.{Caps}
use Rattle.clairvoyant.proofs.overload.Prices.{work_served, fit_inside, sum_times}

-- a job under its number stands at that place
stands_at : (k : ℕ) (jobs : List JobFacts) → Each (λ (n_j : Job). (i : ℕ) × (n_j.0 ≡ k + i) × (i < length jobs)
    × (n_j.1 ≡ get_or jobs i n_j.1)) (enumerate_from k jobs)
stands_at k [] n_j member = absurd member
stands_at k (j ∷ jobs) n_j (inl e) = (
  0,
  ap (λ (x : Job). x.0) e ∙ let z : k ≡ k + 0 = omega arith in z,
  let low : 0 < length (j ∷ jobs) = omega arith in low,
  ap (λ (x : Job). x.1) e,
)
stands_at k (j ∷ jobs) n_j (inr member) =
    let at : (i : ℕ) × (n_j.0 ≡ k + 1 + i) × (i < length jobs) × (n_j.1 ≡ get_or jobs i n_j.1) =
    stands_at (k + 1) jobs n_j member in (
      suc at.0,
      omega (arith, at.1),
      let low : suc at.0 < length (j ∷ jobs) = omega (arith, at.2) in low,
      at.3,
    )

module _ (jobs : List JobFacts) (a b more : ℕ) (old new : List ℕ) (raised : IsRaised jobs a b more old new)
    (s : List ℕ) where
  -- a schedule pays for a job what it paid before, and one layer where the job is inside
  pays_more : (n_j : Job) → IsMember n_j (enumerate_from 0 jobs)
      → paid new s n_j ≤ paid old s n_j + more * cond (is_inside a b n_j.1) (work_served s n_j) 0
  pays_more n_j member =
      let at : (i : ℕ) × (n_j.0 ≡ 0 + i) × (i < length jobs) ×
      (n_j.1 ≡ get_or jobs i n_j.1) = stands_at 0 jobs n_j member in
      let same : at.0 ≡ n_j.0 = omega (arith, at.1) in
      let up : get_or new n_j.0 0 ≤ get_or old n_j.0 0 + cond (is_inside a b n_j.1) more 0 =
      raised n_j.0 n_j.1 (omega (arith, at.2, same)) (subst (λ i. n_j.1 ≡ get_or jobs i n_j.1) same at.3) in
      by_test (get_or new n_j.0 0) (get_or old n_j.0 0) (work_served s n_j) (is_inside a b n_j.1) up where
        by_test : (x y w : ℕ) (c : Bool) → x ≤ y + cond c more 0 → x * w ≤ y * w + more * cond c w 0
        by_test x y w true up = omega (arith, mul-le x w (y + more) w up (omega arith))
        by_test x y w false up = omega (arith, mul-le x w y w (omega (arith, up)) (omega arith))

  -- and for all jobs no more than before, and what the window's ticks cost
  pub pays_layer : (cost : ℕ) → PaysAtMost jobs old cost
      → sum_by (paid new s) (enumerate_from 0 jobs) ≤ cost + more * (b - a)
  pays_layer cost pays =
      let inside : Job → ℕ = λ n_j. cond (is_inside a b n_j.1) (work_served s n_j) 0 in
      let each : sum_by (paid new s) (enumerate_from 0 jobs)
      ≤ sum_by (λ n_j. paid old s n_j + more * inside n_j) (enumerate_from 0 jobs) =
      sum_le (paid new s) (λ n_j. paid old s n_j + more * inside n_j) (enumerate_from 0 jobs) pays_more in
      omega (
        arith,
        each,
        sum_plus (paid old s) (λ n_j. more * inside n_j) (enumerate_from 0 jobs),
        sum_times more inside (enumerate_from 0 jobs),
        mul-le more (sum_by inside (enumerate_from 0 jobs)) more (b - a) (omega arith) (fit_inside jobs s a b),
        pays s,
      )

-- what a job is worth beyond the price of its work, at so many units of price for one of value
abbrev pub beyond_by : ℕ → List ℕ → Job → ℕ
beyond_by w prices (n, j) = w * j.value - get_or prices n 0 * j.work

-- no schedule is worth more than what schedules pay, and what the jobs are worth beyond
pub worth_most : (jobs : List JobFacts) (prices : List ℕ) (cost w : ℕ) → PaysAtMost jobs prices cost → (rules : Rules)
    (s : List ℕ) → w * worth (record { rules = rules; jobs = jobs }) s
    ≤ cost + sum_by (beyond_by w prices) (enumerate_from 0 jobs)
worth_most jobs prices cost w pays rules s =
    let each : sum_by (λ n_j. w * worth_to s n_j) (enumerate_from 0 jobs)
    ≤ sum_by (λ n_j. paid prices s n_j + beyond_by w prices n_j) (enumerate_from 0 jobs) =
    sum_le (λ n_j. w * worth_to s n_j) (λ n_j. paid prices s n_j + beyond_by w prices n_j)
    (enumerate_from 0 jobs) (λ n_j member. by_test n_j (is_served s n_j)) in
    omega (
      arith,
      each,
      sum_times w (worth_to s) (enumerate_from 0 jobs),
      sum_plus (paid prices s) (beyond_by w prices) (enumerate_from 0 jobs),
      pays s,
    ) where
      by_test : (n_j : Job) (c : Bool) → w * cond c n_j.1.value 0
          ≤ get_or prices n_j.0 0 * cond c n_j.1.work 0 + beyond_by w prices n_j
      by_test n_j true = omega arith
      by_test n_j false = omega arith

-- at no price nothing is paid
pub none_paid : (jobs : List JobFacts) (prices : List ℕ) → ((n : ℕ) → get_or prices n 0 ≡ 0) → PaysAtMost jobs prices 0
none_paid jobs prices none s = omega (
  arith,
  sum_zero (paid prices s) (enumerate_from 0 jobs)
      (λ n_j member. ap (λ p. p * cond (is_served s n_j) n_j.1.work 0) (none n_j.0)
      ∙ let z : 0 * cond (is_served s n_j) n_j.1.work 0 ≡ 0 = omega arith in z),
)

-- any schedule is worth at most the value of all jobs
pub total_caps : (jobs : List JobFacts) → Caps jobs (total_value jobs)
total_caps jobs rules s =
    let less : sum_by (worth_to s) (numbered (record { rules = rules; jobs = jobs }))
    ≤ sum_by (λ (n_j : Job). n_j.1.value) (numbered (record { rules = rules; jobs = jobs })) =
    sum_le (worth_to s) (λ n_j. n_j.1.value) (numbered (record { rules = rules; jobs = jobs }))
    (λ n_j member. cond_le (is_served s n_j) n_j.1.value) in
    omega (arith, less, sum_numbered (λ j. j.value) 0 jobs)
