-- Densities as whole numbers, and the items by density, which come as the model orders waiting jobs in a pressed state.
use Rattle.std.proofs.Common.{◌≡◌, ℕ, ◌+◌, ◌-◌, ◌*◌, ◌/◌, ◌^◌, ◌<◌, ◌≤◌, ◌⊎◌, inl, inr, Bool, true, false, not}
use Rattle.std.proofs.Common.{◌||◌, ◌&&◌, nat_lt, ap, ◌∙◌, sym, arith}
use Rattle.std.proofs.lemmas.Bool.{cases_lt}
use Rattle.std.proofs.lemmas.Nat.{mul-le}
use Rattle.std.proofs.Math.Nat.{mul-div-le, le-div_iff_mul-le, mul-le-mul_left}
use Rattle.dover_model.specs.Common.{IsJob, entry_of, due_first, is_less_dense, waiting_order}
use Rattle.dover_model.specs.declared.events.Task.{Task}
use Rattle.dover_model.specs.declared.events.Version.TheVariants.{Four}
use Rattle.dover_model.proofs.valid.JobLimits.{job_limits}
use Rattle.place_heap.specs.Items.{less_or, is_before}
use Rattle.place_heap.specs.Orders.{density_of, dense_item}
use Rattle.place_heap.proofs.Tying.{ordered_as}

-- ---- numbers

-- what is no more as often as it is taken, is no more
no_more : (w a b : ℕ) → 0 < w → w * a ≤ w * b → a ≤ b
no_more w a b some h = by_order (cases_lt b a) where
  by_order : (b < a) ⊎ (a ≤ b) → a ≤ b
  by_order (inr fine) = fine
  by_order (inl less) = absurd (let more : w * (b + 1) ≤ w * a = mul-le-mul_left w (omega (arith, less)) in
      omega (arith, more, h, some))

-- the values v and x by the works w and u, in s parts of one
module _ (v w x u s : ℕ) (w_some : 0 < w) (u_some : 0 < u) where
  part : w * (v * s / w) ≤ v * s
  part = mul-div-le (v * s) w

  -- the less dense one has the lesser number, where there are enough parts
  pub less_dense : w * u ≤ s → v * u < x * w → v * s / w < x * s / u
  less_dense fine less =
      let q : ℕ = v * s / w in
      let one : u * (w * q) ≤ u * (v * s) = mul-le-mul_left u part in
      let two : s * (v * u + 1) ≤ s * (x * w) = mul-le-mul_left s (omega (arith, less)) in
      let all : w * (u * (q + 1)) ≤ w * (x * s) = omega (arith, one, two, fine) in
      let more : q + 1 ≤ x * s / u = (le-div_iff_mul-le {k = u} {x = q + 1} {y = x * s} u_some).1
      (omega (arith, no_more w (u * (q + 1)) (x * s) w_some all)) in
      omega (arith, more)

  -- and where they are as dense, it has no greater one
  pub as_dense : v * u ≡ x * w → v * s / w ≤ x * s / u
  as_dense same =
      let q : ℕ = v * s / w in
      let one : u * (w * q) ≤ u * (v * s) = mul-le-mul_left u part in
      let two : s * (v * u) ≤ s * (x * w) = mul-le-mul_left s (omega (arith, same)) in
      let all : w * (u * q) ≤ w * (x * s) = omega (arith, one, two) in
      (le-div_iff_mul-le {k = u} {x = q} {y = x * s} u_some).1
      (omega (arith, no_more w (u * q) (x * s) w_some all))

-- it isn't more than the value in as many parts
pub density_most : (v w s : ℕ) → 0 < w → v * s / w ≤ v * s
density_most v w s some =
    let part : w * (v * s / w) ≤ v * s = mul-div-le (v * s) w in
    let least : v * s / w * 1 ≤ v * s / w * w = mul-le-mul_left (v * s / w) (omega (arith, some)) in
    omega (arith, part, least)

-- ---- the order of numbers

less_of : (m n : ℕ) (rest : Bool) → m < n → less_or m n rest ≡ true
less_of m n rest h = grind arith

more_of : (m n : ℕ) (rest : Bool) → n < m → less_or m n rest ≡ false
more_of m n rest h = grind arith

same_of : (m n : ℕ) (rest : Bool) → m ≡ n → less_or m n rest ≡ rest
same_of m n rest h = grind arith

is_less : (m n : ℕ) → m < n → nat_lt m n ≡ true
is_less m n h = grind arith

is_no_less : (m n : ℕ) → n ≤ m → nat_lt m n ≡ false
is_no_less m n h = grind arith

-- two numbers kept as one come as the first, and where those are equal as the second
module _ (d e t u : ℕ) (rest : Bool) (t_fits : t < 2 ^ 32) (u_fits : u < 2 ^ 32) where
  abbrev m : ℕ
  m = d * 2 ^ 32 + t

  abbrev n : ℕ
  n = e * 2 ^ 32 + u

  by_second : d ≡ e → (t < u) ⊎ (u ≤ t) → (u < t) ⊎ (t ≤ u) → less_or m n rest ≡ less_or d e (less_or t u rest)
  by_second same (inl less) any = less_of m n rest (omega (arith, same, less))
      ∙ sym (same_of d e (less_or t u rest) same ∙ less_of t u rest less)
  by_second same (inr low) (inl more) = more_of m n rest (omega (arith, same, more))
      ∙ sym (same_of d e (less_or t u rest) same ∙ more_of t u rest more)
  by_second same (inr low) (inr high) = same_of m n rest (omega (arith, same, low, high))
      ∙ sym (same_of d e (less_or t u rest) same ∙ same_of t u rest (omega (arith, low, high)))

  by_first : (d < e) ⊎ (e ≤ d) → (e < d) ⊎ (d ≤ e) → less_or m n rest ≡ less_or d e (less_or t u rest)
  by_first (inl less) any = less_of m n rest (omega (arith, less, t_fits)) ∙ sym (less_of d e (less_or t u rest) less)
  by_first (inr low) (inl more) = more_of m n rest (omega (arith, more, u_fits))
      ∙ sym (more_of d e (less_or t u rest) more)
  by_first (inr low) (inr high) = by_second (omega (arith, low, high)) (cases_lt t u) (cases_lt u t)

  pub in_one : less_or (d * 2 ^ 32 + t) (e * 2 ^ 32 + u) rest ≡ less_or d e (less_or t u rest)
  in_one = by_first (cases_lt d e) (cases_lt e d)

-- ---- the items

-- the order where neither is less dense, by what is so of both
by_both : (x y due : Bool) → x ≡ false → y ≡ false → (x || (not y && due)) ≡ due
by_both x y due is_x is_y = ap (λ z. z || (not y && due)) is_x ∙ ap (λ z. false || (not z && due)) is_y

module _ (a b : Task) (p q : ℕ) (a_job : IsJob a.job) (b_job : IsJob b.job) where
  abbrev d : ℕ
  d = density_of a.job

  abbrev e : ℕ
  e = density_of b.job

  abbrev la : ℕ
  la = a.job.value * b.job.work

  abbrev lb : ℕ
  lb = b.job.value * a.job.work

  a_some : 0 < a.job.work
  a_some = let some : 1 ≤ a.job.work = (job_limits a_job).work in omega (arith, some)

  b_some : 0 < b.job.work
  b_some = let some : 1 ≤ b.job.work = (job_limits b_job).work in omega (arith, some)

  fine : a.job.work * b.job.work ≤ 2 ^ 80
  fine = omega (
    arith,
    mul-le a.job.work b.job.work 1_000_000_000_000 1_000_000_000_000 (job_limits a_job).small (job_limits b_job).small,
  )

  a_modest : a.job.value ≤ 1_000_000_000
  a_modest = (job_limits a_job).modest

  b_modest : b.job.value ≤ 1_000_000_000
  b_modest = (job_limits b_job).modest

  d_most : d ≤ 2 ^ 112
  d_most = omega (arith, density_most a.job.value a.job.work (2 ^ 80) a_some, a_modest)

  e_most : e ≤ 2 ^ 112
  e_most = omega (arith, density_most b.job.value b.job.work (2 ^ 80) b_some, b_modest)

  -- as dense, they come by deadline
  rest_is : less_or (dense_item p a).tie (dense_item q b).tie (nat_lt a.number b.number) ≡ due_first Four a b
  rest_is = in_one a.job.deadline b.job.deadline (1_000_000_000 - a.job.value) (1_000_000_000 - b.job.value)
      (nat_lt a.number b.number) (omega arith) (omega arith)
      ∙ (ordered_as Four (entry_of a) (entry_of b) p q a_modest b_modest).due

  as_is : (la < lb) ⊎ (lb ≤ la) → (lb < la) ⊎ (la ≤ lb)
      → is_before (dense_item p a) (dense_item q b) ≡ waiting_order Four true a b
  as_is (inl less) any =
      let lower : d < e = less_dense a.job.value a.job.work b.job.value b.job.work (2 ^ 80) a_some b_some fine less in
      more_of (2 ^ 112 - d) (2 ^ 112 - e) _ (omega (arith, lower, e_most))
      ∙ sym (ap (λ z. z || (not (is_less_dense a b) && due_first Four a b)) (is_no_less lb la (omega (arith, less)))
      ∙ ap (λ z. false || (not z && due_first Four a b)) (is_less la lb less))
  as_is (inr low) (inl more) =
      let higher : e < d = less_dense b.job.value b.job.work a.job.value a.job.work (2 ^ 80) b_some a_some
      (omega (arith, fine)) more in
      less_of (2 ^ 112 - d) (2 ^ 112 - e) _ (omega (arith, higher, d_most))
      ∙ sym (ap (λ z. z || (not (is_less_dense a b) && due_first Four a b)) (is_less lb la more))
  as_is (inr low) (inr high) =
      let same : a.job.value * b.job.work ≡ b.job.value * a.job.work = omega (arith, low, high) in
      let back : b.job.value * a.job.work ≡ a.job.value * b.job.work = sym same in
      let up : d ≤ e = as_dense a.job.value a.job.work b.job.value b.job.work (2 ^ 80) a_some b_some same in
      let down : e ≤ d = as_dense b.job.value b.job.work a.job.value a.job.work (2 ^ 80) b_some a_some back in
      same_of (2 ^ 112 - d) (2 ^ 112 - e) _ (omega (arith, up, down)) ∙ rest_is
      ∙ sym (by_both (is_less_dense b a) (is_less_dense a b) (due_first Four a b)
      (is_no_less lb la (omega (arith, high))) (is_no_less la lb (omega (arith, low))))

  -- items by density come as the jobs do
  pub dense_law : is_before (dense_item p a) (dense_item q b) ≡ waiting_order Four true a b
  dense_law = as_is (cases_lt la lb) (cases_lt lb la)
