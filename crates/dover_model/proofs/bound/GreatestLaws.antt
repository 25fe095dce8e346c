-- The greatest number that passes is found, where those that pass are all the numbers up to one below 2 ^ 80.
use Rattle.std.proofs.Common.{◌≡◌, ℕ, zero, suc, ◌+◌, ◌-◌, ◌*◌, ◌/◌, ◌^◌, ◌≤◌, ◌<◌, ◌⊎◌, inl, inr, refl, sym, ◌∙◌}
use Rattle.std.proofs.Common.{subst, Bool, true, false, IsTrue, arith, if◌then◌else◌, Option, Some, None, nat_le}
use Rattle.std.proofs.Common.{le-leb, leb-true}
use Rattle.std.proofs.lemmas.Bool.{lt-leb, cases_lt}
use Rattle.std.proofs.Math.Nat.{pow-succ', mul-le-mul_right, mul-div-le, le-div_iff_mul-le}
use Rattle.std.proofs.lemmas.Nat.{mul-le}
use Rattle.dover_model.specs.Common.{Fraction, IsRatio, is_some_factor, Factor, IsGreatest, greatest, is_within}
use Rattle.dover_model.specs.Common.{is_within_by, is_within_root, bound, bound_by, scale, share, IsPaid, IsPaidBy}
use Rattle.dover_model.specs.Greatest.{greatest_from}
use Rattle.dover_model.proofs.bound.Calculus.{square_order, cancel, root_agrees, root_less, none_within_by}
use Rattle.dover_model.proofs.lists.Tests.{never}
use Rattle.dover_model.proofs.valid.JobLimits.{ratio_limits, FactorLimits, factor_limits}

-- what passes is closed downwards
abbrev pub IsDownwardClosed : (ℕ → Bool) → Type 0
IsDownwardClosed passes = (m n : ℕ) → m ≤ n → IsTrue (passes n) → IsTrue (passes m)

module _ (passes : ℕ → Bool) (closed : IsDownwardClosed passes) where
  -- nothing above n passes
  none_above : (n m : ℕ) → passes (n + 1) ≡ false → IsTrue (passes m) → m ≤ n
  none_above n m fails passed = by (cases_lt n m) where
    by : (n < m) ⊎ (m ≤ n) → m ≤ n
    by (inl above) = never (let up : IsTrue (passes (n + 1)) = closed (n + 1) m (omega (arith, above)) passed in
        sym fails ∙ up)
    by (inr within) = within

  greatest_from-is : (bits n : ℕ) → IsTrue (passes n) → passes (n + 2 ^ bits) ≡ false
      → IsGreatest passes (greatest_from passes bits n)
  greatest_from-is zero n does fails = record { does = does; greatest = λ m passed. none_above n m fails passed }
  greatest_from-is (suc bits) n does fails = by (passes (n + 2 ^ bits)) refl (greatest_from-is bits) where
    by : (b : Bool) → passes (n + 2 ^ bits) ≡ b
        → ((k : ℕ) → IsTrue (passes k) → passes (k + 2 ^ bits) ≡ false
        → IsGreatest passes (greatest_from passes bits k))
        → IsGreatest passes (greatest_from passes bits (if b then n + 2 ^ bits else n))
    by true high more = more (n + 2 ^ bits) high
        (subst (λ k. passes k ≡ false)
        (let twice : 2 ^ suc bits ≡ 2 * 2 ^ bits = pow-succ' 2 bits in omega (arith, twice)) fails)
    by false low more = more n does low

  pub greatest-is : IsTrue (passes 0) → passes (2 ^ 80) ≡ false → IsGreatest passes (greatest passes)
  greatest-is does fails = greatest_from-is 80 0 does fails

-- ---- the competitive bound

-- what is less is within as well
within_closed : (k : Fraction) (a : ℕ) → IsDownwardClosed (λ c. is_within_root k c a)
within_closed k a m n h within = root_less k m n a h within

-- what stands under the root has no great root
pub root_small : (k : Fraction) (a x : ℕ) → IsRatio k → x * x ≤ 4 * k.p * k.q * a * a → x ≤ 2_000 * (k.q * a)
root_small k a x ratio within = square_order x (2_000 * (k.q * a))
    (let one : k.p * (k.q * a * a) ≤ (1_000_000 * k.q) * (k.q * a * a) =
    mul-le-mul_right (k.q * a * a) (omega (arith, (ratio_limits ratio).small_p, (ratio_limits ratio).least)) in
    omega (arith, one, within))

-- nor is what stands before it great
pub sum_small : (k : Fraction) (a : ℕ) → IsRatio k → (k.p + k.q) * a ≤ 1_000_001 * (k.q * a)
sum_small k a ratio = let one : (k.p + k.q) * a ≤ (1_000_001 * k.q) * a =
    mul-le-mul_right a (omega (arith, (ratio_limits ratio).small_p, (ratio_limits ratio).least)) in omega (arith, one)

-- so what is within by the root is at most a million and some times the value
pub root_within_small : (k : Fraction) (c a : ℕ) → IsRatio k → IsTrue (is_within_root k c a) → c ≤ 1_002_001 * a
root_within_small k c a ratio within = cancel k.q c (1_002_001 * a) (ratio_limits ratio).least
    (let root : k.q * c - (k.p + k.q) * a ≤ 2_000 * (k.q * a) =
    root_small k a (k.q * c - (k.p + k.q) * a) ratio ((root_agrees k c a).0 within) in
    omega (arith, root, sum_small k a ratio))

-- what is beyond the bits is not
beyond : (k : Fraction) (a : ℕ) → IsRatio k → a < 10 ^ 18 → is_within_root k (2 ^ 80) a ≡ false
beyond k a ratio small = by_order (cases_lt (4 * k.p * k.q * a * a)
    ((k.q * 2 ^ 80 - (k.p + k.q) * a) * (k.q * 2 ^ 80 - (k.p + k.q) * a))) where
      by_order : (4 * k.p * k.q * a * a < (k.q * 2 ^ 80 - (k.p + k.q) * a) * (k.q * 2 ^ 80 - (k.p + k.q) * a))
          ⊎ ((k.q * 2 ^ 80 - (k.p + k.q) * a) * (k.q * 2 ^ 80 - (k.p + k.q) * a) ≤ 4 * k.p * k.q * a * a)
          → is_within_root k (2 ^ 80) a ≡ false
      by_order (inl over) = lt-leb _ _ over
      by_order (inr within) =
          absurd
          (let low : 2 ^ 80 ≤ 1_002_001 * a =
          root_within_small k (2 ^ 80) a ratio ((root_agrees k (2 ^ 80) a).1 within) in
          omega (arith, low, small))

-- the scale of a factor is at least one
pub scale_some : (k : Fraction) (f : Factor) → 1 ≤ k.q → 1 ≤ f.c → f.c < f.b → 1 ≤ scale k f
scale_some k f some one more =
    let first : 1 * 1 ≤ k.q * f.c = mul-le 1 1 k.q f.c some one in
    let all : 1 * 1 ≤ (k.q * f.c) * (f.b - f.c) = mul-le 1 1 (k.q * f.c) (f.b - f.c) (omega (arith, first))
    (omega (arith, more)) in omega (arith, all)

-- a quotient is the greatest number of which so many times is within
quotient_is : (s t : ℕ) → 1 ≤ s → IsGreatest (λ c. nat_le (s * c) t) (t / s)
quotient_is s t some = record { does = does; greatest = none_greater } where
  does : IsTrue (nat_le (s * (t / s)) t)
  does = le-leb _ _ (mul-div-le t s)

  none_greater : (c : ℕ) → IsTrue (nat_le (s * c) t) → c ≤ t / s
  none_greater c within =
      let low : s * c ≤ t = leb-true _ _ within in
      (le-div_iff_mul-le {k = s} {x = c} {y = t} (omega (arith, some))).1 (omega (arith, low))

-- the bound by a factor, or by the root, is the greatest value within it
pub bound_by-is : (k : Fraction) (o : Option Factor) (a : ℕ) → IsRatio k → IsTrue (is_some_factor o) → a < 10 ^ 18
    → IsGreatest (λ c. is_within_by k o c a) (bound_by k o a)
bound_by-is k None a ratio some small =
    greatest-is (λ c. is_within_root k c a) (within_closed k a) (none_within_by k None a) (beyond k a ratio small)
bound_by-is k (Some f) a ratio some small =
    quotient_is (scale k f) (share k f * a)
    (scale_some k f (ratio_limits ratio).least (factor_limits f some).least (factor_limits f some).more)

-- the bound is the greatest value within it
pub bound-is : (k : Fraction) (a : ℕ) → IsRatio k → a < 10 ^ 18 → IsGreatest (λ c. is_within k c a) (bound k a)
bound-is k a ratio small = bound_by-is k k.factor a ratio (ratio_limits ratio).factor small

-- what is paid is at most a thousand times what pays for it
paid_small_by : (k : Fraction) (o : Option Factor) (d z : ℕ) → IsRatio k → IsTrue (is_some_factor o)
    → IsPaidBy k o d z → d ≤ 1_000 * z
paid_small_by k None d z ratio some paid =
    let less : d ≤ z = square_order d z (cancel k.p (d * d) (z * z)
    (omega (arith, (ratio_limits ratio).least, (ratio_limits ratio).above_one))
    (let more : k.q * (z * z) ≤ k.p * (z * z) = mul-le-mul_right (z * z) (ratio_limits ratio).above_one in
    omega (arith, paid, more))) in omega (arith, less)
paid_small_by k (Some f) d z ratio some paid =
    let limits : FactorLimits f = factor_limits f some in
    let one : 1 * d ≤ (f.b - f.c) * d = mul-le-mul_right d (omega (arith, limits.more)) in
    let small : f.c ≤ 1_000 = limits.small_c in
    let most : f.c * z ≤ 1_000 * z = mul-le-mul_right z small in
    omega (arith, paid, one, most)

-- by what the ratio says
pub paid_small : (k : Fraction) (d z : ℕ) → IsRatio k → IsPaid k d z → d ≤ 1_000 * z
paid_small k d z ratio = paid_small_by k k.factor d z ratio (ratio_limits ratio).factor
