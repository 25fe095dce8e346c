-- What stands under the root of the bound, and the bound that its whole root gives.
use Rattle.std.proofs.Common.{◌≡◌, ℕ, ◌+◌, ◌-◌, ◌*◌, ◌/◌, ◌≤◌, ◌<◌, ◌⊎◌, inl, inr, Bool, IsTrue, arith, min}
use Rattle.std.proofs.Common.{sym, subst, ap}
use Rattle.std.proofs.lemmas.Nat.{mul-le}
use Rattle.std.proofs.lemmas.Bool.{le-leb, leb-true, cases_lt}
use Rattle.std.proofs.Math.Nat.{mul-div-le, le-div_iff_mul-le, mul-le-mul_left, mul-le-mul_right}
use Rattle.dover_model.specs.Common.{Fraction, IsGreatest, is_within_root}
use Rattle.dover_model.proofs.bound.Calculus.{square_order}

-- ---- the root of m times a, as its whole root times a and a rest

module _ (m root a : ℕ) (within : root * root ≤ m) (greatest : m < (root + 1) * (root + 1)) where
  -- what is left of m without the square of its root, times a, without the products of the root and the rest
  abbrev left : ℕ → ℕ
  left rest = (m - root * root) * a - 2 * root * rest

  -- the square of m is that of the root and what is left
  parts : m * a * a ≡ (root * a) * (root * a) + (m - root * root) * a * a
  parts = let d : ℕ = m - root * root in let whole : m ≡ root * root + d = omega (arith, within) in
      subst (λ n. n * a * a ≡ (root * a) * (root * a) + d * a * a) (sym whole) (omega arith)

  -- a square as what is left says is within
  pub rest_within : (rest : ℕ) → rest * rest ≤ a * left rest → (root * a + rest) * (root * a + rest) ≤ m * a * a
  rest_within rest small = by_order (cases_lt ((m - root * root) * a) (2 * root * rest)) where
    by_order : ((m - root * root) * a < 2 * root * rest) ⊎ (2 * root * rest ≤ (m - root * root) * a)
        → (root * a + rest) * (root * a + rest) ≤ m * a * a
    by_order (inl over) = absurd (
        let none : left rest ≡ 0 = omega (arith, over) in
        let square : rest * rest ≤ a * 0 = subst (λ x. rest * rest ≤ a * x) none small in
        let zero : rest ≤ 0 = square_order rest 0 (omega (arith, square)) in
        let product : 2 * root * rest ≤ 2 * root * 0 = mul-le-mul_left (2 * root) zero in omega (arith, over, product))
    by_order (inr fits) =
        let sum : left rest + 2 * root * rest ≡ (m - root * root) * a = omega (arith, fits) in
        let times : a * (left rest + 2 * root * rest) ≡ a * ((m - root * root) * a) = ap (λ x. a * x) sum in
        omega (arith, parts, times, small)

  -- the rest of what is within is at most a
  pub rest_low : (rest : ℕ) → (root * a + rest) * (root * a + rest) ≤ m * a * a → rest ≤ a
  rest_low rest fits = by_order (cases_lt a rest) where
    by_order : (a < rest) ⊎ (rest ≤ a) → rest ≤ a
    by_order (inl over) = absurd (
        let more : ((root + 1) * a + 1) * ((root + 1) * a + 1) ≤ (root * a + rest) * (root * a + rest) =
        mul-le ((root + 1) * a + 1) ((root + 1) * a + 1) (root * a + rest) (root * a + rest) (omega (arith, over))
        (omega (arith, over)) in
        let less : m * (a * a) ≤ ((root + 1) * (root + 1)) * (a * a) =
        mul-le-mul_right (a * a) (omega (arith, greatest)) in
        omega (arith, fits, more, less))
    by_order (inr low) = low

  -- and its square is as what is left says
  pub rest_fits : (rest : ℕ) → (root * a + rest) * (root * a + rest) ≤ m * a * a → rest * rest ≤ a * left rest
  rest_fits rest fits = by_order (cases_lt ((m - root * root) * a) (2 * root * rest)) where
    less : a * (2 * root * rest) + rest * rest ≤ a * ((m - root * root) * a)
    less = omega (arith, parts, fits)

    by_order : ((m - root * root) * a < 2 * root * rest) ⊎ (2 * root * rest ≤ (m - root * root) * a)
        → rest * rest ≤ a * left rest
    by_order (inl over) =
        let more : a * ((m - root * root) * a) ≤ a * (2 * root * rest) = mul-le-mul_left a (omega (arith, over)) in
        omega (arith, less, more)
    by_order (inr under) =
        let sum : left rest + 2 * root * rest ≡ (m - root * root) * a = omega (arith, under) in
        let times : a * (left rest + 2 * root * rest) ≡ a * ((m - root * root) * a) = ap (λ x. a * x) sum in
        omega (arith, times, less)

  -- no rest is always within
  pub none_within : (root * a + 0) * (root * a + 0) ≤ m * a * a
  none_within = omega (arith, parts)

  -- and a rest above a never
  pub beyond_all : (rest : ℕ) → a < rest → m * a * a < (root * a + rest) * (root * a + rest)
  beyond_all rest over = by_order (cases_lt (m * a * a) ((root * a + rest) * (root * a + rest))) where
    by_order : (m * a * a < (root * a + rest) * (root * a + rest))
        ⊎ ((root * a + rest) * (root * a + rest) ≤ m * a * a)
        → m * a * a < (root * a + rest) * (root * a + rest)
    by_order (inl less) = less
    by_order (inr fits) = absurd (let low : rest ≤ a = rest_low rest fits in omega (arith, low, over))

-- what has no root above a number is less than the square of the next one
pub beyond_root : (m root : ℕ) → ((r : ℕ) → r * r ≤ m → r ≤ root) → m < (root + 1) * (root + 1)
beyond_root m root greatest = by_order (cases_lt m ((root + 1) * (root + 1))) where
  by_order : (m < (root + 1) * (root + 1)) ⊎ ((root + 1) * (root + 1) ≤ m) → m < (root + 1) * (root + 1)
  by_order (inl less) = less
  by_order (inr fits) = absurd (let low : root + 1 ≤ root = greatest (root + 1) fits in omega (arith, low))

-- the square of the rest is at most that product with the least of two
pub least_fits : (least left a rest : ℕ) → least ≡ min left a → rest * rest ≤ a * left → rest ≤ a
    → rest * rest ≤ a * least
least_fits least left a rest is fits low = by_order (cases_lt left a) where
  by_order : (left < a) ⊎ (a ≤ left) → rest * rest ≤ a * least
  by_order (inl less) = subst (λ n. rest * rest ≤ a * n) (let same : left ≡ least = omega (arith, is, less) in same)
      fits
  by_order (inr more) = subst (λ n. rest * rest ≤ a * n) (let same : a ≡ least = omega (arith, is, more) in same)
      (mul-le rest rest a a low low)

-- what has at most the square of a number is at most that number
pub at_most : (x y n : ℕ) → x * x ≤ n → n < (y + 1) * (y + 1) → x ≤ y
at_most x y n within beyond = by_order (cases_lt y x) where
  by_order : (y < x) ⊎ (x ≤ y) → x ≤ y
  by_order (inl more) = absurd
      (let square : (y + 1) * (y + 1) ≤ x * x =
      mul-le (y + 1) (y + 1) x x (omega (arith, more)) (omega (arith, more)) in
      omega (arith, square, within, beyond))
  by_order (inr low) = low

-- ---- the bound

-- two greatest numbers are one
pub one_greatest : (passes : ℕ → Bool) (m n : ℕ) → IsGreatest passes m → IsGreatest passes n → m ≡ n
one_greatest passes m n one other = let up : m ≤ n = other.greatest m one.does in let down : n
    ≤ m = one.greatest n other.does in omega (arith, up, down)

module _ (k : Fraction) (a root : ℕ) (some : 1 ≤ k.q)
    (square : root * root ≤ 4 * k.p * k.q * a * a)
    (greatest : (r : ℕ) → r * r ≤ 4 * k.p * k.q * a * a → r ≤ root) where
  -- what is over at the value that the root gives is at most the root
  over : k.q * (((k.p + k.q) * a + root) / k.q) - (k.p + k.q) * a ≤ root
  over = let whole : k.q * (((k.p + k.q) * a + root) / k.q) ≤ (k.p + k.q) * a + root =
      mul-div-le ((k.p + k.q) * a + root) k.q in omega (arith, whole)

  -- so the value is within
  does : IsTrue (is_within_root k (((k.p + k.q) * a + root) / k.q) a)
  does = le-leb _ _ (up _ over) where
    up : (x : ℕ) → x ≤ root → x * x ≤ 4 * k.p * k.q * a * a
    up x less = let squares : x * x ≤ root * root = mul-le x x root root less less in omega (arith, squares, square)

  -- and no greater one is
  none_greater : (c : ℕ) → IsTrue (is_within_root k c a) → c ≤ ((k.p + k.q) * a + root) / k.q
  none_greater c within =
      let less : k.q * c - (k.p + k.q) * a ≤ root = greatest (k.q * c - (k.p + k.q) * a) (leb-true _ _ within) in
      (le-div_iff_mul-le {k = k.q} {x = c} {y = (k.p + k.q) * a + root} (omega arith)).1 (omega (arith, less))

  -- the whole root gives the greatest value within the bound
  pub root_gives : IsGreatest (λ c. is_within_root k c a) (((k.p + k.q) * a + root) / k.q)
  root_gives = record { does = does; greatest = none_greater }
