-- Of all bounds that a factor gives, that of the root is the least, and the factor that is one more than the root has
-- it.
use Rattle.std.proofs.Common.{◌≡◌, ℕ, ◌+◌, ◌-◌, ◌*◌, ◌≤◌, ◌<◌, ◌⊎◌, inl, inr, subst, arith, max}
use Rattle.std.proofs.lemmas.Bool.{cases_lt}
use Rattle.std.proofs.Math.Nat.{le-max_right, mul-le-mul_left, mul-le-mul_right}
use Rattle.dover_model.specs.Common.{Fraction, fraction, with_factor, IsWithin}
use Rattle.dover_model.proofs.bound.Calculus.{square_order, root_agrees, factor_agrees}

-- the square of a sum is at least four times the product
four_times : (u v : ℕ) → 4 * u * v ≤ (u + v) * (u + v)
four_times u v = by_order (cases_lt u v) where
  apart : (m d : ℕ) → 4 * m * (m + d) ≤ (m + (m + d)) * (m + (m + d))
  apart m d = omega arith

  by_order : (u < v) ⊎ (v ≤ u) → 4 * u * v ≤ (u + v) * (u + v)
  by_order (inl less) = let is : u + (v - u) ≡ v = omega (arith, less) in
      subst (λ n. 4 * u * n ≤ (u + n) * (u + n)) is (apart u (v - u))
  by_order (inr low) = let is : v + (u - v) ≡ u = omega (arith, low) in
      subst (λ n. 4 * n * v ≤ (n + v) * (n + v)) is
      (let it : 4 * v * (v + (u - v)) ≤ (v + (v + (u - v))) * (v + (v + (u - v))) =
      apart v (u - v) in omega (arith, it))

-- what a value exceeds by, by the root, is no more by a factor
excess_least : (p q c e a x : ℕ) → x * x ≤ 4 * p * q * a * a → c * e * x ≤ (q * e * e + p * c * c) * a
excess_least p q c e a x square = square_order (c * e * x) ((q * e * e + p * c * c) * a) (
    let one : (c * c * e * e) * (x * x) ≤ (c * c * e * e) * (4 * p * q * a * a) =
    mul-le-mul_left (c * c * e * e) square in
    let two : 4 * (q * e * e) * (p * c * c) ≤ (q * e * e + p * c * c) * (q * e * e + p * c * c) =
    four_times (q * e * e) (p * c * c) in
    let three : (4 * (q * e * e) * (p * c * c)) * (a * a)
    ≤ ((q * e * e + p * c * c) * (q * e * e + p * c * c)) * (a * a) =
    mul-le-mul_right (a * a) two in
    omega (arith, one, three))

-- the sum of both, where m is at least p·c
sum_least : (p q c e o a x m : ℕ) → q * o ≤ (p + q) * a + x → x * x ≤ 4 * p * q * a * a → p * c ≤ m
    → q * c * e * o ≤ (q * (c + e) * e + p * c * e + c * m) * a
sum_least p q c e o a x m below square most =
    let one : (c * e) * (q * o) ≤ (c * e) * ((p + q) * a + x) =
    mul-le-mul_left (c * e) below in
    let two : c * e * x ≤ (q * e * e + p * c * c) * a = excess_least p q c e a x square in
    let three : (c * a) * (p * c) ≤ (c * a) * m = mul-le-mul_left (c * a) most in
    omega (arith, one, two, three)

-- so no factor has a lesser bound than the root
pub root_least : (k : Fraction) (b c o a : ℕ) → c < b → IsWithin (fraction k.p k.q) o a
    → IsWithin (with_factor k b c) o a
root_least k b c o a more within = (factor_agrees k (record { b = b; c = c }) o a).1 (
    let is : c + (b - c) ≡ b = omega (arith, more) in
    subst (λ n. k.q * c * (b - c) * o
    ≤ (k.q * n * (b - c) + k.p * c * (b - c) + c * max (k.q * (b - c)) (k.p * c)) * a) is
    (sum_least k.p k.q c (b - c) o a (k.q * o - (k.p + k.q) * a) (max (k.q * (b - c)) (k.p * c)) (omega arith)
    ((root_agrees (fraction k.p k.q) o a).0 within) (le-max_right (k.q * (b - c)) (k.p * c))))
