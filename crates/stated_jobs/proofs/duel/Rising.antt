-- From link to link the ticks of small jobs rise against the work: one step, over plain numbers.
use Rattle.std.proofs.Common.{◌≡◌, ℕ, ◌+◌, ◌-◌, ◌*◌, ◌≤◌, ◌<◌, inl, inr, refl, subst, arith}
use Rattle.std.proofs.lemmas.Bool.{cases_lt}
use Rattle.std.proofs.lemmas.Nat.{mul-le}
use Rattle.dover_model.proofs.bound.Calculus.{cancel}

-- twice a product is at most the two squares
pub two_products : (u v : ℕ) → 2 * (u * v) ≤ u * u + v * v
two_products u v =
    elim (cases_lt u v) [ inl low ↦ less u (v - u) v (omega arith) | inr high ↦ more v (u - v) u (omega arith) ] where
      less : (u d v : ℕ) → u + d ≡ v → 2 * (u * v) ≤ u * u + v * v
      less u d v sums = subst (λ n. 2 * (u * n) ≤ u * u + n * n) sums (omega arith)

      more : (v d u : ℕ) → v + d ≡ u → 2 * (u * v) ≤ u * u + v * v
      more v d u sums = subst (λ n. 2 * (n * v) ≤ n * n + v * v) sums (omega arith)

-- The form p b y² + q b z² - x y z is positive: 4 p b times it is at least z².
pub form_over : (p q b x y z : ℕ) → x * x < 4 * p * q * b * b
    → 4 * p * b * (x * y * z) + z * z ≤ 4 * p * b * (b * p * y * y + b * q * z * z)
form_over p q b x y z short =
    let cross : 2 * ((2 * p * b * y) * (x * z)) ≤ (2 * p * b * y) * (2 * p * b * y) + (x * z) * (x * z) =
    two_products (2 * p * b * y) (x * z) in
    let square : (x * x + 1) * (z * z) ≤ (4 * p * q * b * b) * (z * z) =
    mul-le (x * x + 1) (z * z) (4 * p * q * b * b) (z * z) (omega (arith, short)) (omega arith) in
    omega (arith, cross, square)

module _ (p q a b x y z w s : ℕ) (some_q : 1 ≤ q) (ratio : q ≤ p) (some_b : 1 ≤ b) (next : s + 1 ≡ y + z) where
  -- what the step gives, up to what rounding costs
  gains : (d : ℕ) → b * p * y * y + b * q * z * z ≡ x * y * z + d → q * a ≤ (p + q) * b + x
      → b * p * y + b * q * z ≤ a * q * w + b * q
      → a * q * (y * z) + d ≤ a * q * (s * w) + (b * (p + q) * y + 2 * (b * q) * z)
  gains d form over least =
      let times : (b * p * y + b * q * z) * s ≤ (a * q * w + b * q) * s =
      mul-le (b * p * y + b * q * z) s (a * q * w + b * q) s least (omega arith) in
      let whole : (b * p * y + b * q * z) * (s + 1) ≤ (b * p * y + b * q * z) * (y + z) =
      mul-le (b * p * y + b * q * z) (s + 1) (b * p * y + b * q * z) (y + z) (omega arith) (omega (arith, next)) in
      let back : (b * p * y + b * q * z) * (y + z) ≤ (b * p * y + b * q * z) * (s + 1) =
      mul-le (b * p * y + b * q * z) (y + z) (b * p * y + b * q * z) (s + 1) (omega arith) (omega (arith, next)) in
      let factor : (q * a) * (y * z) ≤ ((p + q) * b + x) * (y * z) =
      mul-le (q * a) (y * z) ((p + q) * b + x) (y * z) over (omega arith) in
      let shift : (b * q) * s ≤ (b * q) * (y + z) = mul-le (b * q) s (b * q) (y + z) (omega arith) (omega
      (arith, next)) in
      omega (arith, times, back, factor, shift, form)

  -- all in terms of a number that is above both
  high : (d h : ℕ) → a * q * (y * z) + d ≤ a * q * (s * w) + (b * (p + q) * y + 2 * (b * q) * z)
      → a * q * w ≤ b * p * y + b * q * z → y ≤ h → z ≤ h → h * h ≤ 4 * (p * b) * d → 32 * (b * b) * (p * p) ≤ h
      → 1 ≤ a → 16 * (p * p) * (b * b) * (y * z) + w * z ≤ 16 * (p * p) * (b * b) * (s * w)
  high d h gain most less_y less_z square large some_a =
      let loss_y : (b * (p + q)) * y ≤ (b * (2 * p)) * h =
      mul-le (b * (p + q)) y (b * (2 * p)) h (mul-le b (p + q) b (2 * p) (omega arith) (omega (arith, ratio))) less_y in
      let loss_z : (b * q) * z ≤ (b * p) * h =
      mul-le (b * q) z (b * p) h (mul-le b q b p (omega arith) ratio) less_z in
      let loss : b * (p + q) * y + 2 * (b * q) * z ≤ 4 * (b * p) * h = omega (arith, loss_y, loss_z) in
      let large_h : (32 * (b * b) * (p * p)) * h ≤ h * h = mul-le (32 * (b * b) * (p * p)) h h h large (omega arith) in
      let stay_y : (b * p) * y ≤ (b * p) * h = mul-le (b * p) y (b * p) h (omega arith) less_y in
      let stay : (a * q * w) * z ≤ (2 * (b * p) * h) * h =
      mul-le (a * q * w) z (2 * (b * p) * h) h (omega (arith, most, stay_y, loss_z)) less_z in
      let all : (16 * (p * p) * (b * b)) * (a * q * (y * z) + d)
      ≤ (16 * (p * p) * (b * b)) * (a * q * (s * w) + 4 * (b * p) * h) =
      mul-le (16 * (p * p) * (b * b)) (a * q * (y * z) + d) (16 * (p * p) * (b * b)) (a * q * (s * w) + 4 * (b * p) * h)
      (omega arith) (omega (arith, gain, loss)) in
      let most_d : (4 * (p * b)) * (h * h) ≤ (4 * (p * b)) * (4 * (p * b) * d) =
      mul-le (4 * (p * b)) (h * h) (4 * (p * b)) (4 * (p * b) * d) (omega arith) square in
      let least_h : (2 * (p * b)) * ((32 * (b * b) * (p * p)) * h) ≤ (2 * (p * b)) * (h * h) =
      mul-le (2 * (p * b)) ((32 * (b * b) * (p * p)) * h) (2 * (p * b)) (h * h) (omega arith) large_h in
      cancel _ _ _ (mul-le 1 1 a q some_a some_q) (omega (arith, all, most_d, least_h, stay))

  -- the ticks of small jobs, against the work, rise by a fixed part at each step
  pub rises : 32 * (b * b) * (p * p) ≤ y → q * a ≤ (p + q) * b + x → x * x < 4 * p * q * b * b
      → b * p * y + b * q * z ≤ a * q * w + b * q → a * q * w ≤ b * p * y + b * q * z → 1 ≤ a
      → 16 * (p * p) * (b * b) * (y * z) + w * z ≤ 16 * (p * p) * (b * b) * (s * w)
  rises large over short least most some_a = elim (cases_lt y z) [
    | inl less ↦ high (b * p * y * y + b * q * z * z - x * y * z) z
        (gains (b * p * y * y + b * q * z * z - x * y * z) form over least) most (omega (arith, less)) (omega arith)
        (over_z (b * p * y * y + b * q * z * z - x * y * z) form) (omega (arith, less, large)) some_a
    | inr more ↦ high _ _ (gains (b * p * y * y + b * q * z * z - x * y * z) form over least) most
        (omega arith) more (over_y (b * p * y * y + b * q * z * z - x * y * z) form) large some_a
  ] where
    form : b * p * y * y + b * q * z * z ≡ x * y * z + (b * p * y * y + b * q * z * z - x * y * z)
    form = level (cancel (4 * p * b) (x * y * z) (b * p * y * y + b * q * z * z)
        (mul-le 1 1 (4 * p) b (omega (arith, some_q, ratio)) some_b)
        (let over : 4 * p * b * (x * y * z) + z * z ≤ 4 * p * b * (b * p * y * y + b * q * z * z) =
        form_over p q b x y z short in omega (arith, over))) where
          level : x * y * z ≤ b * p * y * y + b * q * z * z
              → b * p * y * y + b * q * z * z ≡ x * y * z + (b * p * y * y + b * q * z * z - x * y * z)
          level less = omega (arith, less)

    over_z : (d : ℕ) → b * p * y * y + b * q * z * z ≡ x * y * z + d → z * z ≤ 4 * (p * b) * d
    over_z d form =
        let over : 4 * p * b * (x * y * z) + z * z ≤ 4 * p * b * (b * p * y * y + b * q * z * z) =
        form_over p q b x y z short in
        let put : 4 * p * b * (b * p * y * y + b * q * z * z) ≡ 4 * p * b * (x * y * z + d) =
        subst (λ n. 4 * p * b * (b * p * y * y + b * q * z * z) ≡ 4 * p * b * n) form refl in
        omega (arith, over, put)

    over_y : (d : ℕ) → b * p * y * y + b * q * z * z ≡ x * y * z + d → y * y ≤ 4 * (p * b) * d
    over_y d form =
        let over : 4 * q * b * (x * z * y) + y * y ≤ 4 * q * b * (b * q * z * z + b * p * y * y) =
        form_over q p b x z y (omega (arith, short)) in
        let put : 4 * q * b * (b * p * y * y + b * q * z * z) ≡ 4 * q * b * (x * y * z + d) =
        subst (λ n. 4 * q * b * (b * p * y * y + b * q * z * z) ≡ 4 * q * b * n) form refl in
        let up : (4 * q) * (b * d) ≤ (4 * p) * (b * d) =
        mul-le (4 * q) (b * d) (4 * p) (b * d) (omega (arith, ratio)) (omega arith) in
        omega (arith, over, put, up)

-- a factor that is short is at most four times the ratio
pub modest : (p q a b x : ℕ) → 1 ≤ q → q ≤ p → 1 ≤ b → q * a ≤ (p + q) * b + x → x * x < 4 * p * q * b * b
    → q * a < 4 * p * b
modest p q a b x some_q ratio some_b over short =
    let up : (4 * p * b * b) * q ≤ (4 * p * b * b) * p =
    mul-le (4 * p * b * b) q (4 * p * b * b) p (omega arith) ratio in
    let sums : (p + q) * b ≤ (2 * p) * b = mul-le (p + q) b (2 * p) b (omega (arith, ratio)) (omega arith) in
    elim (cases_lt x (2 * p * b)) [
      | inl low ↦ omega (arith, low, over, sums)
      | inr high ↦ absurd
          (let square : (2 * p * b) * (2 * p * b) ≤ x * x = mul-le (2 * p * b) (2 * p * b) x x high high in
          omega (arith, square, short, up))
    ]
