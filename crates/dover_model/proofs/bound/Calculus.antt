-- Whole numbers that stand below a root times a number, and sums of them.
use Rattle.std.proofs.Common.{◌≡◌, ℕ, ◌+◌, ◌-◌, ◌*◌, ◌≤◌, ◌<◌, ◌⊎◌, ◌↔◌, inl, inr, List, [], ◌∷◌, refl, sym, ap, subst}
use Rattle.std.proofs.Common.{arith, IsTrue, max, Option, Some, None, ◌&&◌, nat_lt, sum_by}
use Rattle.std.proofs.lemmas.Bool.{cases_lt}
use Rattle.std.proofs.lemmas.Nat.{mul-le}
use Rattle.std.proofs.Math.Nat.{le-max_left, le-max_right, mul-sub, mul-le-mul_left, mul-le-mul_right}
use Rattle.std.proofs.lemmas.List.Sums.{sum_by-cons}
use Rattle.dover_model.specs.Common.{Fraction, Factor, IsHeavy, IsWithin, is_within_by, is_within_root, scale, share}
use Rattle.dover_model.specs.Common.{IsPaidBy, IsPaid, IsExcessBy, IsExcess, Each}
use Rattle.dover_model.specs.Orders.{is_over}
use Rattle.dover_model.proofs.lists.Tests.{both, below, at_most}

-- x is at most the root of m times a
abbrev pub Below : ℕ → ℕ → ℕ → Type 0
Below m x a = x * x ≤ m * a * a

-- squares are in the order of their roots
pub square_order : (x y : ℕ) → x * x ≤ y * y → x ≤ y
square_order x y squares = by_order (cases_lt y x) where
  by_order : (y < x) ⊎ (x ≤ y) → x ≤ y
  by_order (inl less) = absurd
      (let more : (y + 1) * (y + 1) ≤ x * x = mul-le (y + 1) (y + 1) x x (omega arith) (omega arith) in omega arith)
  by_order (inr low) = low

-- a factor of at least one can be left out
pub cancel : (c x y : ℕ) → 1 ≤ c → c * x ≤ c * y → x ≤ y
cancel c x y some products = by_order (cases_lt y x) where
  by_order : (y < x) ⊎ (x ≤ y) → x ≤ y
  by_order (inl less) = absurd
      (let more : c * (y + 1) ≤ c * x = mul-le-mul_left c (omega arith) in omega arith)
  by_order (inr low) = low

-- the product of two that are below
pub below_product : (m x y a b : ℕ) → Below m x a → Below m y b → x * y ≤ m * a * b
below_product m x y a b one other =
    square_order (x * y) (m * a * b)
    (let both : (x * x) * (y * y) ≤ (m * a * a) * (m * b * b) =
    mul-le (x * x) (y * y) (m * a * a) (m * b * b) one other in omega arith)

-- the sum of two that are below
pub below_add : (m x y a b : ℕ) → Below m x a → Below m y b → Below m (x + y) (a + b)
below_add m x y a b one other = let cross : x * y ≤ m * a * b = below_product m x y a b one other in omega arith

-- a sum of some that are below
pub below_sum : {X : Type 0} (m : ℕ) (f g : X → ℕ) (xs : List X) → Each (λ x. Below m (f x) (g x)) xs
    → Below m (sum_by f xs) (sum_by g xs)
below_sum m f g [] all = omega arith
below_sum m f g (x ∷ xs) all =
    let both : Below m (f x + sum_by f xs) (g x + sum_by g xs) =
    below_add m (f x) (sum_by f xs) (g x) (sum_by g xs) (all x (inl refl))
    (below_sum m f g xs (λ y member. all y (inr member))) in
    subst (λ n. Below m n (sum_by g (x ∷ xs))) (sym (sum_by-cons f x xs))
    (subst (λ n. Below m (f x + sum_by f xs) n) (sym (sum_by-cons g x xs)) both)

-- less stays below more
pub below_mono : (m x y a b : ℕ) → y ≤ x → a ≤ b → Below m x a → Below m y b
below_mono m x y a b less more below =
    let low : y * y ≤ x * x = mul-le y y x x less less in
    let square : a * a ≤ b * b = mul-le a a b b more more in
    let high : m * (a * a) ≤ m * (b * b) = mul-le-mul_left m square in
    omega arith

-- ---- the tests, by the root or by a factor

-- a value is heavy by this factor, or by the root where there is none
abbrev pub HeavyBy : Fraction → Option Factor → ℕ → ℕ → Type 0
HeavyBy k o v w = IsTrue (nat_lt w v && is_over k o v w)

-- both parts of the test
heavy_parts : (k : Fraction) (o : Option Factor) (v w : ℕ) → HeavyBy k o v w ↔ ((w < v) × IsTrue (is_over k o v w))
heavy_parts k o v w = both (nat_lt w v) (is_over k o v w) (below w v) (λ over. over, λ over. over)

-- what is heavy is more
more_by : (k : Fraction) (o : Option Factor) (v w : ℕ) → HeavyBy k o v w → w < v
more_by k o v w heavy = ((heavy_parts k o v w).0 heavy).0

-- a value is heavy by the root where its excess is: where it isn't above, the difference is 0, and so is the greater
-- side
pub root_from : (k : Fraction) (v w : ℕ) → k.p * w * w < k.q * (v - w) * (v - w) → HeavyBy k None v w
root_from k v w heavy = (heavy_parts k None v w).1
    (by_order (cases_lt w v), (below (k.p * w * w) (k.q * (v - w) * (v - w))).1 heavy) where
      by_order : (w < v) ⊎ (v ≤ w) → w < v
      by_order (inl less) = less
      by_order (inr low) = absurd (let none : v - w ≡ 0 = omega arith in
          let zeros : k.p * w * w < k.q * 0 * 0 = subst (λ n. k.p * w * w < k.q * n * n) none heavy in omega arith)

-- and nowhere else
pub root_excess : (k : Fraction) (v w : ℕ) → HeavyBy k None v w → k.p * w * w < k.q * (v - w) * (v - w)
root_excess k v w heavy = (below (k.p * w * w) (k.q * (v - w) * (v - w))).0 ((heavy_parts k None v w).0 heavy).1

-- a value is heavy by a factor where it is more than so many times the other
pub factor_from : (k : Fraction) (f : Factor) (v w : ℕ) → w < v → f.b * w < f.c * v → HeavyBy k (Some f) v w
factor_from k f v w more over = (heavy_parts k (Some f) v w).1 (more, (below (f.b * w) (f.c * v)).1 over)

-- and nowhere else
pub factor_over : (k : Fraction) (f : Factor) (v w : ℕ) → HeavyBy k (Some f) v w → f.b * w < f.c * v
factor_over k f v w heavy = (below (f.b * w) (f.c * v)).0 ((heavy_parts k (Some f) v w).0 heavy).1

-- a value is within the bound by the root where the square is
pub root_agrees : (k : Fraction) (c a : ℕ) → IsTrue (is_within_root k c a)
    ↔ ((k.q * c - (k.p + k.q) * a) * (k.q * c - (k.p + k.q) * a) ≤ 4 * k.p * k.q * a * a)
root_agrees k c a = at_most _ _

-- and by a factor where so many times it is
pub factor_agrees : (k : Fraction) (f : Factor) (c a : ℕ) → IsTrue (is_within_by k (Some f) c a)
    ↔ (scale k f * c ≤ share k f * a)
factor_agrees k f c a = at_most _ _

-- ---- what stands below a root

module _ (k : Fraction) (some_q : 1 ≤ k.q) (ratio : k.q ≤ k.p) where
  -- what is displaced stands below what is taken
  pub displaced_below : (d z : ℕ) → k.p * d * d ≤ k.q * z * z → Below (k.p * k.q) (k.p * d) z
  displaced_below d z row = let times : k.p * (k.p * d * d) ≤ k.p * (k.q * z * z) =
      mul-le-mul_left k.p row in
      omega arith

  -- and what stands below it is displaced
  pub below_displaced : (d z : ℕ) → Below (k.p * k.q) (k.p * d) z → k.p * d * d ≤ k.q * z * z
  below_displaced d z below = cancel k.p (k.p * d * d) (k.q * z * z) (omega arith) (omega arith)

  -- so does what is worth more than an interval
  pub excess_below : (y a : ℕ) → k.q * y * y ≤ k.p * a * a → Below (k.p * k.q) (k.q * y) a
  excess_below y a row = let times : k.q * (k.q * y * y) ≤ k.q * (k.p * a * a) =
      mul-le-mul_left k.q row in
      omega arith

  -- and what stands below it is worth no more
  pub below_excess : (y a : ℕ) → Below (k.p * k.q) (k.q * y) a → k.q * y * y ≤ k.p * a * a
  below_excess y a below = cancel k.q (k.q * y * y) (k.p * a * a) some_q (omega arith)

  -- so does what is done as usual
  pub regular_below : (r : ℕ) → Below (k.p * k.q) (k.q * r) r
  regular_below r = let times : k.q * (k.q * (r * r)) ≤ k.p * (k.q * (r * r)) =
      mul-le-mul_right (k.q * (r * r)) ratio in
      omega arith

  -- two rows add up
  pub rows_add : (x y u v : ℕ) → k.p * x * x ≤ k.q * u * u → k.p * y * y ≤ k.q * v * v
      → k.p * (x + y) * (x + y) ≤ k.q * (u + v) * (u + v)
  rows_add x y u v one other = below_displaced (x + y) (u + v)
      (let both : Below (k.p * k.q) (k.p * x + k.p * y) (u + v) =
      below_add (k.p * k.q) (k.p * x) (k.p * y) u v (displaced_below x u one) (displaced_below y v other) in
      omega arith)

  -- two that are worth more than an interval add up
  pub excesses_add : (x y u v : ℕ) → k.q * x * x ≤ k.p * u * u → k.q * y * y ≤ k.p * v * v
      → k.q * (x + y) * (x + y) ≤ k.p * (u + v) * (u + v)
  excesses_add x y u v one other = below_excess (x + y) (u + v)
      (let both : Below (k.p * k.q) (k.q * x + k.q * y) (u + v) =
      below_add (k.p * k.q) (k.q * x) (k.q * y) u v (excess_below x u one) (excess_below y v other) in
      omega arith)

  -- a take displaces no more than it is worth
  pub root_take : (d w v : ℕ) → k.p * d * d ≤ k.q * w * w → HeavyBy k None v w
      → k.p * (d + w) * (d + w) ≤ k.q * v * v
  root_take d w v row heavy =
      let whole : w + (v - w) ≡ v = omega (arith, more_by k None v w heavy) in
      let one : k.p * w * w ≤ k.q * (v - w) * (v - w) = omega (arith, root_excess k v w heavy) in
      subst (λ n. k.p * (d + w) * (d + w) ≤ k.q * n * n) whole (rows_add d w w (v - w) row one)

  -- what is so far above stands within
  pub within_from : (c a m : ℕ) → k.q * c ≤ (k.p + k.q) * a + m → Below (k.p * k.q) m (2 * a)
      → IsTrue (is_within_root k c a)
  within_from c a m most below =
      let less : k.q * c - (k.p + k.q) * a ≤ m = differ (k.q * c) ((k.p + k.q) * a) m most in
      let square : (k.q * c - (k.p + k.q) * a) * (k.q * c - (k.p + k.q) * a) ≤ m * m =
      mul-le (k.q * c - (k.p + k.q) * a) (k.q * c - (k.p + k.q) * a) m m less less in
      (root_agrees k c a).1 (up (k.q * c - (k.p + k.q) * a) square) where
        up : (x : ℕ) → x * x ≤ m * m → x * x ≤ 4 * k.p * k.q * a * a
        up x square = omega arith

        differ : (u v m : ℕ) → u ≤ v + m → u - v ≤ m
        differ u v m most = omega arith

-- less of what is within by the root is within
pub root_less : (k : Fraction) (c c2 a : ℕ) → c ≤ c2 → IsTrue (is_within_root k c2 a) → IsTrue (is_within_root k c a)
root_less k c c2 a less within =
    let times : k.q * c ≤ k.q * c2 = mul-le-mul_left k.q less in
    let low : k.q * c - (k.p + k.q) * a ≤ k.q * c2 - (k.p + k.q) * a = omega arith in
    let square : (k.q * c - (k.p + k.q) * a) * (k.q * c - (k.p + k.q) * a) ≤ (k.q * c2 - (k.p + k.q) * a)
    * (k.q * c2 - (k.p + k.q) * a) =
    mul-le _ _ _ _ low low in
    (root_agrees k c a).1 (omega (arith, (root_agrees k c2 a).0 within, square))

-- what is within two values by the root is together within their sum
root_add : (k : Fraction) (c c2 a a2 : ℕ) → IsTrue (is_within_root k c a) → IsTrue (is_within_root k c2 a2)
    → IsTrue (is_within_root k (c + c2) (a + a2))
root_add k c c2 a a2 one other =
    by_excess (k.q * c - (k.p + k.q) * a) (k.q * c2 - (k.p + k.q) * a2) ((root_agrees k c a).0 one)
    ((root_agrees k c2 a2).0 other) (omega arith) where
      by_excess : (x x2 : ℕ) → x * x ≤ 4 * k.p * k.q * a * a → x2 * x2 ≤ 4 * k.p * k.q * a2 * a2
          → k.q * (c + c2) - (k.p + k.q) * (a + a2) ≤ x + x2 → IsTrue (is_within_root k (c + c2) (a + a2))
      by_excess x x2 one other most =
          let both : (x + x2) * (x + x2) ≤ 4 * k.p * k.q * (a + a2) * (a + a2) =
          below_add (4 * k.p * k.q) x x2 a a2 one other in
          let square : (k.q * (c + c2) - (k.p + k.q) * (a + a2)) * (k.q * (c + c2) - (k.p + k.q) * (a + a2)) ≤ (x + x2)
          * (x + x2) =
          mul-le _ _ _ _ most most in (root_agrees k (c + c2) (a + a2)).1 (omega (arith, both, square))

-- what is heavy by the root against more is heavy against less
root_mono : (k : Fraction) (v w w' : ℕ) → w ≤ w' → HeavyBy k None v w' → HeavyBy k None v w
root_mono k v w w' less heavy =
    let low : w * w ≤ w' * w' = mul-le w w w' w' less less in
    let times : k.p * (w * w) ≤ k.p * (w' * w') = mul-le-mul_left k.p low in
    let square : (v - w') * (v - w') ≤ (v - w) * (v - w) =
    mul-le (v - w') (v - w') (v - w) (v - w) (omega arith) (omega arith) in
    let more : k.q * ((v - w') * (v - w')) ≤ k.q * ((v - w) * (v - w)) =
    mul-le-mul_left k.q square in
    root_from k v w (join (v - w') (v - w) (root_excess k v w' heavy) times more) where
      join : (x y : ℕ) → k.p * w' * w' < k.q * x * x → k.p * (w * w) ≤ k.p * (w' * w') → k.q * (x * x) ≤ k.q * (y * y)
          → k.p * w * w < k.q * y * y
      join x y heavy times more = omega arith

-- what is not heavy by the root exceeds by little
root_light : (k : Fraction) (v w : ℕ) → (HeavyBy k None v w → ⊥) → k.q * (v - w) * (v - w) ≤ k.p * w * w
root_light k v w light = by_order (cases_lt (k.p * w * w) (k.q * (v - w) * (v - w))) where
  by_order : (k.p * w * w < k.q * (v - w) * (v - w)) ⊎ (k.q * (v - w) * (v - w) ≤ k.p * w * w)
      → k.q * (v - w) * (v - w) ≤ k.p * w * w
  by_order (inl less) = absurd (light (root_from k v w less))
  by_order (inr low) = low

-- ---- the same by a factor, in whole numbers: all is linear

-- so often one and another is so often their sum
linear_add : (e c x y u v : ℕ) → e * x ≤ c * u → e * y ≤ c * v → e * (x + y) ≤ c * (u + v)
linear_add e c x y u v one other = omega (arith, one, other)

-- a take displaces no more than it is worth
factor_take : (k : Fraction) (f : Factor) (d w v : ℕ) → (f.b - f.c) * d ≤ f.c * w → HeavyBy k (Some f) v w
    → (f.b - f.c) * (d + w) ≤ f.c * v
factor_take k f d w v row heavy = omega (
  arith,
  row,
  factor_over k f v w heavy,
  mul-sub w f.b f.c,
  mul-le f.c w f.c v (omega arith) (omega (arith, more_by k (Some f) v w heavy)),
)

-- what is heavy against more is heavy against less
factor_mono : (k : Fraction) (f : Factor) (v w w' : ℕ) → w ≤ w' → HeavyBy k (Some f) v w' → HeavyBy k (Some f) v w
factor_mono k f v w w' less heavy =
    let more : w' < v = more_by k (Some f) v w' heavy in
    let over : f.b * w' < f.c * v = factor_over k f v w' heavy in
    let times : f.b * w ≤ f.b * w' = mul-le-mul_left f.b less in
    factor_from k f v w (omega (arith, more, less)) (omega (arith, over, times))

-- what is not heavy exceeds by little
factor_light : (k : Fraction) (f : Factor) (v w : ℕ) → (HeavyBy k (Some f) v w → ⊥)
    → f.c * (v - w) ≤ (f.b - f.c) * w
factor_light k f v w light = by_order (cases_lt w v) where
  by_over : (w < v) → (f.b * w < f.c * v) ⊎ (f.c * v ≤ f.b * w) → f.c * v ≤ f.b * w
  by_over more (inl over) = absurd (light (factor_from k f v w more over))
  by_over more (inr low) = low

  by_order : (w < v) ⊎ (v ≤ w) → f.c * (v - w) ≤ (f.b - f.c) * w
  by_order (inl more) = omega (
    arith,
    mul-sub f.c v w,
    mul-sub w f.b f.c,
    by_over more (cases_lt (f.b * w) (f.c * v)),
  )
  by_order (inr low) = omega (arith, mul-sub f.c v w, mul-le-mul_left f.c low)

-- the sum of an interval's parts, where what is displaced counts t times, what is above u times and what is done as
-- usual h times, with c for the factor's denominator and e for what its numerator is more
linear_within : (t u h c e o r z d y : ℕ) → h * o ≤ (t + u) * (r + z) + (h * r + t * d + u * y) → e * d ≤ c * z
    → c * y ≤ e * (r + z)
    → h * c * e * o ≤ (u * (c + e) * e + t * c * e + c * max (h * e) (t * c)) * (r + z)
linear_within t u h c e o r z d y most paid little = by_most (max (h * e) (t * c)) (le-max_left (h * e) (t * c))
    (le-max_right (h * e) (t * c)) where
      by_most : (m : ℕ) → h * e ≤ m → t * c ≤ m
          → h * c * e * o ≤ (u * (c + e) * e + t * c * e + c * m) * (r + z)
      by_most m one other =
          let all : (c * e) * (h * o) ≤ (c * e) * ((t + u) * (r + z) + (h * r + t * d + u * y)) =
          mul-le-mul_left (c * e) most in
          let displaced : (t * c) * (e * d) ≤ (t * c) * (c * z) =
          mul-le-mul_left (t * c) paid in
          let single : (u * e) * (c * y) ≤ (u * e) * (e * (r + z)) =
          mul-le-mul_left (u * e) little in
          let regular : (c * r) * (h * e) ≤ (c * r) * m = mul-le-mul_left (c * r) one in
          let taken : (c * z) * (t * c) ≤ (c * z) * m = mul-le-mul_left (c * z) other in
          omega (arith, all, displaced, single, regular, taken)

-- so it is by the factor itself
pub factor_within : (t u h : ℕ) (f : Factor) (o r z d y : ℕ)
    → h * o ≤ (t + u) * (r + z) + (h * r + t * d + u * y)
    → (f.b - f.c) * d ≤ f.c * z → f.c * y ≤ (f.b - f.c) * (r + z)
    → h * f.c * (f.b - f.c) * o ≤ (u * f.b * (f.b - f.c) + t * f.c * (f.b - f.c)
    + f.c * max (h * (f.b - f.c)) (t * f.c)) * (r + z)
factor_within t u h f o r z d y most paid little = by_order (cases_lt f.b f.c) (f.b - f.c) refl paid little where
  by_order : (f.b < f.c) ⊎ (f.c ≤ f.b) → (e : ℕ) → f.b - f.c ≡ e → e * d ≤ f.c * z → f.c * y ≤ e * (r + z)
      → h * f.c * e * o ≤ (u * f.b * e + t * f.c * e + f.c * max (h * e) (t * f.c)) * (r + z)
  by_order (inl less) e is paid little = let none : e ≡ 0 = omega (arith, less, is) in
      let nothing : h * f.c * e * o ≡ h * f.c * 0 * o = ap (λ n. h * f.c * n * o) none in
      omega (arith, nothing)
  by_order (inr low) e is paid little = let whole : f.c + e ≡ f.b = omega (arith, low, is) in
      subst (λ b. h * f.c * e * o ≤ (u * b * e + t * f.c * e + f.c * max (h * e) (t * f.c)) * (r + z)) whole
      (linear_within t u h f.c e o r z d y most paid little)

-- ---- either way

-- nothing is paid by anything
paid_zero_by : (k : Fraction) (o : Option Factor) (z : ℕ) → IsPaidBy k o 0 z
paid_zero_by k None z = omega arith
paid_zero_by k (Some f) z = omega arith

-- by what the ratio says
pub paid_zero : (k : Fraction) (z : ℕ) → IsPaid k 0 z
paid_zero k = paid_zero_by k k.factor

-- nothing is never too much above
excess_zero_by : (k : Fraction) (o : Option Factor) (a : ℕ) → IsExcessBy k o 0 a
excess_zero_by k None a = omega arith
excess_zero_by k (Some f) a = omega arith

-- by what the ratio says
pub excess_zero : (k : Fraction) (a : ℕ) → IsExcess k 0 a
excess_zero k = excess_zero_by k k.factor

module _ (k : Fraction) (some_q : 1 ≤ k.q) (ratio : k.q ≤ k.p) where
  paid_add_by : (o : Option Factor) (x y u v : ℕ) → IsPaidBy k o x u → IsPaidBy k o y v
      → IsPaidBy k o (x + y) (u + v)
  paid_add_by None x y u v one other = rows_add k some_q ratio x y u v one other
  paid_add_by (Some f) x y u v one other = linear_add (f.b - f.c) f.c x y u v one other

  -- what is paid adds up
  pub paid_add : (x y u v : ℕ) → IsPaid k x u → IsPaid k y v → IsPaid k (x + y) (u + v)
  paid_add = paid_add_by k.factor

  -- so do the rows of a list
  pub paid_sum : {X : Type 0} (f g : X → ℕ) (xs : List X) → Each (λ x. IsPaid k (f x) (g x)) xs
      → IsPaid k (sum_by f xs) (sum_by g xs)
  paid_sum f g [] all = paid_zero k 0
  paid_sum f g (x ∷ xs) all =
      let both : IsPaid k (f x + sum_by f xs) (g x + sum_by g xs) =
      paid_add (f x) (sum_by f xs) (g x) (sum_by g xs) (all x (inl refl))
      (paid_sum f g xs (λ y member. all y (inr member))) in
      subst (λ n. IsPaid k n (sum_by g (x ∷ xs))) (sym (sum_by-cons f x xs))
      (subst (λ n. IsPaid k (f x + sum_by f xs) n) (sym (sum_by-cons g x xs)) both)

  excess_add_by : (o : Option Factor) (x y u v : ℕ) → IsExcessBy k o x u → IsExcessBy k o y v
      → IsExcessBy k o (x + y) (u + v)
  excess_add_by None x y u v one other = excesses_add k some_q ratio x y u v one other
  excess_add_by (Some f) x y u v one other = linear_add f.c (f.b - f.c) x y u v one other

  -- what is above adds up
  pub excess_add : (x y u v : ℕ) → IsExcess k x u → IsExcess k y v → IsExcess k (x + y) (u + v)
  excess_add = excess_add_by k.factor

  take_by : (o : Option Factor) (d w v : ℕ) → IsPaidBy k o d w → HeavyBy k o v w → IsPaidBy k o (d + w) v
  take_by None d w v row heavy = root_take k some_q ratio d w v row heavy
  take_by (Some f) d w v row heavy = factor_take k f d w v row heavy

  -- a take displaces no more than it is worth
  pub take_step : (d w v : ℕ) → IsPaid k d w → IsHeavy k v w → IsPaid k (d + w) v
  take_step = take_by k.factor

  parts_by : (o : Option Factor) (c r z d y : ℕ)
      → k.q * c ≤ (k.p + k.q) * (r + z) + (k.q * r + k.p * d + k.q * y) → IsPaidBy k o d z → IsExcessBy k o y (r + z)
      → IsTrue (is_within_by k o c (r + z))
  parts_by None c r z d y most paid little =
      within_from k some_q ratio c (r + z) (k.q * r + k.p * d + k.q * y) most
      (let row : Below (k.p * k.q) (k.q * r + k.p * d) (r + z) =
      below_add (k.p * k.q) (k.q * r) (k.p * d) r z (regular_below k some_q ratio r)
      (displaced_below k some_q ratio d z paid) in
      let all : Below (k.p * k.q) (k.q * r + k.p * d + k.q * y) ((r + z) + (r + z)) =
      below_add (k.p * k.q) (k.q * r + k.p * d) (k.q * y) (r + z) (r + z) row
      (excess_below k some_q ratio y (r + z) little) in
      below_mono (k.p * k.q) (k.q * r + k.p * d + k.q * y) (k.q * r + k.p * d + k.q * y) ((r + z) + (r + z))
      (2 * (r + z)) (omega arith) (omega arith) all)
  parts_by (Some f) c r z d y most paid little =
      (factor_agrees k f c (r + z)).1 (factor_within k.p k.q k.q f c r z d y most paid little)

  -- what is so far above what is done as usual and taken, with what was displaced and what is above, stands within
  pub within_parts : (c r z d y : ℕ) → k.q * c ≤ (k.p + k.q) * (r + z) + (k.q * r + k.p * d + k.q * y) → IsPaid k d z
      → IsExcess k y (r + z) → IsWithin k c (r + z)
  within_parts = parts_by k.factor

-- what is heavy is more
pub heavy_more : (k : Fraction) (v w : ℕ) → IsHeavy k v w → w < v
heavy_more k = more_by k k.factor

mono_by : (k : Fraction) (o : Option Factor) (v w w' : ℕ) → w ≤ w' → HeavyBy k o v w' → HeavyBy k o v w
mono_by k None = root_mono k
mono_by k (Some f) = factor_mono k f

-- what is heavy against more is heavy against less
pub heavy_mono : (k : Fraction) (v w w' : ℕ) → w ≤ w' → IsHeavy k v w' → IsHeavy k v w
heavy_mono k = mono_by k k.factor

up_by : (k : Fraction) (o : Option Factor) (v more w : ℕ) → v ≤ more → HeavyBy k o v w → HeavyBy k o more w
up_by k None v more w less heavy =
    let excess : v - w ≤ more - w = omega (arith, less) in
    let square : (v - w) * (v - w) ≤ (more - w) * (more - w) = mul-le _ _ _ _ excess excess in
    let times : k.q * ((v - w) * (v - w)) ≤ k.q * ((more - w) * (more - w)) = mul-le _ _ _ _ (omega arith) square in
    root_from k more w (join (v - w) (more - w) (root_excess k v w heavy) times) where
      join : (x y : ℕ) → k.p * w * w < k.q * x * x → k.q * (x * x) ≤ k.q * (y * y) → k.p * w * w < k.q * y * y
      join x y heavy times = omega arith
up_by k (Some f) v more w less heavy =
    let above : w < v = more_by k (Some f) v w heavy in
    let over : f.b * w < f.c * v = factor_over k f v w heavy in
    let times : f.c * v ≤ f.c * more = mul-le-mul_left f.c less in
    factor_from k f more w (omega (arith, above, less)) (omega (arith, over, times))

-- what is more than something heavy is heavy
pub heavy_up : (k : Fraction) (v more w : ℕ) → v ≤ more → IsHeavy k v w → IsHeavy k more w
heavy_up k = up_by k k.factor

light_by : (k : Fraction) (o : Option Factor) (v w : ℕ) → (HeavyBy k o v w → ⊥) → IsExcessBy k o (v - w) w
light_by k None = root_light k
light_by k (Some f) = factor_light k f

-- what is not heavy exceeds by little
pub not_heavy : (k : Fraction) (v w : ℕ) → (IsHeavy k v w → ⊥) → IsExcess k (v - w) w
not_heavy k = light_by k k.factor

less_by : (k : Fraction) (o : Option Factor) (c c2 a : ℕ) → c ≤ c2 → IsTrue (is_within_by k o c2 a)
    → IsTrue (is_within_by k o c a)
less_by k None c c2 a less within = root_less k c c2 a less within
less_by k (Some f) c c2 a less within = (factor_agrees k f c a).1
    (let times : scale k f * c ≤ scale k f * c2 = mul-le-mul_left (scale k f) less in
    omega (arith, (factor_agrees k f c2 a).0 within, times))

-- less of what is within is within
pub within_less : (k : Fraction) (c c2 a : ℕ) → c ≤ c2 → IsWithin k c2 a → IsWithin k c a
within_less k = less_by k k.factor

-- nothing is within anything
pub none_within_by : (k : Fraction) (o : Option Factor) (a : ℕ) → IsTrue (is_within_by k o 0 a)
none_within_by k None a = (root_agrees k 0 a).1
    (let none : k.q * 0 - (k.p + k.q) * a ≡ 0 = omega arith in
    subst (λ x. x * x ≤ 4 * k.p * k.q * a * a) (sym none) (omega arith))
none_within_by k (Some f) a = (factor_agrees k f 0 a).1 (omega arith)

-- nothing is within the bound of nothing
pub none_within : (k : Fraction) → IsWithin k 0 0
none_within k = none_within_by k k.factor 0

add_by : (k : Fraction) (o : Option Factor) (c c2 a a2 : ℕ) → IsTrue (is_within_by k o c a)
    → IsTrue (is_within_by k o c2 a2) → IsTrue (is_within_by k o (c + c2) (a + a2))
add_by k None c c2 a a2 one other = root_add k c c2 a a2 one other
add_by k (Some f) c c2 a a2 one other = (factor_agrees k f (c + c2) (a + a2)).1
    (linear_add (scale k f) (share k f) c c2 a a2 ((factor_agrees k f c a).0 one) ((factor_agrees k f c2 a2).0 other))

-- what is within two values is together within their sum
pub within_add : (k : Fraction) (c c2 a a2 : ℕ) → IsWithin k c a → IsWithin k c2 a2 → IsWithin k (c + c2) (a + a2)
within_add k = add_by k k.factor

-- ---- where no factor is declared

module _ (k : Fraction) (plain : k.factor ≡ None) where
  -- a value is heavy where its excess is
  pub heavy_from : (v w : ℕ) → k.p * w * w < k.q * (v - w) * (v - w) → IsHeavy k v w
  heavy_from v w heavy = subst (λ o. HeavyBy k o v w) (sym plain) (root_from k v w heavy)

  -- and nowhere else
  pub heavy_excess : (v w : ℕ) → IsHeavy k v w → k.p * w * w < k.q * (v - w) * (v - w)
  heavy_excess v w heavy = root_excess k v w (subst (λ o. HeavyBy k o v w) plain heavy)

  -- what is paid is so by the root
  pub paid_root : (d z : ℕ) → IsPaid k d z → k.p * d * d ≤ k.q * z * z
  paid_root d z paid = subst (λ o. IsPaidBy k o d z) plain paid

  -- and what is paid by the root is so
  pub paid_root_from : (d z : ℕ) → k.p * d * d ≤ k.q * z * z → IsPaid k d z
  paid_root_from d z paid = subst (λ o. IsPaidBy k o d z) (sym plain) paid

  -- and what is within by the root is so
  pub within_root_from : (c a : ℕ) → IsTrue (is_within_root k c a) → IsWithin k c a
  within_root_from c a within = subst (λ o. IsTrue (is_within_by k o c a)) (sym plain) within

  -- what is within is so by the root
  pub within_root : (c a : ℕ) → IsWithin k c a → IsTrue (is_within_root k c a)
  within_root c a within = subst (λ o. IsTrue (is_within_by k o c a)) plain within

-- values that are densities times work, where each density is at least one and at most the ratio
pub dense_within : (p q d e w v : ℕ) → q * d ≤ p → 1 ≤ e → q * (d * w) * v ≤ p * (e * v) * w
dense_within p q d e w v low some =
    let more : p * 1 ≤ p * e = mul-le-mul_left p some in
    let dense : q * d ≤ p * e = omega (arith, more) in
    let all : (q * d) * (w * v) ≤ (p * e) * (w * v) = mul-le-mul_right (w * v) dense in
    omega (arith, all)
