-- The values of the chain: the greatest value that isn't heavy, and the least against which a unit job isn't.
use Rattle.std.proofs.Common.{◌≡◌, ℕ, suc, ◌+◌, ◌-◌, ◌*◌, ◌/◌, ◌^◌, ◌≤◌, ◌<◌, ◌⊎◌, inl, inr, refl, sym, ◌∙◌, subst}
use Rattle.std.proofs.Common.{Bool, true, false, IsTrue, arith, not, Option, Some, None}
use Rattle.std.proofs.lemmas.Bool.{cases_lt}
use Rattle.std.proofs.lemmas.Nat.{mul-le}
use Rattle.std.proofs.Math.Nat.{mul-div-le, le-div_iff_mul-le, div-le_self}
use Rattle.dover_model.specs.Common.{Fraction, IsRatio, is_some_factor, IsGreatest, greatest, IsHeavy, is_heavy}
use Rattle.dover_model.specs.Common.{most_light, IsExcessBy}
use Rattle.dover_model.specs.declared.factors.Factor.{Factor}
use Rattle.stated_jobs.specs.bait.Links.{IsLeastUnmoved, IsLeastHeavy, IsMostLight}
use Rattle.dover_model.proofs.lists.Tests.{never}
use Rattle.dover_model.proofs.bound.Calculus.{HeavyBy, heavy_mono, heavy_more, heavy_up, not_heavy, square_order}
use Rattle.dover_model.proofs.bound.Calculus.{heavy_excess, root_from, factor_from, factor_over}
use Rattle.dover_model.proofs.bound.GreatestLaws.{IsDownwardClosed, greatest-is}
use Rattle.root_compare.proofs.Roots.{one_greatest}
use Rattle.dover_model.proofs.valid.JobLimits.{ratio_limits, FactorLimits, factor_limits}

-- ---- tests that fail

-- a test that doesn't hold fails
fails : (b : Bool) → (IsTrue b → ⊥) → b ≡ false
fails true fails_it = absurd (fails_it refl)
fails false fails_it = refl

-- and its contrary holds
contrary : (b : Bool) → (IsTrue b → ⊥) → IsTrue (not b)
contrary true fails_it = absurd (fails_it refl)
contrary false fails_it = refl

-- what holds isn't contrary
no_contrary : (b : Bool) → IsTrue (not b) → IsTrue b → ⊥
no_contrary true light holds = never light
no_contrary false light holds = never holds

-- ---- what is heavy

-- whether a value isn't heavy against w
abbrev pub is_light : Fraction → ℕ → ℕ → Bool
is_light k w v = not (is_heavy k v w)

light_fact : (k : Fraction) (w v : ℕ) → IsTrue (is_light k w v) → IsHeavy k v w → ⊥
light_fact k w v light heavy = no_contrary (is_heavy k v w) light heavy

light_test : (k : Fraction) (w v : ℕ) → (IsHeavy k v w → ⊥) → IsTrue (is_light k w v)
light_test k w v light = contrary (is_heavy k v w) light

light_closed : (k : Fraction) (w : ℕ) → IsDownwardClosed (is_light k w)
light_closed k w m n less light = light_test k w m (λ heavy. light_fact k w n light (heavy_up k m n w less heavy))

-- far above w all is heavy, by a factor and by the root
far_by : (k : Fraction) (o : Option Factor) (w : ℕ) → IsRatio k → IsTrue (is_some_factor o) → w ≤ 1_000_000_000
    → HeavyBy k o (2 ^ 80) w
far_by k None w ratio some small =
    let one : k.p * (w * w) ≤ 1_000_000 * (1_000_000_000 * 1_000_000_000) =
    mul-le k.p (w * w) 1_000_000 (1_000_000_000 * 1_000_000_000) (ratio_limits ratio).small_p
    (mul-le w w 1_000_000_000 1_000_000_000 small small) in
    let far : 1_000_000_000_000_000 ≤ 2 ^ 80 - w = omega (arith, small) in
    let square : 1_000_000_000_000_000 * 1_000_000_000_000_000 ≤ (2 ^ 80 - w) * (2 ^ 80 - w) =
    mul-le 1_000_000_000_000_000 1_000_000_000_000_000 (2 ^ 80 - w) (2 ^ 80 - w) far far in
    let times : 1 * (1_000_000_000_000_000 * 1_000_000_000_000_000) ≤ k.q * ((2 ^ 80 - w) * (2 ^ 80 - w)) =
    mul-le 1 (1_000_000_000_000_000 * 1_000_000_000_000_000) k.q ((2 ^ 80 - w) * (2 ^ 80 - w))
    (ratio_limits ratio).least square in
    root_from k (2 ^ 80) w (join (2 ^ 80 - w) times one) where
      join : (x : ℕ) → 1 * (1_000_000_000_000_000 * 1_000_000_000_000_000) ≤ k.q * (x * x)
          → k.p * (w * w) ≤ 1_000_000 * (1_000_000_000 * 1_000_000_000)
          → k.p * w * w < k.q * x * x
      join x times one = omega arith
far_by k (Some f) w ratio some small =
    let limits : FactorLimits f = factor_limits f some in
    let low : f.b * w ≤ 1_000_000 * 1_000_000_000 =
    mul-le f.b w 1_000_000 1_000_000_000 limits.small_b small in
    let high : 1 * 2 ^ 80 ≤ f.c * 2 ^ 80 = mul-le 1 (2 ^ 80) f.c (2 ^ 80) limits.least (omega arith) in
    factor_from k f (2 ^ 80) w (omega (arith, small)) (omega (arith, low, high))

-- by what the ratio says
pub far_heavy : (k : Fraction) (w : ℕ) → IsRatio k → w ≤ 1_000_000_000 → IsHeavy k (2 ^ 80) w
far_heavy k w ratio small = far_by k k.factor w ratio (ratio_limits ratio).factor small

-- the greatest light value is found
pub light_is : (k : Fraction) (w : ℕ) → IsRatio k → w ≤ 1_000_000_000 → IsGreatest (is_light k w) (most_light k w)
light_is k w ratio small =
    greatest-is (is_light k w) (light_closed k w) (light_test k w 0 (λ heavy. nothing (heavy_more k 0 w heavy)))
    (beyond (is_heavy k (2 ^ 80) w) (far_heavy k w ratio small)) where
      nothing : w < 0 → ⊥
      nothing less = omega arith

      beyond : (b : Bool) → IsTrue b → not b ≡ false
      beyond true holds = refl
      beyond false holds = never holds

-- w is light against itself
pub light_least : (k : Fraction) (w : ℕ) → IsRatio k → w ≤ 1_000_000_000 → w ≤ most_light k w
light_least k w ratio small =
    (light_is k w ratio small).greatest w (light_test k w w (λ heavy. same (heavy_more k w w heavy))) where
      same : w < w → ⊥
      same less = omega arith

-- what the root gives is the greatest light value, where no factor is declared
pub root_is : (k : Fraction) (w root : ℕ) → IsRatio k → k.factor ≡ None → root * root ≤ k.p * (w * w) / k.q
    → ((r : ℕ) → r * r ≤ k.p * (w * w) / k.q → r ≤ root) → IsGreatest (is_light k w) (w + root)
root_is k w root ratio plain within greatest = record {
  does = light_test k w (w + root) does;
  greatest = λ v light. none_greater v
      (light_fact k w v light);
} where
  square : k.q * (root * root) ≤ k.p * (w * w)
  square = let times : k.q * (root * root) ≤ k.q * (k.p * (w * w) / k.q) =
      mul-le k.q (root * root) k.q (k.p * (w * w) / k.q)
      (omega arith) within in
      omega (arith, times, mul-div-le (k.p * (w * w)) k.q)

  does : IsHeavy k (w + root) w → ⊥
  does heavy =
      let over : w + root - w ≡ root = omega arith in
      let more : k.p * w * w < k.q * root * root =
      subst (λ x. k.p * w * w < k.q * x * x) over (heavy_excess k plain (w + root) w heavy) in
      omega (arith, more, square)

  none_greater : (v : ℕ) → (IsHeavy k v w → ⊥) → v ≤ w + root
  none_greater v light =
      let row : k.q * (v - w) * (v - w) ≤ k.p * w * w =
      subst (λ o. IsExcessBy k o (v - w) w) plain (not_heavy k v w light) in
      let divided : (v - w) * (v - w) ≤ k.p * (w * w) / k.q =
      (le-div_iff_mul-le {k = k.q} {x = (v - w) * (v - w)} {y = k.p * (w * w)}
      (omega (arith, (ratio_limits ratio).least))).1
      (turn (v - w) row) in
      let less : v - w ≤ root = greatest (v - w) divided in
      omega (arith, less) where
        turn : (x : ℕ) → k.q * x * x ≤ k.p * w * w → (x * x) * k.q ≤ k.p * (w * w)
        turn x row = omega arith

-- what the factor gives is the greatest light value, where one is declared
pub factor_is : (k : Fraction) (f : Factor) (w : ℕ) → IsRatio k → k.factor ≡ Some f
    → IsGreatest (is_light k w) (f.b * w / f.c)
factor_is k f w ratio declared = record {
  does = light_test k w (f.b * w / f.c) does;
  greatest = λ v light. none_greater v (light_fact k w v light);
} where
  limits : FactorLimits f
  limits = factor_limits f (subst (λ o. IsTrue (is_some_factor o)) declared (ratio_limits ratio).factor)

  does : IsHeavy k (f.b * w / f.c) w → ⊥
  does heavy =
      let over : f.b * w < f.c * (f.b * w / f.c) =
      factor_over k f (f.b * w / f.c) w (subst (λ o. HeavyBy k o (f.b * w / f.c) w) declared heavy) in
      omega (arith, over, mul-div-le (f.b * w) f.c)

  -- what is at most w is at most so many times w
  few : (v : ℕ) → v ≤ w → f.c * v ≤ f.b * w
  few v low = mul-le f.c v f.b w (omega (arith, limits.more)) low

  at_most : (v : ℕ) → (IsHeavy k v w → ⊥) → (w < v) ⊎ (v ≤ w) → (f.b * w < f.c * v) ⊎ (f.c * v ≤ f.b * w)
      → f.c * v ≤ f.b * w
  at_most v light (inr low) _ = few v low
  at_most v light (inl more) (inr low) = low
  at_most v light (inl more) (inl over) =
      absurd (light (subst (λ o. HeavyBy k o v w) (sym declared) (factor_from k f v w more over)))

  none_greater : (v : ℕ) → (IsHeavy k v w → ⊥) → v ≤ f.b * w / f.c
  none_greater v light =
      let low : f.c * v ≤ f.b * w = at_most v light (cases_lt w v) (cases_lt (f.b * w) (f.c * v)) in
      (le-div_iff_mul-le {k = f.c} {x = v} {y = f.b * w} (omega (arith, limits.least))).1 (omega (arith, low))

-- it is at most a million times w
pub factor_small : (k : Fraction) (f : Factor) (w : ℕ) → IsRatio k → k.factor ≡ Some f → f.b * w / f.c ≤ 1_000_000 * w
factor_small k f w ratio declared =
    let limits : FactorLimits f =
    factor_limits f (subst (λ o. IsTrue (is_some_factor o)) declared (ratio_limits ratio).factor) in
    let low : f.b * w / f.c ≤ f.b * w = div-le_self (f.b * w) f.c in
    let most : f.b * w ≤ 1_000_000 * w = mul-le f.b w 1_000_000 w limits.small_b (omega arith) in
    omega (arith, low, most)

-- the root is at most a thousand times w
pub root_small : (k : Fraction) (w root : ℕ) → IsRatio k → root * root ≤ k.p * (w * w) / k.q → root ≤ 1_000 * w
root_small k w root ratio within = square_order root (1_000 * w)
    (let times : k.q * (root * root) ≤ k.q * (k.p * (w * w) / k.q) =
    mul-le k.q (root * root) k.q (k.p * (w * w) / k.q) (omega arith) within in
    let one : 1 * (root * root) ≤ k.q * (root * root) =
    mul-le 1 (root * root) k.q (root * root) (ratio_limits ratio).least (omega arith) in
    let all : k.p * (w * w) ≤ 1_000_000 * (w * w) = mul-le k.p (w * w) 1_000_000 (w * w) (ratio_limits ratio).small_p
    (omega arith) in
    omega (arith, times, one, all, mul-div-le (k.p * (w * w)) k.q))

-- ---- the first link

heavy_closed : (k : Fraction) (v : ℕ) → IsDownwardClosed (λ w. is_heavy k v w)
heavy_closed k v m n less heavy = heavy_mono k v m n less heavy

-- a positive value is heavy against nothing
zero_by : (k : Fraction) (o : Option Factor) (v : ℕ) → IsRatio k → IsTrue (is_some_factor o) → 1 ≤ v → HeavyBy k o v 0
zero_by k None v ratio out some = root_from k v 0 (
    let square : 1 * 1 ≤ v * v = mul-le 1 1 v v some some in
    let times : 1 * (1 * 1) ≤ k.q * (v * v) = mul-le 1 (1 * 1) k.q (v * v) (ratio_limits ratio).least square in
    let whole : v - 0 ≡ v = omega arith in
    subst (λ x. k.p * 0 * 0 < k.q * x * x) (sym whole) (omega (arith, times)))
zero_by k (Some f) v ratio factor some =
    let times : 1 * 1 ≤ f.c * v = mul-le 1 1 f.c v (factor_limits f factor).least some in
    factor_from k f v 0 some (omega (arith, times))

-- by what the ratio says
pub heavy_zero : (k : Fraction) (v : ℕ) → IsRatio k → 1 ≤ v → IsTrue (is_heavy k v 0)
heavy_zero k v ratio some = zero_by k k.factor v ratio (ratio_limits ratio).factor some

-- the greatest value against which v is heavy is found
pub moved_is : (k : Fraction) (v : ℕ) → IsRatio k → 1 ≤ v → v ≤ 1_000_000_000
    → IsGreatest (λ n. is_heavy k v n) (greatest (λ n. is_heavy k v n))
moved_is k v ratio some small = greatest-is (λ n. is_heavy k v n) (heavy_closed k v) (heavy_zero k v ratio some)
    (fails (is_heavy k v (2 ^ 80))
    (λ heavy. far (heavy_more k v (2 ^ 80) heavy))) where
      far : 2 ^ 80 < v → ⊥
      far less = omega arith

-- where a unit job is heavy against the number before w, and not against w, this is the first link
pub first_is : (k : Fraction) (v w : ℕ) → IsRatio k → 1 ≤ v → v ≤ 1_000_000_000 → 1 ≤ w → IsTrue (is_heavy k v (w - 1))
    → (IsTrue (is_heavy k v w) → ⊥) → suc (greatest (λ n. is_heavy k v n)) ≡ w
first_is k v w ratio some small some_w below light =
    let same : greatest (λ n. is_heavy k v n) ≡ w - 1 =
    one_greatest (λ n. is_heavy k v n) (greatest (λ n. is_heavy k v n)) (w - 1) (moved_is k v ratio some small) here in
    omega (arith, same) where
      none_greater : (n : ℕ) → IsTrue (is_heavy k v n) → n ≤ w - 1
      none_greater n heavy =
          elim (cases_lt n w) [ inl less ↦ omega arith | inr more ↦ absurd (light (heavy_closed k v w n more heavy)) ]

      here : IsGreatest (λ n. is_heavy k v n) (w - 1)
      here = record { does = below; greatest = none_greater }

-- it is the least value against which a unit job isn't heavy
pub first_unmoved : (k : Fraction) (v : ℕ) → IsRatio k → 1 ≤ v → v ≤ 1_000_000_000
    → IsLeastUnmoved k v (suc (greatest (λ n. is_heavy k v n)))
first_unmoved k v ratio some small =
    least (greatest (λ n. is_heavy k v n)) (moved_is k v ratio some small) where
      least : (g : ℕ) → IsGreatest (λ n. is_heavy k v n) g → IsLeastUnmoved k v (suc g)
      least g it = record {
        some = omega arith;
        unmoved = λ heavy. over (it.greatest (suc g) heavy);
        least = λ u _ unmoved. by_order u unmoved (cases_lt g u);
      } where
        over : suc g ≤ g → ⊥
        over more = omega arith

        by_order : (u : ℕ) → (IsHeavy k v u → ⊥) → (g < u) ⊎ (u ≤ g) → suc g ≤ u
        by_order u unmoved (inl less) = less
        by_order u unmoved (inr low) = absurd (unmoved (heavy_closed k v u g low it.does))

-- ---- the next link, and the bait

-- the greatest light value is the bait's
pub most_is_light : (k : Fraction) (w : ℕ) → IsRatio k → w ≤ 1_000_000_000 → IsMostLight k w (most_light k w)
most_is_light k w ratio small = record {
  light = light_fact k w (most_light k w) (light_is k w ratio small).does;
  most = λ u light. (light_is k w ratio small).greatest u (light_test k w u light);
}

-- the one after it is the next link
pub next_is_heavy : (k : Fraction) (w : ℕ) → IsRatio k → w ≤ 1_000_000_000 → IsLeastHeavy k w (suc (most_light k w))
next_is_heavy k w ratio small = least (most_light k w) (most_is_light k w ratio small) where
  least : (m : ℕ) → IsMostLight k w m → IsLeastHeavy k w (suc m)
  least m it = record {
    heavy = by_test (is_heavy k (suc m) w) refl;
    least = λ u heavy. by_order u heavy (cases_lt m u);
  } where
    over : suc m ≤ m → ⊥
    over more = omega arith

    by_test : (b : Bool) → is_heavy k (suc m) w ≡ b → IsHeavy k (suc m) w
    by_test true heavy = heavy
    by_test false light = absurd
        (over (it.most (suc m) (λ heavy. never (sym light ∙ heavy))))

    by_order : (u : ℕ) → IsHeavy k u w → (m < u) ⊎ (u ≤ m) → suc m ≤ u
    by_order u heavy (inl less) = less
    by_order u heavy (inr low) = absurd (it.light (heavy_up k u m w low heavy))
