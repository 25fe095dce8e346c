-- The least value that is heavy.
use Rattle.std.proofs.Common.{◌≡◌, ℕ, ◌+◌, ◌-◌, ◌*◌, ◌/◌, ◌^◌, ◌≤◌, ◌<◌, ◌⊎◌, inl, inr, refl, sym, ap, ◌∙◌, subst, Bool}
use Rattle.std.proofs.Common.{true, false, not, IsTrue, arith, Option, Some, None, ◌↔◌}
use Rattle.std.proofs.Math.Nat.{mul-div-le, le-div_iff_mul-le, mul-le-mul_left}
use Rattle.std.proofs.lemmas.Nat.{mul-le}
use Rattle.std.proofs.lemmas.Bool.{cases_lt}
use Rattle.dover_model.specs.declared.factors.Factor.{Factor}
use Rattle.dover_model.specs.Common.{Fraction, IsRatio, is_some_factor, IsGreatest, greatest, is_heavy, IsHeavy}
use Rattle.dover_model.proofs.bound.GreatestLaws.{IsDownwardClosed, greatest-is}
use Rattle.dover_model.proofs.lists.Members.{by_bool}
use Rattle.dover_model.proofs.lists.Tests.{never}
use Rattle.dover_model.proofs.bound.Calculus.{HeavyBy, heavy_from, heavy_excess, heavy_more, heavy_up, factor_from}
use Rattle.dover_model.proofs.bound.Calculus.{factor_over, root_from}
use Rattle.dover_model.proofs.valid.JobLimits.{ratio_limits, FactorLimits, factor_limits}
use Rattle.root_compare.specs.Least.{least_heavy}
use Rattle.root_compare.proofs.Roots.{beyond_root}

-- not heavy
abbrev pub light : Fraction → ℕ → ℕ → Bool
light k w v = not (is_heavy k v w)

module _ (k : Fraction) (w : ℕ) where
  -- what isn't heavy is light
  is_light : (v : ℕ) → (IsHeavy k v w → ⊥) → IsTrue (light k w v)
  is_light v none = by_bool _ (is_heavy k v w) (λ heavy. absurd (none heavy)) (ap not)

  -- and what is light isn't heavy
  none_heavy : (v : ℕ) → IsTrue (light k w v) → IsHeavy k v w → ⊥
  none_heavy v lights heavy = never (let no : false ≡ true = sym (ap not heavy) ∙ lights in no)

  -- what is less than a light value is light
  closed : IsDownwardClosed (light k w)
  closed m n less lights = is_light m (λ heavy. none_heavy n lights (heavy_up k m n w less heavy))

  -- nothing is light
  nothing : IsTrue (light k w 0)
  nothing = is_light 0 (λ heavy. let more : w < 0 = heavy_more k 0 w heavy in omega (arith, more))

  -- the least heavy value is what the definition finds
  pub least_is : (v : ℕ) → v ≤ 2 ^ 80 → IsHeavy k v w → ((u : ℕ) → IsHeavy k u w → v ≤ u) → v ≡ least_heavy k w
  least_is v small heavy least = by_order (greatest-is (light k w) closed nothing beyond) where
    beyond : light k w (2 ^ 80) ≡ false
    beyond = ap not (heavy_up k v (2 ^ 80) w small heavy)

    by_order : IsGreatest (light k w) (greatest (light k w)) → v ≡ greatest (light k w) + 1
    by_order it =
        let some : w < v = heavy_more k v w heavy in
        let below : v - 1 ≤ greatest (light k w) =
        it.greatest (v - 1) (is_light (v - 1) (λ more. let high : v ≤ v - 1 = least (v - 1) more in
        omega (arith, high, some))) in
        let above : greatest (light k w) < v = by_cases (cases_lt (greatest (light k w)) v) it.does in
        omega (arith, some, below, above) where
          by_cases : (greatest (light k w) < v) ⊎ (v ≤ greatest (light k w)) → IsTrue (light k w (greatest (light k w)))
              → greatest (light k w) < v
          by_cases (inl less) does = less
          by_cases (inr more) does = absurd (none_heavy (greatest (light k w)) does
              (heavy_up k v (greatest (light k w)) w more heavy))

-- ---- by the root

module _ (k : Fraction) (plain : k.factor ≡ None) (w root : ℕ) (some : 1 ≤ k.q)
    (square : root * root ≤ k.p * w * w / k.q)
    (most : (r : ℕ) → r * r ≤ k.p * w * w / k.q → r ≤ root) where
  -- so many times the denominator are no more
  whole : k.q * (k.p * w * w / k.q) ≤ k.p * w * w
  whole = mul-div-le (k.p * w * w) k.q

  -- what is more by one than the root is heavy
  pub root_heavy : IsHeavy k (w + root + 1) w
  root_heavy = heavy_from k plain (w + root + 1) w
      (let excess : w + root + 1 - w ≡ root + 1 = omega arith in rw excess by_order) where
        above : k.p * w * w / k.q < (root + 1) * (root + 1)
        above = beyond_root (k.p * w * w / k.q) root most

        by_order : k.p * w * w < k.q * (root + 1) * (root + 1)
        by_order = by_cases (cases_lt (k.p * w * w) (k.q * (root + 1) * (root + 1))) where
          by_cases : (k.p * w * w < k.q * (root + 1) * (root + 1)) ⊎ (k.q * (root + 1) * (root + 1) ≤ k.p * w * w)
              → k.p * w * w < k.q * (root + 1) * (root + 1)
          by_cases (inl less) = less
          by_cases (inr more) = absurd (
              let low : (root + 1) * (root + 1) ≤ k.p * w * w / k.q =
              (le-div_iff_mul-le {k = k.q} {x = (root + 1) * (root + 1)} {y = k.p * w * w} (omega (arith, some))).1
              (omega (arith, more)) in
              omega (arith, above, low))

  -- and nothing less is
  pub root_least : (v : ℕ) → IsHeavy k v w → w + root + 1 ≤ v
  root_least v heavy = by_order (cases_lt v (w + root + 1)) where
    by_order : (v < w + root + 1) ⊎ (w + root + 1 ≤ v) → w + root + 1 ≤ v
    by_order (inl less) = absurd (
        let more : k.p * w * w < k.q * (v - w) * (v - w) = heavy_excess k plain v w heavy in
        let small : v - w ≤ root = omega (arith, less) in
        let squares : (v - w) * (v - w) ≤ root * root = mul-le (v - w) (v - w) root root small small in
        let times : k.q * ((v - w) * (v - w)) ≤ k.q * (k.p * w * w / k.q) =
        mul-le-mul_left k.q (omega (arith, squares, square)) in
        omega (arith, more, times, whole))
    by_order (inr least) = least

-- ---- by a factor

module _ (k : Fraction) (f : Factor) (is : k.factor ≡ Some f) (some : 1 ≤ f.c) (more : f.c < f.b) (w : ℕ) where
  -- so many times the denominator are no more
  part : f.c * (f.b * w / f.c) ≤ f.b * w
  part = mul-div-le (f.b * w) f.c

  -- a value of whose denominator so many times is more
  over : f.b * w < f.c * (f.b * w / f.c + 1)
  over = by_cases (cases_lt (f.b * w) (f.c * (f.b * w / f.c + 1))) where
    by_cases : (f.b * w < f.c * (f.b * w / f.c + 1)) ⊎ (f.c * (f.b * w / f.c + 1) ≤ f.b * w)
        → f.b * w < f.c * (f.b * w / f.c + 1)
    by_cases (inl less) = less
    by_cases (inr less_too) = absurd (
        let low : f.b * w / f.c + 1 ≤ f.b * w / f.c =
        (le-div_iff_mul-le {k = f.c} {x = f.b * w / f.c + 1} {y = f.b * w} (omega (arith, some))).1
        (omega (arith, less_too)) in
        omega (arith, low))

  -- no less than the other
  no_less : w ≤ f.b * w / f.c
  no_less = (le-div_iff_mul-le {k = f.c} {x = w} {y = f.b * w} (omega (arith, some))).1
      (let times : f.c * w ≤ f.b * w = mul-le f.c w f.b w (omega (arith, more)) (omega arith) in omega (arith, times))

  -- the next value is heavy
  pub factor_heavy : IsHeavy k (f.b * w / f.c + 1) w
  factor_heavy = subst (λ o. HeavyBy k o (f.b * w / f.c + 1) w) (sym is)
      (factor_from k f (f.b * w / f.c + 1) w (omega (arith, no_less)) over)

  -- and nothing less is
  pub factor_least : (v : ℕ) → IsHeavy k v w → f.b * w / f.c + 1 ≤ v
  factor_least v heavy = by_order (cases_lt v (f.b * w / f.c + 1)) where
    heavier : f.b * w < f.c * v
    heavier = factor_over k f v w (subst (λ o. HeavyBy k o v w) is heavy)

    by_order : (v < f.b * w / f.c + 1) ⊎ (f.b * w / f.c + 1 ≤ v) → f.b * w / f.c + 1 ≤ v
    by_order (inl less) = absurd (
        let times : f.c * v ≤ f.c * (f.b * w / f.c) = mul-le-mul_left f.c (omega (arith, less)) in
        omega (arith, times, part, heavier))
    by_order (inr least) = least

-- ---- for each value within the limits of sums there is one

-- a value that is beyond all sums is heavy against them
beyond_by : (k : Fraction) (ratio : IsRatio k) (w : ℕ) → w ≤ 10_000_000_000_000 → (o : Option Factor)
    → IsTrue (is_some_factor o) → HeavyBy k o (2 ^ 80) w
beyond_by k ratio w small None _ = root_from k (2 ^ 80) w heavy where
  heavy : k.p * w * w < k.q * (2 ^ 80 - w) * (2 ^ 80 - w)
  heavy =
      let square : w * w ≤ 10_000_000_000_000 * 10_000_000_000_000 =
      mul-le w w 10_000_000_000_000 10_000_000_000_000 small small in
      let low : k.p * (w * w) ≤ 1_000_000 * (10_000_000_000_000 * 10_000_000_000_000) =
      mul-le k.p (w * w) 1_000_000 (10_000_000_000_000 * 10_000_000_000_000)
      (let p : k.p ≤ 1_000_000 = (ratio_limits ratio).small_p in omega (arith, p)) square in
      let root : 2 ^ 64 ≤ 2 ^ 80 - w = omega (arith, small) in
      let high : 2 ^ 64 * 2 ^ 64 ≤ (2 ^ 80 - w) * (2 ^ 80 - w) =
      mul-le (2 ^ 64) (2 ^ 64) (2 ^ 80 - w) (2 ^ 80 - w) root root in
      let more : 1 * ((2 ^ 80 - w) * (2 ^ 80 - w)) ≤ k.q * ((2 ^ 80 - w) * (2 ^ 80 - w)) =
      mul-le 1 ((2 ^ 80 - w) * (2 ^ 80 - w)) k.q ((2 ^ 80 - w) * (2 ^ 80 - w)) (ratio_limits ratio).least
      (omega arith) in
      omega (arith, low, high, more)
beyond_by k ratio w small (Some f) within =
    let limits : FactorLimits f = factor_limits f within in
    let small_b : f.b ≤ 1_000_000 = limits.small_b in
    let low : f.b * w ≤ 1_000_000 * 10_000_000_000_000 = mul-le f.b w 1_000_000 10_000_000_000_000 small_b small in
    let high : 1 * 2 ^ 80 ≤ f.c * 2 ^ 80 = mul-le 1 (2 ^ 80) f.c (2 ^ 80) limits.least (omega arith) in
    factor_from k f (2 ^ 80) w (omega (arith, small)) (omega (arith, low, high))

module _ (k : Fraction) (ratio : IsRatio k) (w : ℕ) (small : w ≤ 10_000_000_000_000) where
  -- what the definition finds is the greatest light value
  greatest_light : IsGreatest (light k w) (greatest (light k w))
  greatest_light = greatest-is (light k w) (closed k w) (nothing k w)
      (ap not (let beyond : IsHeavy k (2 ^ 80) w = beyond_by k ratio w small k.factor (ratio_limits ratio).factor in
      beyond))

  -- a value is heavy where it is no less
  pub heavy_where : (v : ℕ) → IsHeavy k v w ↔ (least_heavy k w ≤ v)
  heavy_where v = (to, back) where
    to : IsHeavy k v w → least_heavy k w ≤ v
    to heavy = by_order (cases_lt (greatest (light k w)) v) where
      by_order : (greatest (light k w) < v) ⊎ (v ≤ greatest (light k w)) → greatest (light k w) + 1 ≤ v
      by_order (inl less) = omega (arith, less)
      by_order (inr more) = absurd (none_heavy k w (greatest (light k w)) greatest_light.does
          (heavy_up k v (greatest (light k w)) w more heavy))

    back : least_heavy k w ≤ v → IsHeavy k v w
    back above = by_test (is_heavy k v w) refl where
      by_test : (b : Bool) → is_heavy k v w ≡ b → IsHeavy k v w
      by_test true heavy = heavy
      by_test false lights = absurd (let most : v ≤ greatest (light k w) = greatest_light.greatest v (ap not lights) in
          omega (arith, most, above))
