-- Of the ratios with one denominator, the greatest for which a value is heavy.
use Rattle.std.proofs.Common.{◌≡◌, ℕ, zero, suc, ◌+◌, ◌-◌, ◌*◌, ◌/◌, ◌^◌, ◌≤◌, ◌<◌, ◌⊎◌, ◌↔◌, inl, inr, refl, sym, ap}
use Rattle.std.proofs.Common.{◌∙◌, Bool, true, false, IsTrue, arith, subst, ◌&&◌, nat_le, if◌then◌else◌, Some, None}
use Rattle.std.proofs.Common.{le-leb}
use Rattle.std.proofs.Math.Nat.{mul-le-mul_right, le-div_iff_mul-le}
use Rattle.std.proofs.lemmas.Nat.{mul-le}
use Rattle.std.proofs.lemmas.Bool.{cases_lt, lt-leb}
use Rattle.dover_model.specs.Common.{IsRatio, fraction, greatest, most_p, is_heavy, IsHeavy}
use Rattle.dover_model.specs.Greatest.{greatest_from}
use Rattle.dover_model.proofs.bound.GreatestLaws.{IsDownwardClosed, greatest-is}
use Rattle.dover_model.proofs.valid.JobLimits.{ratio_from, ratio_limits}
use Rattle.dover_model.proofs.lists.Tests.{both, at_most}
use Rattle.dover_model.proofs.bound.Calculus.{heavy_from, heavy_excess}
use Rattle.root_compare.proofs.Roots.{one_greatest}
use Rattle.run_reports.specs.views.Why.{numerator, greatest_ratio}

-- what a search finds passes, unless it is where the search began
passes_or_first : (passes : ℕ → Bool) (bits n : ℕ)
    → (greatest_from passes bits n ≡ n) ⊎ IsTrue (passes (greatest_from passes bits n))
passes_or_first passes zero n = inl refl
passes_or_first passes (suc bits) n = by (passes (n + 2 ^ bits)) refl (passes_or_first passes bits) where
  by : (b : Bool) → passes (n + 2 ^ bits) ≡ b
      → ((m : ℕ) → (greatest_from passes bits m ≡ m) ⊎ IsTrue (passes (greatest_from passes bits m)))
      → (greatest_from passes bits (if b then n + 2 ^ bits else n) ≡ n)
      ⊎ IsTrue (passes (greatest_from passes bits (if b then n + 2 ^ bits else n)))
  by false low more = more n
  by true high more = higher (more (n + 2 ^ bits)) where
    higher : (greatest_from passes bits (n + 2 ^ bits) ≡ n + 2 ^ bits)
        ⊎ IsTrue (passes (greatest_from passes bits (n + 2 ^ bits)))
        → (greatest_from passes bits (n + 2 ^ bits) ≡ n)
        ⊎ IsTrue (passes (greatest_from passes bits (n + 2 ^ bits)))
    higher (inl same) = inr (subst (λ m. IsTrue (passes m)) (sym same) high)
    higher (inr does) = inr does

pub zero_or_passes : (passes : ℕ → Bool) → (greatest passes ≡ 0) ⊎ IsTrue (passes (greatest passes))
zero_or_passes passes = passes_or_first passes 80 0

-- the whole quotient is the greatest number that times w * w is less
pub quotient_below : (q over w p : ℕ) → 1 ≤ q → w < over → 1 ≤ w
    → (p ≤ (q * over * over - 1) / (w * w)) ↔ (p * w * w < q * over * over)
quotient_below q over w p some more positive = (
  λ low. let fits : p * (w * w) ≤ q * over * over - 1 = divides.0 low in omega (arith, fits, product),
  λ less. divides.1 (omega (arith, less)),
) where
  square : 1 * 1 ≤ w * w
  square = mul-le 1 1 w w positive positive

  divides : (p ≤ (q * over * over - 1) / (w * w)) ↔ (p * (w * w) ≤ q * over * over - 1)
  divides = le-div_iff_mul-le {k = w * w} {x = p} {y = q * over * over - 1} (omega (arith, square))

  product : 1 ≤ q * over * over
  product = let one : 1 * 1 ≤ q * over = mul-le 1 1 q over some (omega (arith, more)) in
      let all : 1 * 1 ≤ (q * over) * over = mul-le 1 1 (q * over) over (omega (arith, one)) (omega (arith, more)) in
      omega (arith, all)

-- a value that is at most twice another is heavy for no ratio
pub none_heavy : (v w p q : ℕ) → v ≤ 2 * w → q ≤ p → IsHeavy (fraction p q) v w → ⊥
none_heavy v w p q low above heavy =
    let over : p * w * w < q * (v - w) * (v - w) = heavy_excess (fraction p q) refl v w heavy in
    let square : (v - w) * (v - w) ≤ w * w = mul-le (v - w) (v - w) w w (omega (arith, low)) (omega (arith, low)) in
    let times : q * ((v - w) * (v - w)) ≤ p * (w * w) = mul-le q ((v - w) * (v - w)) p (w * w) above square in
    omega (arith, over, times)

-- of ratios, as a fact on them
pub no_ratio : (v w p q : ℕ) → v ≤ 2 * w → IsRatio (fraction p q) → IsHeavy (fraction p q) v w → ⊥
no_ratio v w p q low ratio = none_heavy v w p q low (ratio_limits ratio).above_one

module _ (q v w : ℕ) (some : 1 ≤ q) where
  -- the value is heavy for this numerator
  abbrev pub passes : ℕ → Bool
  passes p = nat_le p most_p && is_heavy (fraction p q) v w

  -- as a fact
  pub parts : (p : ℕ) → IsTrue (passes p) ↔ ((p ≤ most_p) × IsHeavy (fraction p q) v w)
  parts p = both (nat_le p most_p) (is_heavy (fraction p q) v w) (at_most p most_p) (λ h. h, λ h. h)

  -- a numerator below the denominator is none
  too_low : (p : ℕ) → p < q → numerator q p ≡ None
  too_low p less = ap (λ (b : Bool). if b then Some p else None) (lt-leb _ _ less)

  -- so there is no such ratio where the value is at most twice the other
  pub is_none : v ≤ 2 * w → greatest_ratio q v w ≡ None
  unfolding greatest_ratio
  is_none low = by (greatest passes) (zero_or_passes passes) where
    by : (p : ℕ) → (p ≡ 0) ⊎ IsTrue (passes p) → numerator q p ≡ None
    by p (inl none) = too_low p (omega (arith, none, some))
    by p (inr does) = by_order (cases_lt p q) where
      by_order : (p < q) ⊎ (q ≤ p) → numerator q p ≡ None
      by_order (inl less) = too_low p less
      by_order (inr above) = absurd (none_heavy v w p q low above ((parts p).0 does).1)

  -- a value that is heavy for a ratio is heavy for a lesser one
  closed : IsDownwardClosed passes
  closed m n less does =
      let times : m * (w * w) ≤ n * (w * w) = mul-le-mul_right (w * w) less in
      let over : n * w * w < q * (v - w) * (v - w) = heavy_excess (fraction n q) refl v w ((parts n).0 does).1 in
      (parts m).1 (
        omega (arith, less, ((parts n).0 does).0),
        heavy_from (fraction m q) refl v w (omega (arith, times, over)),
      )

  module _ (below most : ℕ) (few : q ≤ 1_000) (high : 2 * w < v)
      (just : (p : ℕ) → p ≤ most_p → (p ≤ below) ↔ (p * w * w < q * (v - w) * (v - w)))
      (within : most ≤ below) (small : most ≤ most_p) (least : (p : ℕ) → p ≤ below → p ≤ most_p → p ≤ most) where
    -- the value is heavy for it
    pub is_heavy_there : IsHeavy (fraction most q) v w
    is_heavy_there = heavy_from (fraction most q) refl v w ((just most small).0 within)

    -- and for no greater one
    pub none_more : (p : ℕ) → p ≤ most_p → IsHeavy (fraction p q) v w → p ≤ most
    none_more p fits heavy = least p ((just p fits).1 (heavy_excess (fraction p q) refl v w heavy)) fits

    -- nothing is in its way
    nothing : IsTrue (passes 0)
    nothing = (parts 0).1 (
      omega arith,
      heavy_from (fraction 0 q) refl v w
          (let square : 1 * 1 ≤ (v - w) * (v - w) =
          mul-le 1 1 (v - w) (v - w) (omega (arith, high)) (omega (arith, high)) in
          let times : 1 * 1 ≤ q * ((v - w) * (v - w)) = mul-le 1 1 q ((v - w) * (v - w)) some (omega (arith, square)) in
          omega (arith, times)),
    )

    -- it is the numerator of a ratio
    at_least : q ≤ most
    at_least = least q ((just q (omega (arith, few))).1
        (let more : (w + 1) * (w + 1) ≤ (v - w) * (v - w) =
        mul-le (w + 1) (w + 1) (v - w) (v - w) (omega (arith, high)) (omega (arith, high)) in
        let times : q * (w * w + 1) ≤ q * ((v - w) * (v - w)) =
        mul-le q (w * w + 1) q ((v - w) * (v - w)) (omega arith) (omega (arith, more)) in
        omega (arith, times, some))) (omega (arith, few))

    pub is_ratio_there : IsRatio (fraction most q)
    is_ratio_there = ratio_from
        (record { least = some; above_one = at_least; small_q = few; small_p = small; factor = refl })

    -- so it is the greatest, which the definition finds
    pub is_found : greatest_ratio q v w ≡ Some most
    unfolding greatest_ratio
    is_found = ap (numerator q) (one_greatest passes (greatest passes) most (greatest-is passes closed nothing refl)
        record {
          does = (parts most).1 (small, is_heavy_there);
          greatest = λ p does. none_more p ((parts p).0 does).0 ((parts p).0 does).1;
        }) ∙ ap (λ (b : Bool). if b then Some most else None) (le-leb _ _ at_least)
