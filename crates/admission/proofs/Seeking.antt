-- The least of the ratios that suffice, denominator by denominator.
use Rattle.std.proofs.Common.{◌≡◌, ◌≤◌, ◌<◌, ◌*◌, ◌+◌, ◌⊎◌, inl, inr, ℕ, Option, Some, None, subst, sym, arith}
use Rattle.std.proofs.lemmas.Bool.{cases_lt}
use Rattle.std.proofs.lemmas.Nat.{mul-le}
use Rattle.dover_model.specs.Common.{most_p}
use Rattle.admission.proofs.Comparing.{chained}
use Rattle.admission.specs.Least.{IsCandidate, IsLeastBelow, StandsBelow, Suffices}
use Rattle.admission.specs.declared.least.Pair.{Pair}

-- what is below the next number is below this one, or it
below_next : (n q : ℕ) → q < n + 1 → (q < n) ⊎ (q ≡ n)
below_next n q below = by_order (cases_lt q n) where
  by_order : (q < n) ⊎ (n ≤ q) → (q < n) ⊎ (q ≡ n)
  by_order (inl less) = inl less
  by_order (inr more) = inr (omega arith)

-- p/q suffices, and no less numerator does with q
module _ (top bottom p q : ℕ) (some : 1 ≤ q) (enough : Suffices top bottom p q)
    (least : (r : ℕ) → Suffices top bottom r q → p ≤ r) where
  -- a candidate with a denominator up to q has one below it, or its numerator is no less than p
  by_denominator : (r s : ℕ) → IsCandidate top bottom (q + 1) r s
      → IsCandidate top bottom q r s ⊎ ((s ≡ q) × (p ≤ r))
  by_denominator r s it = by_order (below_next q s it.below) where
    by_order : (s < q) ⊎ (s ≡ q) → IsCandidate top bottom q r s ⊎ ((s ≡ q) × (p ≤ r))
    by_order (inl less) =
        inl (record { some = it.some; below = less; small = it.small; enough = it.enough })
    by_order (inr same) = inr (same, least r (subst (λ d. Suffices top bottom r d) same it.enough))

  -- the numerator is above its limit
  pub too_large : (best : Option Pair) → most_p < p → StandsBelow top bottom q best
      → StandsBelow top bottom (q + 1) best
  too_large None large none = λ r s it. by_cases r s it (by_denominator r s it) where
    by_cases : (r s : ℕ) → IsCandidate top bottom (q + 1) r s
        → IsCandidate top bottom q r s ⊎ ((s ≡ q) × (p ≤ r)) → ⊥
    by_cases r s it (inl old) = none r s old
    by_cases r s it (inr new) = absurd (omega (arith, it.small, new.1, large))
  too_large (Some x) large kept = record {
    candidate = record {
      some = kept.candidate.some;
      below = omega (arith, kept.candidate.below);
      small = kept.candidate.small;
      enough = kept.candidate.enough;
    };
    least = λ r s it. kept.least r s (old r s it (by_denominator r s it));
    lowest = λ r s it same. kept.lowest r s (old r s it (by_denominator r s it)) same;
  } where
    old : (r s : ℕ) → IsCandidate top bottom (q + 1) r s
        → IsCandidate top bottom q r s ⊎ ((s ≡ q) × (p ≤ r)) → IsCandidate top bottom q r s
    old r s it (inl fits) = fits
    old r s it (inr new) = absurd (omega (arith, it.small, new.1, large))

  -- the pair of these
  abbrev next : Pair
  next = record { p = p; q = q }

  module _ (small : p ≤ most_p) where
    -- it is a candidate
    candidate : IsCandidate top bottom (q + 1) p q
    candidate = record { some = some; below = omega arith; small = small; enough = enough }

    -- none came before
    pub first_found : StandsBelow top bottom q None → IsLeastBelow top bottom (q + 1) next
    first_found none = record {
      candidate = candidate;
      least = λ r s it. least_by r s it (by_denominator r s it);
      lowest = λ r s it same. lowest_by r s it (by_denominator r s it);
    } where
      least_by : (r s : ℕ) → IsCandidate top bottom (q + 1) r s
          → IsCandidate top bottom q r s ⊎ ((s ≡ q) × (p ≤ r)) → p * s ≤ r * q
      least_by r s it (inl old) = absurd (none r s old)
      least_by r s it (inr new) = mul-le p s r q new.1 (omega (arith, new.0))

      lowest_by : (r s : ℕ) → IsCandidate top bottom (q + 1) r s
          → IsCandidate top bottom q r s ⊎ ((s ≡ q) × (p ≤ r)) → q ≤ s
      lowest_by r s it (inl old) = absurd (none r s old)
      lowest_by r s it (inr new) = omega (arith, new.0)

    module _ (x : Pair) (kept : IsLeastBelow top bottom q x) where
      -- the one before is no greater
      pub stays : x.p * q ≤ p * x.q → IsLeastBelow top bottom (q + 1) x
      stays order = record {
        candidate = record {
          some = kept.candidate.some;
          below = omega (arith, kept.candidate.below);
          small = kept.candidate.small;
          enough = kept.candidate.enough;
        };
        least = λ r s it. least_by r s it (by_denominator r s it);
        lowest = λ r s it same. lowest_by r s it same (by_denominator r s it);
      } where
        least_by : (r s : ℕ) → IsCandidate top bottom (q + 1) r s
            → IsCandidate top bottom q r s ⊎ ((s ≡ q) × (p ≤ r)) → x.p * s ≤ r * x.q
        least_by r s it (inl old) = kept.least r s old
        least_by r s it (inr new) =
            let more : p * x.q ≤ r * x.q = mul-le p x.q r x.q new.1 (omega arith) in
            subst (λ d. x.p * d ≤ r * x.q) (sym new.0) (omega (arith, order, more))

        lowest_by : (r s : ℕ) → IsCandidate top bottom (q + 1) r s → r * x.q ≡ x.p * s
            → IsCandidate top bottom q r s ⊎ ((s ≡ q) × (p ≤ r)) → x.q ≤ s
        lowest_by r s it same (inl old) = kept.lowest r s old same
        lowest_by r s it same (inr new) = omega (arith, new.0, kept.candidate.below)

      -- it is less than the one before
      pub gives_way : p * x.q < x.p * q → IsLeastBelow top bottom (q + 1) next
      gives_way order = record {
        candidate = candidate;
        least = λ r s it. least_by r s it (by_denominator r s it);
        lowest = λ r s it same. lowest_by r s it same (by_denominator r s it);
      } where
        less : (r s : ℕ) → IsCandidate top bottom q r s → p * s < r * q
        less r s old = chained p q x.p x.q r s old.some order (kept.least r s old)

        least_by : (r s : ℕ) → IsCandidate top bottom (q + 1) r s
            → IsCandidate top bottom q r s ⊎ ((s ≡ q) × (p ≤ r)) → p * s ≤ r * q
        least_by r s it (inl old) = omega (arith, less r s old)
        least_by r s it (inr new) = mul-le p s r q new.1 (omega (arith, new.0))

        lowest_by : (r s : ℕ) → IsCandidate top bottom (q + 1) r s → r * q ≡ p * s
            → IsCandidate top bottom q r s ⊎ ((s ≡ q) × (p ≤ r)) → q ≤ s
        lowest_by r s it same (inl old) = absurd (omega (arith, less r s old, same))
        lowest_by r s it same (inr new) = omega (arith, new.0)

      -- by which of the two is less
      pub lesser_stands : (y : Pair) → (p * x.q < x.p * q → y ≡ next) → (x.p * q ≤ p * x.q → y ≡ x)
          → IsLeastBelow top bottom (q + 1) y
      lesser_stands y new old = by_order (cases_lt (p * x.q) (x.p * q)) where
        by_order : ((p * x.q) < (x.p * q)) ⊎ ((x.p * q) ≤ (p * x.q)) → IsLeastBelow top bottom (q + 1) y
        by_order (inl less) = subst (IsLeastBelow top bottom (q + 1)) (sym (new less)) (gives_way less)
        by_order (inr more) = subst (IsLeastBelow top bottom (q + 1)) (sym (old more)) (stays more)

-- no denominator is below 1
pub none_below : (top bottom : ℕ) → StandsBelow top bottom 1 None
none_below top bottom p q it = absurd (omega (arith, it.some, it.below))
