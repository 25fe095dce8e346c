-- Each value of a chain is the least that takes the processor from the one before it.
use Rattle.std.proofs.Common.{◌≡◌, ℕ, zero, suc, ◌+◌, ◌*◌, ◌/◌, ◌≤◌, ◌<◌, refl, List, [], ◌∷◌, ◌++◌, subst, arith, sum}
use Rattle.std.proofs.lemmas.List.Sums.{sum_by-cons}
use Rattle.dover_model.specs.declared.events.Version.TheVariants.{Two}
use Rattle.dover_model.specs.Common.{most_jobs, Fraction, IsRatio, with_factor, unit_value, first_link, most_light}
use Rattle.dover_model.specs.Common.{chain_from, chain, last_link, bait_value}
use Rattle.stated_jobs.specs.bait.Baiting.{FitsLimits}
use Rattle.stated_jobs.specs.bait.Links.{IsLeastUnmoved, IsLeastHeavy, IsMostLight}
use Rattle.stated_jobs.proofs.bait.Feeds.{small, unit_low, unit_some}
use Rattle.stated_jobs.proofs.bait.Heavy.{first_unmoved, next_is_heavy, most_is_light, is_light, light_is, factor_is}
use Rattle.root_compare.proofs.Roots.{one_greatest}
use Rattle.stated_jobs.proofs.bait.Validity.{last_link_within}

-- the heads and the tails of equal lists
heads : {x y : ℕ} {xs ys : List ℕ} → x ∷ xs ≡ y ∷ ys → x ≡ y
heads e = cc

tails : {x y : ℕ} {xs ys : List ℕ} → x ∷ xs ≡ y ∷ ys → xs ≡ ys
tails e = cc

-- the first value
pub first_least : (k : Fraction) (rounds w : ℕ) (rest : List ℕ) → IsRatio k → chain k rounds ≡ w ∷ rest
    → IsLeastUnmoved k (unit_value k) w
first_least k zero w rest ratio is = absurd (cc)
first_least k (suc rounds) w rest ratio is =
    subst (IsLeastUnmoved k (unit_value k)) (heads is)
    (first_unmoved k (unit_value k) ratio (unit_some k ratio) (low (unit_value k) (unit_low k ratio))) where
      low : (v : ℕ) → v ≤ 1_000_000 → v ≤ 1_000_000_000
      low v small = omega arith

-- of a small chain the first value is small, and so is the rest
part_small : (w : ℕ) (ws : List ℕ) → sum (w ∷ ws) < most_jobs Two → (w ≤ 1_000_000_000) × (sum ws < most_jobs Two)
part_small w ws few = level w (sum ws) (sum (w ∷ ws)) (sum_by-cons (λ x. x) w ws) few where
  level : (w rest all : ℕ) → all ≡ w + rest → all < most_jobs Two → (w ≤ 1_000_000_000) × (rest < most_jobs Two)
  level w rest all is few = (omega arith, omega arith)

-- a value and the one before it
next_from : (k : Fraction) (rounds first : ℕ) → IsRatio k → sum (chain_from k rounds first) < most_jobs Two
    → (before rest : List ℕ) (w v : ℕ)
    → chain_from k rounds first ≡ before ++ w ∷ v ∷ rest → IsLeastHeavy k w v
next_from k zero first ratio few [] rest w v is = absurd (cc)
next_from k zero first ratio few (b ∷ before) rest w v is = absurd (cc)
next_from k (suc zero) first ratio few [] rest w v is = absurd (let none : [] ≡ v ∷ rest = tails is in cc)
next_from k (suc (suc rounds)) first ratio few [] rest w v is =
    subst (λ u. IsLeastHeavy k u v) (heads is) (subst (IsLeastHeavy k first) (heads (tails is))
    (next_is_heavy k first ratio (part_small first (chain_from k (suc rounds) (suc (most_light k first))) few).0))
next_from k (suc rounds) first ratio few (b ∷ before) rest w v is =
    next_from k rounds (suc (most_light k first)) ratio
    (part_small first (chain_from k rounds (suc (most_light k first))) few).1 before rest w v
    (tails is)

pub next_least : (k : Fraction) (rounds : ℕ) (before rest : List ℕ) (w v : ℕ) → IsRatio k → FitsLimits k rounds
    → chain k rounds ≡ before ++ w ∷ v ∷ rest → IsLeastHeavy k w v
next_least k rounds before rest w v ratio fits =
    next_from k rounds (first_link k) ratio (small k rounds fits) before rest w v

-- the bait
pub bait_most : (k : Fraction) (rounds : ℕ) → IsRatio k → 1 ≤ rounds → FitsLimits k rounds
    → IsMostLight k (last_link k rounds) (bait_value k rounds)
bait_most k rounds ratio some fits =
    most_is_light k (last_link k rounds) ratio
    (low (last_link k rounds) (sum (chain k rounds)) (last_link_within k rounds some).1 (small k rounds fits)) where
      low : (last all : ℕ) → last ≤ all → all < most_jobs Two → last ≤ 1_000_000_000
      low last all within few = omega arith

-- by a factor
pub light_by_factor : (k : Fraction) (b c w : ℕ) → IsRatio (with_factor k b c) → w ≤ 1_000_000
    → most_light (with_factor k b c) w ≡ b * w / c
light_by_factor k b c w ratio small =
    one_greatest (is_light (with_factor k b c) w) (most_light (with_factor k b c) w) (b * w / c)
    (light_is (with_factor k b c) w ratio (omega (arith, small)))
    (factor_is (with_factor k b c) (record { b = b; c = c }) w ratio refl)
