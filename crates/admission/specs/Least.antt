-- The least ratio that jobs keep.
use Rattle.std.specs.Prelude.{◌≡◌, ◌≤◌, ◌<◌, ◌*◌, ◌^◌, ℕ, List, Option, Some, None, true}
use Rattle.dover_model.specs.Common.{EachTwo, Fraction, IsRatio, JobFacts, is_within_ratio, most_p}
use Rattle.dover_model.specs.declared.factors.Factor.{Factor}
use Rattle.admission.specs.declared.least.Pair.{Pair}

-- ---- what is proved of the ratio

-- each two jobs keep the ratio: no density is more than it times another
abbrev pub AllKeep : Fraction → List JobFacts → Type 0
AllKeep k jobs = EachTwo (λ i j. is_within_ratio k i j ≡ true) jobs

-- The ratio is within its limits, all jobs keep it, and none that is less and within the limits; it is in lowest terms,
-- and has this factor.
pub record IsLeast (factor : Option Factor) (jobs : List JobFacts) (k : Fraction) : Type 0 where
  pub ratio : IsRatio k
  pub factor_is : k.factor ≡ factor
  pub kept : AllKeep k jobs
  pub least : (r : Fraction) → IsRatio r → AllKeep r jobs → k.p * r.q ≤ r.p * k.q
  pub lowest : (r : Fraction) → IsRatio r → r.p * k.q ≡ k.p * r.q → k.q ≤ r.q

-- ---- what is kept while it is sought

-- p/q is at least top/bottom
abbrev pub Suffices : (top bottom p q : ℕ) → Type 0
Suffices top bottom p q = q * top ≤ p * bottom

-- the jobs keep a ratio where it is at least this fraction, and no other
pub record IsSpread (jobs : List JobFacts) (top bottom : ℕ) : Type 0 where
  pub some : 1 ≤ bottom
  pub order : bottom ≤ top
  pub size : top < 2 ^ 80
  pub enough : (k : Fraction) → Suffices top bottom k.p k.q → AllKeep k jobs
  pub needed : (k : Fraction) → IsRatio k → AllKeep k jobs → Suffices top bottom k.p k.q

-- a numerator within the limit, with a denominator below n, that suffices
pub record IsCandidate (top bottom n p q : ℕ) : Type 0 where
  pub some : 1 ≤ q
  pub below : q < n
  pub small : p ≤ most_p
  pub enough : Suffices top bottom p q

-- this is the least of those, and of equal ones that with the least denominator
pub record IsLeastBelow (top bottom n : ℕ) (x : Pair) : Type 0 where
  pub candidate : IsCandidate top bottom n x.p x.q
  pub least : (p q : ℕ) → IsCandidate top bottom n p q → x.p * q ≤ p * x.q
  pub lowest : (p q : ℕ) → IsCandidate top bottom n p q → p * x.q ≡ x.p * q → x.q ≤ q

-- the same, where there may be none
abbrev pub StandsBelow : (top bottom n : ℕ) → Option Pair → Type 0
StandsBelow top bottom n None = (p q : ℕ) → IsCandidate top bottom n p q → ⊥
StandsBelow top bottom n (Some x) = IsLeastBelow top bottom n x
