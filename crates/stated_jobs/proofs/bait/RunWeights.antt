-- What is heavy, the greatest value that isn't, and the first link.
use Rattle.std.proofs.Common.{◌≡◌, ℕ, suc, ◌/◌, ◌^◌, ◌≤◌, ◌<◌, refl, true, false, arith, not}
use Rattle.std.proofs.lemmas.Nat.{le-div}
use Rattle.std.proofs.Math.Nat.{div-le_self}
use Rattle.dover_model.specs.Common.{Fraction, IsRatio, is_heavy, IsGreatest, greatest, unit_value, most_light}
use Rattle.dover_model.specs.Common.{first_link}
use Rattle.dover_model.proofs.bound.Calculus.{heavy_more, heavy_mono, heavy_up}
use Rattle.dover_model.proofs.bound.GreatestLaws.{greatest-is}
use Rattle.dover_model.proofs.lists.Members.{by_bool}
use Rattle.dover_model.proofs.lists.Tests.{not_true}
use Rattle.dover_model.proofs.valid.JobLimits.{ratio_limits}
use Rattle.stated_jobs.proofs.bait.Heavy.{light_is, heavy_zero}

-- more is heavy against less
pub heavy_grows : (k : Fraction) (v w v2 w2 : ℕ) → v ≤ v2 → w2 ≤ w → is_heavy k v w ≡ true → is_heavy k v2 w2 ≡ true
heavy_grows k v w v2 w2 more less heavy = heavy_up k v v2 w2 more (heavy_mono k v w2 w less heavy)

module _ (k : Fraction) (ratio : IsRatio k) (w : ℕ) (small : w ≤ 1_000_000_000) where
  -- the greatest value that isn't heavy against w
  light_greatest : IsGreatest (λ v. not (is_heavy k v w)) (most_light k w)
  light_greatest = light_is k w ratio small

  -- it isn't heavy
  pub most_light_light : is_heavy k (most_light k w) w ≡ false
  most_light_light = not_true (is_heavy k (most_light k w) w) light_greatest.does

  -- one more is
  pub next_heavy : is_heavy k (suc (most_light k w)) w ≡ true
  next_heavy = by_bool (is_heavy k (suc (most_light k w)) w ≡ true) (is_heavy k (suc (most_light k w)) w)
      (λ heavy. heavy)
      (λ out. absurd (
      let low : suc (most_light k w) ≤ most_light k w =
      light_greatest.greatest (suc (most_light k w)) (rw out (refl)) in omega arith))

  -- the next value is more
  pub next_more : w < suc (most_light k w)
  next_more = heavy_more k (suc (most_light k w)) w next_heavy

module _ (k : Fraction) (ratio : IsRatio k) where
  -- the value of a unit job is at least one
  pub some_value : 1 ≤ unit_value k
  some_value = le-div 1 k.p k.q (ratio_limits ratio).least (omega (arith, (ratio_limits ratio).above_one))

  -- and at most that of the numerator
  little_value : unit_value k ≤ 1_000_000
  little_value = let low : k.p / k.q ≤ k.p = div-le_self k.p k.q in omega (arith, low, (ratio_limits ratio).small_p)

  -- the greatest value against which a unit job is heavy
  unit_greatest : IsGreatest (λ w. is_heavy k (unit_value k) w) (greatest (λ w. is_heavy k (unit_value k) w))
  unit_greatest = greatest-is (λ w. is_heavy k (unit_value k) w)
      (λ m n less heavy. heavy_grows k (unit_value k) n (unit_value k) m (omega arith) less heavy)
      (heavy_zero k (unit_value k) ratio some_value)
      (by_bool (is_heavy k (unit_value k) (2 ^ 80) ≡ false) (is_heavy k (unit_value k) (2 ^ 80))
      (λ heavy. absurd (let above : 2 ^ 80 < unit_value k = heavy_more k (unit_value k) (2 ^ 80) heavy in
      omega (arith, little_value)))
      (λ out. out))

  -- a unit job isn't heavy against a link
  pub unit_light : (w : ℕ) → first_link k ≤ w → is_heavy k (unit_value k) w ≡ false
  unit_light w above = by_bool (is_heavy k (unit_value k) w ≡ false) (is_heavy k (unit_value k) w)
      (λ heavy. absurd (let low : w ≤ greatest (λ x. is_heavy k (unit_value k) x) = unit_greatest.greatest w heavy in
      omega (arith, above)))
      (λ out. out)
