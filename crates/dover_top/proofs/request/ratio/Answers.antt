use Rattle.std.proofs.Common.{◌≡◌, ℕ, ◌<◌, ◌^◌, Option, Some, None, IsNone, IsSome, true, false, refl, arith}
use Rattle.dover_model.specs.Fraction.{Fraction, IsRatio, fraction}
use Rattle.dover_top.proofs.Numbers.{decimal_same}
use Rattle.dover_model.proofs.valid.JobLimits.{ratio_limits, ratio_from}
use Rattle.dover_top.proofs.request.ratio.Goals as goal

pub returns-clause-none : goal.returns-clause-none
returns-clause-none c = λ none k allowed spells_p spells_q.
    let small_p : k.p < 10 ^ 18 = omega (arith, (ratio_limits allowed).small_p) in
    let small_q : k.q < 10 ^ 18 =
    omega (arith, (ratio_limits allowed).small_q) in
    let p : c.in_ok-p.p ≡ k.p =
    decimal_same _ _ _ (omega (arith, c.in_ok-p.ensures.some.2)) small_p c.in_ok-p.ensures.some.0 spells_p in
    let q : c.in_ok-q.q ≡ k.q =
    decimal_same _ _ _ (omega (arith, c.in_ok-q.ensures.some.2)) small_q c.in_ok-q.ensures.some.0 spells_q in
    refused _ none (c.new.ensures.allowed.1 (same_ratio _ _ k p q allowed)) where
      refused : (k : Option Fraction) → IsNone k → IsSome k → ⊥
      refused None none some = absurd (let clash : false ≡ true = some in cc)
      refused (Some k) none some = absurd (let clash : true ≡ false = none in cc)

      same_ratio : (p q : ℕ) (k : Fraction) → p ≡ k.p → q ≡ k.q → IsRatio k → IsRatio (fraction p q)
      same_ratio p q k e f allowed = ratio_from (record {
        least = omega (arith, f, (ratio_limits allowed).least);
        above_one = omega (arith, e, f, (ratio_limits allowed).above_one);
        small_q = omega (arith, f, (ratio_limits allowed).small_q);
        small_p = omega (arith, e, (ratio_limits allowed).small_p);
        factor = refl;
      })
