use Rattle.std.proofs.Common.{◌≡◌, ℕ, ◌<◌, ◌^◌, [], Option, Some, None, IsNone, IsSome, IsTrue, true, false, ap, arith}
use Rattle.std.proofs.Common.{get_or, length, map, string_bytes}
use Rattle.dover_model.specs.Fraction.{Fraction, IsRatio, with_factor, is_some_factor}
use Rattle.dover_model.specs.declared.factors.Factor.{Factor}
use Rattle.dover_model.proofs.valid.JobLimits.{ratio_limits, ratio_from, factor_limits, factor_from}
use Rattle.dover_top.specs.Words.{factor_words}
use Rattle.dover_top.proofs.Asking.{length_spelled, place_spells}
use Rattle.dover_top.proofs.Numbers.{decimal_same}
use Rattle.dover_top.proofs.request.factored.Goals as goal

-- what is none isn't some
refused : (r : Option Fraction) → IsNone r → IsSome r → ⊥
refused None none some = absurd (let clash : false ≡ true = some in cc)
refused (Some r) none some = absurd (let clash : true ≡ false = none in cc)

-- the ratio with the numbers of a factor
same_factor : (k : Fraction) (b c : ℕ) (f : Factor) → b ≡ f.b → c ≡ f.c → IsRatio k → IsTrue (is_some_factor (Some f))
    → IsRatio (with_factor k b c)
same_factor k b c f e e2 allowed some = ratio_from (record {
  least = (ratio_limits allowed).least;
  above_one = (ratio_limits allowed).above_one;
  small_q = (ratio_limits allowed).small_q;
  small_p = (ratio_limits allowed).small_p;
  factor = factor_from (record { b = b; c = c }) (record {
    least = omega (arith, e2, (factor_limits f some).least);
    more = omega (arith, e, e2, (factor_limits f some).more);
    small_c = omega (arith, e2, (factor_limits f some).small_c);
    small_b = omega (arith, e, (factor_limits f some).small_b);
  });
})

pub returns-in_ok-c-in-len2-clause-none : goal.returns-in_ok-c-in-len2-clause-none
returns-in_ok-c-in-len2-clause-none c = λ none o some spells. by_factor o some none
    (place_spells c.args.words.now 0 _ _ (omega arith) c.b-item.is spells)
    (place_spells c.args.words.now 1 _ _ (omega arith) c.c-item.is spells) (ap length spells) where
      by_factor : (o : Option Factor) → IsTrue (is_some_factor o) → IsNone c.with_factor.result
          → string_bytes c.b-item.result ≡ get_or (factor_words o) 0 []
          → string_bytes c.c-item.result ≡ get_or (factor_words o) 1 []
          → length (map string_bytes c.args.words.now) ≡ length (factor_words o) → ⊥
      by_factor None some none first last long = absurd (omega (arith, long, length_spelled c.args.words.now))
      by_factor (Some f) some none first last long =
          let small_b : f.b < 10 ^ 18 = omega (arith, (factor_limits f some).small_b) in
          let small_c : f.c < 10 ^ 18 = omega (arith, (factor_limits f some).small_c) in
          let b : c.in_ok-b-in-len2.b ≡ f.b = decimal_same _ _ _ (omega (arith, c.in_ok-b-in-len2.ensures.some.2))
          small_b c.in_ok-b-in-len2.ensures.some.0 first in
          let c2 : c.in_ok-c-in-len2.c ≡ f.c = decimal_same _ _ _ (omega (arith, c.in_ok-c-in-len2.ensures.some.2))
          small_c c.in_ok-c-in-len2.ensures.some.0 last in
          refused _ none (c.with_factor.ensures.allowed.1 (same_factor _ _ _ f b c2 c.requires.ratio some))
