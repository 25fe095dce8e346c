-- The jobs of a feed by the rules of version Four.
use Rattle.std.proofs.Common.{◌≡◌, ◌∙◌, IsTrue, Option, Some, None, refl, sym, ap, arith}
use Rattle.dover_model.specs.Common.{completed_value, Fraction, Instance, IsListable, IsRatio, IsValid, ran}
use Rattle.dover_model.specs.Common.{is_some_factor, with_factor, worth}
use Rattle.dover_model.specs.declared.factors.Factor.{Factor}
use Rattle.dover_model.proofs.runs.Honest.{observed_all, observed_honest}
use Rattle.dover_model.proofs.valid.JobLimits.{ratio_from, ratio_limits}
use Rattle.dover_model.proofs.valid.ValidParts.{valid_from, valid_parts}
use Rattle.question_words.specs.Compare.{by_four, factor_or_two}

-- ---- the factor

-- the ratio with this factor or none
abbrev of_factor : Fraction → Option Factor → Fraction
of_factor k o = record { p = k.p; q = k.q; factor = o }

-- the ratio with the factor, or 2 where there is none
abbrev with_some : Fraction → Option Factor → Fraction
with_some k o = with_factor k (factor_or_two o).b (factor_or_two o).c

-- a ratio with a factor keeps it
pub own_factor : (k : Fraction) (f : Factor) → k.factor ≡ Some f → k ≡ with_some k k.factor
own_factor k f is = ap (of_factor k) is ∙ ap (with_some k) (sym is)

-- one with none has 2
pub factor_two : (k l : Fraction) → k.factor ≡ None → l ≡ with_factor k 2 1 → l ≡ with_some k k.factor
factor_two k l none is = is ∙ ap (with_some k) (sym none)

-- the factor 2 is within the limits
pub two_fits : (k : Fraction) → IsRatio k → IsRatio (with_factor k 2 1)
two_fits k ratio = let limits = ratio_limits ratio in ratio_from (record {
  least = limits.least;
  above_one = limits.above_one;
  small_q = limits.small_q;
  small_p = limits.small_p;
  factor = refl;
})

-- so is one's own, or 2
factor_fits : (o : Option Factor) → IsTrue (is_some_factor o) → IsTrue (is_some_factor (Some (factor_or_two o)))
factor_fits None fits = refl
factor_fits (Some f) fits = fits

-- ---- the jobs

module _ (J : Instance) (valid : IsValid J) (listable : IsListable J) where
  -- they are valid
  pub four_valid : IsValid (by_four J)
  four_valid = let parts = valid_parts valid in let limits = ratio_limits parts.ratio in valid_from (record {
    ratio = ratio_from (record {
      least = limits.least;
      above_one = limits.above_one;
      small_q = limits.small_q;
      small_p = limits.small_p;
      factor = factor_fits J.rules.ratio.factor limits.factor;
    });
    each = parts.each;
    due = omega (arith, listable.due);
    in_order = parts.in_order;
    count = omega (arith, listable.count);
    total = omega (arith, listable.total);
    densities = parts.densities;
  })

  -- what is completed of them is what its schedule is worth
  pub four_worth : worth J (ran (by_four J)) ≡ completed_value (by_four J)
  four_worth = ap (λ (K : Instance). worth K (ran (by_four J))) (sym (observed_all (by_four J) four_valid refl))
      ∙ observed_honest (by_four J) four_valid
