use Rattle.std.proofs.Common.{◌≤◌, ◌++◌, ◌∷◌, [], length, sym, ap, ◌∙◌, subst, arith, IsTrue}
use Rattle.dover_model.specs.Fraction.{is_some_factor}
use Rattle.dover_model.proofs.valid.JobLimits.{FactorLimits, factor_limits, ratio_limits}
use Rattle.line_text.specs.Writing.{numbers_behind}
use Rattle.snapshot.proofs.Written.{counts_fit}
use Rattle.snapshot.proofs.writing.put_counts.Goals as goal

pub returns-in-Some-clause-fits : goal.returns-in-Some-clause-fits
returns-in-Some-clause-fits c =
    let limits : FactorLimits c.in-Some.factor = factor_limits c.in-Some.factor
    (subst (λ o. IsTrue (is_some_factor o)) (sym c.factor.ensures.is ∙ c.in-Some.is)
    (ratio_limits c.factor.ensures.ratio).factor) in
    let small_b : c.from-b.result ≤ 1_000_000 = omega (arith, c.from-b.ensures, limits.small_b) in
    let small_c : c.from-c.result ≤ 1_000 = omega (arith, c.from-c.ensures, limits.small_c) in
    subst (λ line. length line ≤ 61)
    (sym (c.put_numbers-in-Some.ensures.is
    ∙ ap (λ t. numbers_behind (c.args.lines ∷ c.args.mark ∷ c.args.jobs ∷ c.from-b.result ∷ c.from-c.result ∷ []) ++ t)
    c.requires.empty))
    (counts_fit c.args.lines c.args.mark c.args.jobs c.from-b.result c.from-c.result c.requires.lines c.requires.mark
    c.requires.jobs small_b small_c)
