use Rattle.std.proofs.Common.{ap}
use Rattle.dover_model.specs.Common.{Fraction}
use Rattle.admission.proofs.Spread.{is_ratio_of, least_of, none_kept}
use Rattle.admission.proofs.kept_ratio.least_kept.Goals as goal

pub least_ratio-requires-clause-some : goal.least_ratio-requires-clause-some
least_ratio-requires-clause-some c = (c.spread-top.ensures c.requires.0 c.requires.1 c.requires.2).some

pub least_ratio-requires-clause-size : goal.least_ratio-requires-clause-size
least_ratio-requires-clause-size c = (c.spread-top.ensures c.requires.0 c.requires.1 c.requires.2).size

pub returns-in_err-pair-clause-none : goal.returns-in_err-pair-clause-none
returns-in_err-pair-clause-none c = λ k jobs has _.
    none_kept jobs _ _ (c.spread-top.ensures k jobs has) c.in_err-pair.ensures

pub with_numbers-requires : goal.with_numbers-requires
with_numbers-requires c = is_ratio_of c.requires.1 _ _ (c.spread-top.ensures c.requires.0 c.requires.1 c.requires.2)
    c.in_ok-pair.pair c.in_ok-pair.ensures

pub returns-clause-found : goal.returns-clause-found
returns-clause-found c = λ k jobs has. let is = c.with_numbers.ensures.is in
    least_of jobs _ _ (c.spread-top.ensures k jobs has) c.in_ok-pair.pair c.in_ok-pair.ensures
    c.with_numbers.result c.args.other.now.factor c.with_numbers.ensures.ratio
    (ap (λ (r : Fraction). r.p) is) (ap (λ (r : Fraction). r.q) is)
    (ap (λ (r : Fraction). r.factor) is)
