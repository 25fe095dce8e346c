use Rattle.std.proofs.Common.{◌∙◌, sym}
use Rattle.question_words.proofs.ByFour.{own_factor, factor_two}
use Rattle.question_words.proofs.compare.with_some_factor.Goals as goal

pub returns-in-Some : goal.returns-in-Some
returns-in-Some c = own_factor c.args.ratio _ (sym c.factor.ensures.is ∙ c.in-Some.is)

pub returns-in-None : goal.returns-in-None
returns-in-None c = factor_two c.args.ratio c.by_two.result (sym c.factor.ensures.is ∙ c.in-None.is) c.by_two.ensures
