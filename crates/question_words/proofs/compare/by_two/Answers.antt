use Rattle.std.proofs.Common.{IsSome, subst}
use Rattle.dover_model.proofs.lists.Tests.{never}
use Rattle.question_words.proofs.ByFour.{two_fits}
use Rattle.question_words.proofs.compare.by_two.Goals as goal

pub unreachable-requires : goal.unreachable-requires
unreachable-requires c =
    let fits = two_fits c.args.ratio c.factor-known.ensures.ratio in
    never (subst IsSome c.in_default.is (c.with_factor.ensures.allowed.1 fits))
