use Rattle.std.proofs.Common.{◌++◌, ◌∷◌, [], length, refl, ap, arith, subst}
use Rattle.dover_model.specs.Common.{last_tick_in}
use Rattle.ratio_word.specs.Keeping.{KeepsDeclared}
use Rattle.ratio_word.proofs.Offering.{fine}
use Rattle.ratio_word.proofs.intake.Declaration.take.Goals as goal

pub returns : goal.returns
returns c = λ rules jobs keeps. (
  fine rules.version (length jobs) _ (c.in-Some.ensures.allowed.0 refl)
      (omega (arith, ap (λ r. last_tick_in r.version) keeps.rules_are)) (omega (arith, keeps.count)),
  subst (λ j. KeepsDeclared c.keep.new.self rules (jobs ++ j ∷ [])) c.in-Some.ensures.facts
      (c.keep.ensures rules jobs keeps),
)
