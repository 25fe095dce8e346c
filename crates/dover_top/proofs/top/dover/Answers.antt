use Rattle.std.proofs.Common.{◌≡◌, refl, subst}
use Rattle.dialogue.specs.Talk.{CanEnd}
use Rattle.dover_port.specs.declared.status.Status.TheVariants.{Usage}
use Rattle.dover_top.specs.Says.{Says}
use Rattle.dover_top.proofs.Saying.{for_all, keeps_all, asked_none, never_usage}
use Rattle.dover_top.proofs.top.dover.Goals as goal

pub carry_out-requires : goal.carry_out-requires
carry_out-requires g c = (c.args.words.now, c.in-Some.ensures.some)

pub returns-in-Some : goal.returns-in-Some
returns-in-Some g c =
    let all = for_all c.args.words.now c.in-Some.request c.in-Some.ensures.some _ _ _ _ _ c.carry_out.ensures.carries in
    let never = λ (e : c.carry_out.result ≡ Usage). never_usage c.in-Some.request
    (subst (CanEnd (Says c.in-Some.request)) e c.carry_out.ensures.carries.ends) in
    record {
      talks = λ r asks. (all r asks).talks;
      promises = keeps_all c.args.words.now c.in-Some.request c.in-Some.ensures.some _ _ _ _ _
          c.carry_out.ensures.carries;
      ends = λ r asks. (all r asks).ends;
      comparisons = λ r asks. (all r asks).comparisons;
      stated = λ r asks. (all r asks).stated;
      causes = c.carry_out.ensures.causes;
      stops = c.carry_out.ensures.stops;
      usage = ((λ e. absurd (never e)), (λ none. absurd (none c.in-Some.request c.in-Some.ensures.some)));
      idle = λ e. absurd (never e);
    }

pub returns-in-None : goal.returns-in-None
returns-in-None g c = let none = c.in-None.ensures.none refl in record {
  talks = asked_none _ _ none;
  promises = asked_none _ _ none;
  ends = asked_none _ _ none;
  comparisons = asked_none _ _ none;
  stated = asked_none _ _ none;
  causes = (refl, refl);
  stops = λ well. well;
  usage = ((λ _. none), (λ _. refl));
  idle = λ _. refl;
}
