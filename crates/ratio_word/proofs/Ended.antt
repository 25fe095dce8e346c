-- What is put at the end of a text is an answer.
use Rattle.std.proofs.Common.{◌≡◌, ◌+◌, List, ℕ, sym, ap, ◌∙◌, subst, refl, Option, Result, arith, Some, None, is_some}
use Rattle.dover_model.proofs.lists.Tests.{never}
use Rattle.dover_model.specs.Common.{Declaration as Rules}
use Rattle.dover_port.specs.Moves.{Move}
use Rattle.dover_port.specs.declared.status.Status.{Status}
use Rattle.dialogue.specs.Reading.{SaysAt}
use Rattle.dialogue.specs.Taking.{IsFaultAt, IsRefusal}
use Rattle.dialogue.specs.Turns.{Answers}
use Rattle.dialogue.specs.declared.talker.Stop.{Stop}
use Rattle.dialogue.proofs.Refusing.{answers_weaker, refusal_at}
use Rattle.event_feed.specs.declared.faults.Cause.{Cause}
use Rattle.event_feed.specs.declared.faults.Cause.TheVariants as cause
use Rattle.event_feed.specs.declared.faults.FeedFault.{FeedFault}
use Rattle.ratio_word.specs.Account.{TextAccount}
use Rattle.ratio_word.specs.Keeping.{IsEnded, KeepsRules, StandsAt}
use Rattle.ratio_word.specs.Says.{SaysRatio}
use Rattle.ratio_word.specs.Talk.{SaysUnder, ratio_reading}
use Rattle.ratio_word.specs.declared.intake.Declaration.{Declaration}
use Rattle.ratio_word.specs.declared.intake.Intake.{Intake}
use Rattle.ratio_word.specs.declared.intake.Progress.TheVariants as progress

module _ (intake : Intake) (a : TextAccount) where
  -- a fault at a line
  abbrev at : ℕ → Cause → FeedFault
  at n why = record { line = n; cause = why }

  -- a text that is short
  pub short : StandsAt progress.Open intake a → IsFaultAt (at (intake.lines + 1) cause.Short) a.lines a.standing
  short it = subst (IsFaultAt (at (intake.lines + 1) cause.Short) a.lines) (sym it.0)
      (omega (arith, it.1.counted), refl)

  -- one that is faulty
  pub faulty : (why : Cause) → StandsAt (progress.Refused why) intake a
      → IsFaultAt (at intake.lines why) a.lines a.standing
  faulty why it = subst (IsFaultAt (at intake.lines why) a.lines) (sym it) (refl, refl)

  module _ (it : StandsAt progress.Ended intake a) where
    -- what is kept of one that is ended
    pub ended_kept : (d : Declaration) → intake.declared ≡ Some d → IsEnded d a
    ended_kept d is = by_rules a.rules refl (subst (λ o. KeepsRules o a.rules a.jobs) is it.1.rules) where
      by_rules : (o : Option Rules) → a.rules ≡ o → KeepsRules (Some d) o a.jobs → IsEnded d a
      by_rules None none kept = absurd kept
      by_rules (Some rules) some kept = (it.0, (rules, some, kept))

    -- rules were declared
    pub none_ended : intake.declared ≡ None → ⊥
    none_ended none = never (sym (ap (λ (o : Option Declaration). is_some o) none) ∙ it.2)

module _ (a : TextAccount) (old new : Option (List Move)) (after : List ℕ) (r : Result Status Stop) where
  -- the line that refuses it answers it
  pub refused : (fault : FeedFault) → IsFaultAt fault a.lines a.standing
      → Answers (IsRefusal fault) ⊥ old new after r → Answers (ratio_reading.answer a) ⊥ old new after r
  refused fault at it = answers_weaker _ (ratio_reading.answer a) ⊥ ⊥ old new after r
      (refusal_at fault a.lines a.standing (SaysUnder a.rules a.jobs) at) (λ none. none) it

  -- what is said of its jobs does
  pub answered : (d : Declaration) → (by : IsEnded d a) → Answers (SaysRatio by.1.0 a.jobs) ⊥ old new after r
      → Answers (ratio_reading.answer a) ⊥ old new after r
  answered d by it = answers_weaker _ (ratio_reading.answer a) ⊥ ⊥ old new after r (λ status text says.
      subst (λ s. SaysAt a.lines s (SaysUnder a.rules a.jobs) status text) (sym by.0)
      (subst (λ o. SaysUnder o a.jobs status text) (sym by.1.1) says)) (λ none. none) it
