-- What the word says of a schedule: its laws, and what is put at the end.
use Rattle.std.proofs.Common.{◌≡◌, ◌<◌, ◌^◌, ◌-◌, ℕ, List, [], length, refl, sym, ap, ◌∙◌, subst, arith, Bool}
use Rattle.std.proofs.Common.{true, Option, Ok, Err}
use Rattle.dover_port.specs.Moves.{Move, Passes, CutsShort}
use Rattle.dover_port.specs.declared.status.Status.{Status}
use Rattle.dover_port.specs.declared.status.Status.TheVariants.{Done}
use Rattle.dialogue.specs.Talk.{IsSteady, IsFinal, IsOver}
use Rattle.dialogue.specs.Turns.{AnswersBy}
use Rattle.dialogue.specs.declared.talker.Stop.{Stop}
use Rattle.dialogue.specs.declared.talker.Stop.TheVariants.{NoMemory, Unwritten}
use Rattle.schedule_judge.specs.Account.{account, is_open, goes_on}
use Rattle.schedule_judge.specs.Keeping.{Reads, IsClosed}
use Rattle.schedule_judge.specs.declared.intake.Standing.{Standing}
use Rattle.schedule_judge.specs.declared.intake.Standing.TheVariants.{Open, Ended, Wrong, TooMany}
use Rattle.schedule_judge.specs.declared.reader.Closed.{Closed}
use Rattle.schedule_judge.specs.declared.reader.ScheduleReader.{ScheduleReader}
use Rattle.schedule_judge.proofs.Accounts.{closed_account, open_bytes}
use Rattle.trace_words.specs.report.Talking.{Puts}
use Rattle.trace_words.specs.schedule.Talk.{IsDrawn, stopped_text, IsSaidBy, status_of, IsSaid, schedule_talk}
use Rattle.trace_words.specs.declared.schedule.form.ScheduleForm.{ScheduleForm}

-- ---- the laws

-- the laws of the talk
pub steady : (form : ScheduleForm) → IsSteady (schedule_talk form)
steady form = record {
  opens = refl;
  nothing = refl;
  grows = λ x y. ([], refl);
  stays = λ x y over. ap is_open (closed_account x y over) ∙ over;
  answered = λ x y status text over it. subst (λ a. IsSaid form a status text) (sym (closed_account x y over)) it;
  lacking = λ x y it. it;
}

-- a text that goes on has few bytes
pub few : (reader : ScheduleReader) (x : List ℕ) → Reads reader x → is_open (account x) ≡ true → length x < 2 ^ 64 - 1
few reader x reads on = let short = (reads.begun on).short in let bytes = open_bytes x on short in omega (arith, bytes)

-- ---- what is put at the end

-- the status of an answer is final
pub is_final : (s : Standing) → IsFinal (status_of s)
is_final Open = tt
is_final Ended = tt
is_final (Wrong c) = tt
is_final TooMany = tt

module _ (form : ScheduleForm) (x : List ℕ) (closed : Closed) (it : IsClosed closed (account x)) where
  -- the report is said of a schedule that has ended
  said_ended : closed.standing ≡ Ended → (said : List ℕ) → IsDrawn form closed.steps.items said
      → IsSaid form (account x) Done said
  said_ended ended said is = let at : (account x).standing ≡ Ended = sym it.standing ∙ ended in record {
    status_is = ap status_of (sym at);
    text_is = subst (λ s. IsSaidBy form (account x) s said) (sym at) (subst (λ es. IsDrawn form es said) it.steps is);
  }

  -- the report was put
  pub drawn : (ended : Bool) → closed.standing ≡ Ended → (a b : Option (List Move)) (q : List ℕ)
      → (y : Unit {0}) → Puts (Ok y) a b q (IsDrawn form closed.steps.items)
      → AnswersBy (schedule_talk form) x ended a b q (Ok Done)
  drawn ended over a b q y put = (tt, (put.0, said_ended over put.0 put.1, put.2))

  -- it wasn't
  pub not_drawn : (ended : Bool) → closed.standing ≡ Ended → IsOver (schedule_talk form) x ended
      → (a b : Option (List Move)) (q : List ℕ) (stop : Stop)
      → Puts {T = Unit {0}} (Err stop) a b q (IsDrawn form closed.steps.items)
      → AnswersBy (schedule_talk form) x ended a b q (Err stop)
  not_drawn ended over talk a b q NoMemory kept = (sym talk ∙ ap goes_on (sym it.standing ∙ over), kept)
  not_drawn ended over talk a b q Unwritten cut = (Done, cut.0, said_ended over cut.0 cut.1, cut.2)

  -- another text is said to be so
  said_stopped : (s : Standing) → closed.standing ≡ s → (s ≡ Ended → ⊥)
      → IsSaid form (account x) (status_of s) (stopped_text closed.lines s)
  said_stopped s is going = record {
    status_is = ap status_of at;
    text_is = subst (λ t. IsSaidBy form (account x) t (stopped_text closed.lines s)) at
        (same s going (ap (λ n. stopped_text n s) it.lines));
  } where
    at : s ≡ (account x).standing
    at = sym is ∙ it.standing

    same : (t : Standing) → (t ≡ Ended → ⊥) → {said : List ℕ} → said ≡ stopped_text (account x).lines t
        → IsSaidBy form (account x) t said
    same Open other is = is
    same Ended other is = absurd (other refl)
    same (Wrong c) other is = is
    same TooMany other is = is

  -- that was put
  pub stopped : (ended : Bool) (s : Standing) (status : Status) → status ≡ status_of s → closed.standing ≡ s
      → (s ≡ Ended → ⊥) → (a b : Option (List Move)) (q : List ℕ) → Passes a b [] q (stopped_text closed.lines s)
      → AnswersBy (schedule_talk form) x ended a b q (Ok status)
  stopped ended s status same is other a b q put =
      subst (λ t. AnswersBy (schedule_talk form) x ended a b q (Ok t)) (sym same)
      (is_final s, (stopped_text closed.lines s, said_stopped s is other, put))

  -- or a front of it
  pub cut_short : (ended : Bool) (s : Standing) → closed.standing ≡ s → (s ≡ Ended → ⊥) → (a b : Option (List Move))
      (q : List ℕ) → CutsShort a b [] (stopped_text closed.lines s)
      → AnswersBy (schedule_talk form) x ended a b q (Err Unwritten)
  cut_short ended s is other a b q cut = (status_of s, stopped_text closed.lines s, said_stopped s is other, cut)

-- the same where the form that was asked for is this one
module _ (f form : ScheduleForm) (same : f ≡ form) (x : List ℕ) (closed : Closed) (it : IsClosed closed (account x))
  where
    pub drawn_so : (ended : Bool) → closed.standing ≡ Ended → (a b : Option (List Move)) (q : List ℕ)
        → (y : Unit {0}) → Puts (Ok y) a b q (IsDrawn f closed.steps.items)
        → AnswersBy (schedule_talk form) x ended a b q (Ok Done)
    drawn_so ended over a b q y put = drawn form x closed it ended over a b q y
        (subst (λ g. Puts (Ok y) a b q (IsDrawn g closed.steps.items)) same put)

    pub not_drawn_so : (ended : Bool) → closed.standing ≡ Ended → is_open (account x) ≡ ended
        → (a b : Option (List Move)) (q : List ℕ) (stop : Stop)
        → Puts {T = Unit {0}} (Err stop) a b q (IsDrawn f closed.steps.items)
        → AnswersBy (schedule_talk form) x ended a b q (Err stop)
    not_drawn_so ended over talk a b q stop put = not_drawn form x closed it ended over talk a b q stop
        (subst (λ g. Puts {T = Unit {0}} (Err stop) a b q (IsDrawn g closed.steps.items)) same put)
