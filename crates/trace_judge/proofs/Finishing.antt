-- The end of a trace.
use Rattle.std.proofs.Common.{◌≡◌, ℕ, List, ◌∷◌, ap, ◌∙◌, subst, ◌++◌, map, sym, [], MatchBool, fold}
use Rattle.std.specs.List.{cons_option}
use Rattle.std.proofs.lemmas.List.{map-append}
use Rattle.std.proofs.lemmas.List.Sums.{fold-append}
use Rattle.dover_model.specs.declared.events.Event.TheVariants.{End}
use Rattle.dover_model.specs.Common.{Rules, Instance, IsValid, State, Prints, step, open_step, after, Step, is_end}
use Rattle.dover_model.specs.Common.{event_of, printed_of, printed, value_of_end, completed_value, Keeps, IsWholeRun}
use Rattle.dover_model.specs.Common.{Idles, PrintsNext, Session, instance_of, header, text_of, Printed, text_of_line}
use Rattle.dover_model.specs.Common.{places_of, lines_among, texts_among, trace_lines}
use Rattle.dover_model.proofs.steps.Kept.{open_kept}
use Rattle.dover_model.proofs.settled.Prefixes.{step_open}
use Rattle.dover_model.proofs.settled.Leading.{not_end}
use Rattle.dover_model.proofs.sessions.PutIn.{put_in-more_steps}
use Rattle.trace_judge.specs.Reading.{Sees}
use Rattle.trace_judge.proofs.Seeing.{sees_rest, sees_keeps}
use Rattle.dover_model.proofs.sessions.SessionParts.{session_jobs}

module _ (J : Instance) (valid : IsValid J) (rules : Rules) (value : ℕ) where
  -- where End is printed next, nothing else is
  prints_last : (xs ys : List Step) (s z : State) → Keeps J s → Idles rules s xs z → step rules z ≡ Prints (End value)
      → IsWholeRun rules s ys
      → printed_of ys ≡ End value ∷ []
  prints_last xs [] s z keeps idles prints whole = absurd whole
  prints_last [] (y ∷ ys) s z keeps idles prints whole =
      let here : step rules s ≡ Prints (End value) = ap (step rules) idles ∙ prints in
      let none : ys ≡ [] = subst (λ b. MatchBool b (ys ≡ []) (IsWholeRun rules (after s (step rules s)) ys))
      (ap is_end here) whole.1 in
      ap (λ (v : Step). cons_option (event_of v.move) (printed_of ys)) whole.0
      ∙ ap (λ m. cons_option (event_of m) (printed_of ys)) here
      ∙ ap (λ us. End value ∷ printed_of us) none
  prints_last (x ∷ xs) (y ∷ ys) s z keeps idles prints whole =
      let same : step rules s ≡ open_step rules s = step_open rules s idles.2 in
      let on : IsWholeRun rules (after s (step rules s)) ys =
      subst (λ b. MatchBool b (ys ≡ []) (IsWholeRun rules (after s (step rules s)) ys))
      (ap is_end same ∙ not_end J valid rules s keeps) whole.1 in
      ap (λ (v : Step). cons_option (event_of v.move) (printed_of ys)) whole.0
      ∙ ap (λ m. cons_option (event_of m) (printed_of ys)) same
      ∙ ap (λ o. cons_option o (printed_of ys)) idles.1
      ∙ prints_last xs ys (after s (open_step rules s)) z (open_kept J valid s keeps rules) idles.3 prints
      (subst (λ m. IsWholeRun rules (after s m) ys) same on)

module _ (ls : List (List ℕ)) (S : Session) (floor : ℕ) (z : State) (sees : Sees ls S floor z) (value : ℕ) (y : State)
    (next : PrintsNext (instance_of S).rules z (End value) y) where
  -- the run prints what it has printed, and End
  pub ended_run : printed (instance_of S) ≡ printed_of sees.steps ++ End value ∷ []
  ended_run = let it : (ys : List Step) × IsWholeRun (instance_of S).rules z ys
      × (printed (instance_of S) ≡ printed_of sees.steps ++ printed_of ys) =
      sees_rest ls S floor z sees in
      it.2 ∙ ap (λ es. printed_of sees.steps ++ es)
      (prints_last (instance_of S) (session_jobs sees.valid) (instance_of S).rules value next.steps it.0 z y
      (sees_keeps ls S floor z sees) next.idles next.prints it.1)

  -- with its text the trace is whole
  pub ended_trace : ls ++ text_of (End value) ∷ [] ≡ trace_lines S
  ended_trace = ap (λ xs. xs ++ text_of (End value) ∷ []) sees.lines
      ∙ sym (ap (λ xs. header S.rules ∷ xs)
      (map-append text_of_line (lines_among S (printed_of sees.steps)) (Printed (End value) ∷ [])))
      ∙ ap (λ xs. header S.rules ∷ map text_of_line xs)
      (sym (put_in-more_steps (places_of S) 0 (printed_of sees.steps) (End value ∷ []) sees.within))
      ∙ ap (texts_among S) (sym ended_run)

  -- the value is that of the run
  pub ended_value : completed_value (instance_of S) ≡ value
  ended_value = ap (fold (λ v e. value_of_end e v) 0) ended_run
      ∙ fold-append (λ v e. value_of_end e v) 0 (printed_of sees.steps) (End value ∷ [])
