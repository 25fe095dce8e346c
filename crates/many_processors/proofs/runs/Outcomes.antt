-- Where a run ends, with whatever each of its steps carries on.
use Rattle.std.proofs.Common.{◌≡◌, ℕ, suc, zero, ◌≤◌, List, [], ◌∷◌, ◌++◌, refl, sym, ap, ◌∙◌, Bool, true, false}
use Rattle.std.proofs.Common.{◌||◌, filter, fold, append_assoc, append-nil}
use Rattle.std.specs.Prelude.{filter_map}
use Rattle.std.specs.List.{list_any, list_all}
use Rattle.dover_model.specs.declared.events.Event.TheVariants.{Run, Preempt, Take, Complete, Abandon, End, Release}
use Rattle.dover_model.specs.Run.{value_of_end}
use Rattle.dover_model.specs.Common.{Rules, Instance, IsValid, is_done, is_over, value_sum}
use Rattle.dover_model.proofs.lists.Tests.{never}
use Rattle.many_processors.specs.State.{State, tasks_of}
use Rattle.many_processors.specs.Step.{Move, Prints, Waits, Ticks, Seen, all_seen, after, step}
use Rattle.many_processors.specs.Run as many
use Rattle.many_processors.specs.Run.{run_from, is_end, event_of, HasEnd, tick_of, numbers_running}
use Rattle.many_processors.specs.Sound.{Keeps}
use Rattle.many_processors.proofs.steps.Seeing.{each_sees}
use Rattle.many_processors.proofs.steps.Cases as cases
use Rattle.many_processors.proofs.steps.Cases.{StepCase, step_case}
use Rattle.many_processors.proofs.steps.Turns.{step_kept}
use Rattle.many_processors.proofs.runs.EachStep.{acts_go_on}

-- what ticks were given to after a move
abbrev pub ran_after : List (List ℕ) → State → Move → List (List ℕ)
ran_after ran s (Prints q e) = ran
ran_after ran s (Waits n) = ran
ran_after ran s Ticks = ran ++ numbers_running s ∷ []

-- only an End ends a run
end_is : (rules : Rules) (s : State) (all : List Seen) (m : Move) → StepCase true rules s all m → is_end m ≡ true
    → (list_all is_over (tasks_of s.jobs) ≡ true)
    × (m ≡ Prints 0 (End (value_sum (filter is_done (tasks_of s.jobs)))))
end_is rules s all m (cases.Completed q member t served finished) e = never e
end_is rules s all m (cases.Acted q member n acts going decided) e =
    never (sym (acts_go_on q.processor acts.move acts.goes_on) ∙ sym (ap is_end acts.is) ∙ e)
end_is rules s all m (cases.Abandoned q member n acts it going light) e = never (sym (ap is_end it.is) ∙ e)
end_is rules s all m (cases.Ended may over) e = (over, refl)
end_is rules s all m (cases.Rested quiet unended) e = never e

-- what a run comes to
abbrev pub value_printed : List many.Step → ℕ
value_printed steps = fold (λ value e. value_of_end e value) 0 (filter_map (λ step. event_of step.move) steps)

-- a step that isn't End adds nothing
value_later : (s : State) (m : Move) (steps : List many.Step) → is_end m ≡ false
    → value_printed (record { before = s; move = m } ∷ steps) ≡ value_printed steps
value_later s (Prints q (End value)) steps h = never (sym h)
value_later s (Prints q (Release n job)) steps h = refl
value_later s (Prints q (Run at n)) steps h = refl
value_later s (Prints q (Preempt at r n)) steps h = refl
value_later s (Prints q (Take at r n)) steps h = refl
value_later s (Prints q (Complete at n)) steps h = refl
value_later s (Prints q (Abandon at n)) steps h = refl
value_later s (Waits n) steps h = refl
value_later s Ticks steps h = refl

-- what ticks were given to, with what later ones are
given_later : (ran : List (List ℕ)) (s : State) (m : Move) (steps : List many.Step) (all : List (List ℕ))
    → all ≡ ran_after ran s m ++ filter_map tick_of steps
    → all ≡ ran ++ filter_map tick_of (record { before = s; move = m } ∷ steps)
given_later ran s (Prints q e) steps all is = is
given_later ran s (Waits n) steps all is = is
given_later ran s Ticks steps all is = is ∙ append_assoc ran (numbers_running s ∷ []) (filter_map tick_of steps)

-- nothing is given by the end
given_end : (ran : List (List ℕ)) (s : State) (m : Move) → is_end m ≡ true
    → ran ≡ ran ++ filter_map tick_of (record { before = s; move = m } ∷ [])
given_end ran s (Prints q e) last = sym (append-nil ran)
given_end ran s (Waits n) last = never last
given_end ran s Ticks last = never last

-- where a run ends, with what holds of the ticks given so far and the state
pub record Outcome (processors : ℕ) (J : Instance) (Holds : List (List ℕ) → State → Type 0) (start : List (List ℕ))
    (steps : List many.Step) : Type 0 where
  pub last : State
  pub ran : List (List ℕ)
  pub given : ran ≡ start ++ filter_map tick_of steps
  pub is_last : (from : State) → fold (λ s x. x.before) from steps ≡ last
  pub keeps : Keeps processors J last
  pub holds : Holds ran last
  pub over : list_all is_over (tasks_of last.jobs) ≡ true
  pub value : value_printed steps ≡ value_sum (filter is_done (tasks_of last.jobs))

module _ (processors : ℕ) (some : 1 ≤ processors) (J : Instance) (valid : IsValid J)
    (Holds : List (List ℕ) → State → Type 0)
    (onward : (ran : List (List ℕ)) (s : State) → Keeps processors J s → Holds ran s
    → Holds (ran_after ran s (step processors J.rules s)) (after s (step processors J.rules s))) where
  -- a run that ends carries it to its end
  pub outcome : (more : ℕ) (s : State) (ran : List (List ℕ)) → Keeps processors J s
      → Holds ran s → HasEnd (run_from processors J.rules more s)
      → Outcome processors J Holds ran (run_from processors J.rules more s)
  outcome zero s ran keeps holds ends = never ends
  outcome (suc more) s ran keeps holds ends = by_end (step processors J.rules s) the_case
      (step_kept processors J valid some J.rules s keeps)
      (onward ran s keeps holds) (is_end (step processors J.rules s)) refl ends
      (outcome more (after s (step processors J.rules s)) (ran_after ran s (step processors J.rules s))) where
        the_case : StepCase true J.rules s (all_seen processors J.rules.version s) (step processors J.rules s)
        the_case = step_case J.rules s (all_seen processors J.rules.version s) (each_sees processors J.rules.version s)

        by_end : (m : Move) → StepCase true J.rules s (all_seen processors J.rules.version s) m
            → Keeps processors J (after s m) → Holds (ran_after ran s m) (after s m)
            → (b : Bool) → is_end m ≡ b
            → list_any (λ x. is_end x.move) (record { before = s; move = m }
            ∷ elim (is_end m) [ true ↦ [] | false ↦ run_from processors J.rules more (after s m) ]) ≡ true
            → (Keeps processors J (after s m) → Holds (ran_after ran s m) (after s m)
            → HasEnd (run_from processors J.rules more (after s m))
            → Outcome processors J Holds (ran_after ran s m) (run_from processors J.rules more (after s m)))
            → Outcome processors J Holds ran (record { before = s; move = m }
            ∷ elim (is_end m) [ true ↦ [] | false ↦ run_from processors J.rules more (after s m) ])
        by_end m the_case kept held true e ends rest =
            let it = end_is J.rules s (all_seen processors J.rules.version s) m the_case e in
            record {
              last = s;
              ran = ran;
              given = given_end ran s m e ∙ ap (λ b. ran ++ filter_map tick_of (record { before = s; move = m }
                  ∷ elim b [ true ↦ [] | false ↦ run_from processors J.rules more (after s m) ])) (sym e);
              is_last = λ from. ap (λ b. fold (λ t x. x.before) from (record { before = s; move = m }
                  ∷ elim b [ true ↦ [] | false ↦ run_from processors J.rules more (after s m) ])) e;
              keeps = keeps;
              holds = holds;
              over = it.0;
              value = ap (λ b. value_printed (record { before = s; move = m }
                  ∷ elim b [ true ↦ [] | false ↦ run_from processors J.rules more (after s m) ])) e
                  ∙ ap (λ x. value_printed (record { before = s; move = x } ∷ [])) it.1;
            }
        by_end m the_case kept held false e ends rest =
            let out = rest kept held (ap (λ b. b || list_any (λ x. is_end x.move)
            (elim b [ true ↦ [] | false ↦ run_from processors J.rules more (after s m) ])) (sym e) ∙ ends) in
            record {
              last = out.last;
              ran = out.ran;
              given = given_later ran s m (run_from processors J.rules more (after s m)) out.ran out.given
                  ∙ ap (λ b. ran ++ filter_map tick_of (record { before = s; move = m }
                  ∷ elim b [ true ↦ [] | false ↦ run_from processors J.rules more (after s m) ])) (sym e);
              is_last = λ from. ap (λ b. fold (λ t x. x.before) from (record { before = s; move = m }
                  ∷ elim b [ true ↦ [] | false ↦ run_from processors J.rules more (after s m) ])) e
                  ∙ out.is_last s;
              keeps = out.keeps;
              holds = out.holds;
              over = out.over;
              value = ap (λ b. value_printed (record { before = s; move = m }
                  ∷ elim b [ true ↦ [] | false ↦ run_from processors J.rules more (after s m) ])) e
                  ∙ value_later s m (run_from processors J.rules more (after s m)) e ∙ out.value;
            }
