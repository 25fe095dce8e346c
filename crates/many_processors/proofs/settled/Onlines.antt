-- What is printed up to a tick depends on the jobs known at that tick alone.
use Rattle.std.proofs.Common.{◌≡◌, ℕ, suc, zero, ◌+◌, ◌≤◌, ◌<◌, List, [], ◌∷◌, ◌++◌, length, refl, sym, ap, ◌∙◌, subst}
use Rattle.std.proofs.Common.{Bool}
use Rattle.std.proofs.Common.{true, false, cond, arith, Option, None, nat_le, ◌||◌, leb-true}
use Rattle.std.specs.Prelude.{filter_map}
use Rattle.std.specs.List.{list_all, list_any, cons_option}
use Rattle.dover_model.specs.declared.events.Event.{Event}
use Rattle.dover_model.specs.JobFacts.{JobFacts}
use Rattle.dover_model.specs.Common.{Rules, Instance, IsValid, with_jobs, is_over, known_at, Each}
use Rattle.dover_model.proofs.lists.Tests.{never}
use Rattle.dover_model.proofs.lists.Members.{all_each, member_front, map_member}
use Rattle.dover_model.proofs.settled.Onlines.{known_part, known_split, split_whole, whole_valid, known_valid}
use Rattle.dover_model.proofs.settled.Settling.{at_barrier}
use Rattle.many_processors.specs.State.{Placed, State, tasks_of, opening}
use Rattle.many_processors.specs.Step.{Move, Prints, Waits, Ticks, all_seen, step, open_step, after}
use Rattle.many_processors.specs.Run as many
use Rattle.many_processors.specs.Run.{run_from, run, enough, is_end, HasEnd, placed_event_of}
use Rattle.many_processors.specs.Sound.{Keeps}
use Rattle.many_processors.specs.Settled.{waits_for_mark, settled_steps, with_later, AllComeFrom, IsSettledRun}
use Rattle.many_processors.specs.Online.{event_up_to, printed_up_to}
use Rattle.many_processors.proofs.steps.Seeing.{each_sees}
use Rattle.many_processors.proofs.steps.Cases.{step_case}
use Rattle.many_processors.proofs.steps.Turns.{open_kept, opening_kept}
use Rattle.many_processors.proofs.runs.EachStep.{open_goes_on}
use Rattle.many_processors.proofs.runs.RunEnds.{run_ends}
use Rattle.many_processors.proofs.settled.Settling.{settled_is_run}
use Rattle.many_processors.proofs.settled.Prefixes.{over_ends, over_open, open_here, step_open, behind_step}
use Rattle.many_processors.proofs.settled.Prefixes.{behind_after}
use Rattle.many_processors.proofs.settled.Prefixes.{behind_keeps, from_move, come_behind, come_from, opening_later}
use Rattle.many_processors.proofs.settled.Prefixes.{later_keeps}

-- what these steps print up to t
abbrev pub up_to : ℕ → List many.Step → List (ℕ × Event)
up_to t steps = filter_map (event_up_to t) steps

-- what a step prints by its clock and its move
abbrev shown_at : ℕ → ℕ → Move → Option (ℕ × Event)
shown_at t clock m = cond (nat_le clock t) (cond (is_end m) None (placed_event_of m)) None

-- nothing after t
shown_late : (t clock : ℕ) (m : Move) → t < clock → shown_at t clock m ≡ None
shown_late t clock m late = by_test (nat_le clock t) refl where
  by_test : (b : Bool) → nat_le clock t ≡ b → cond b (cond (is_end m) None (placed_event_of m)) None ≡ None
  by_test true low = absurd (let less : clock ≤ t = leb-true _ _ low in omega (arith, less, late))
  by_test false high = refl

-- nothing of what prints nothing, or is End
shown_none : (t clock : ℕ) (m : Move) → (is_end m ≡ false → placed_event_of m ≡ None) → shown_at t clock m ≡ None
shown_none t clock m none = by_tests (nat_le clock t) (is_end m) refl where
  by_tests : (b c : Bool) → is_end m ≡ c → cond b (cond c None (placed_event_of m)) None ≡ None
  by_tests false c e = refl
  by_tests true true e = refl
  by_tests true false e = none e

-- the clock doesn't go back
clock_grows : (s : State) (m : Move) → s.clock ≤ (after s m).clock
clock_grows s (Prints q e) = omega arith
clock_grows s (Waits n) = omega arith
clock_grows s Ticks = omega arith

-- nothing of a run from a later clock is up to t
pub run_late : (processors : ℕ) (rules : Rules) (t fuel : ℕ) (s : State) → t < s.clock
    → up_to t (run_from processors rules fuel s) ≡ []
run_late processors rules t zero s late = refl
run_late processors rules t (suc fuel) s late =
    ap (λ o. cons_option o (up_to t (elim (is_end (step processors rules s)) [
      | true ↦ []
      | false ↦ run_from processors rules fuel (after s (step processors rules s))
    ]))) (shown_late t s.clock (step processors rules s) late)
    ∙ by_end (is_end (step processors rules s))
    (run_late processors rules t fuel (after s (step processors rules s))
    (omega (arith, late, clock_grows s (step processors rules s)))) where
      by_end : (b : Bool)
          → up_to t (run_from processors rules fuel (after s (step processors rules s))) ≡ []
          → up_to t (elim b [
            | true ↦ []
            | false ↦ run_from processors rules fuel (after s (step processors rules s))
          ]) ≡ []
      by_end true rest = refl
      by_end false rest = rest

module _ (processors : ℕ) (some : 1 ≤ processors) (J : Instance) (valid : IsValid J) (rules : Rules) (mark t : ℕ) where
  -- where all jobs are over, nothing more is shown
  over_shows_none : (xs : List many.Step) (s : State) → Keeps processors J s → Each (λ p. is_over p.task ≡ true) s.jobs
      → IsSettledRun processors rules mark s xs → up_to t xs ≡ []
  over_shows_none [] s keeps over run = refl
  over_shows_none (x ∷ xs) s keeps over run =
      let it = over_open processors some J valid rules mark s keeps over in
      ap (λ (z : many.Step). cons_option (event_up_to t z) (up_to t xs)) run.0
      ∙ ap (λ o. cons_option o (up_to t xs)) (shown_none t s.clock (open_step processors rules s)
      (λ _. ap placed_event_of it.0))
      ∙ over_shows_none xs (after s (open_step processors rules s)) (open_kept processors J valid some rules s keeps)
      it.1 run.2

module _ (processors : ℕ) (some : 1 ≤ processors) (J : Instance) (valid : IsValid J) (K : Instance)
    (valid_more : IsValid K) (rules : Rules) (t : ℕ) (more : List Placed) (come : AllComeFrom (t + 1) more) where
  -- up to t, a run shows what is settled at t + 1 without the later jobs
  same_up_to : (xs : List many.Step) (s : State) → Keeps processors J s → Keeps processors K (with_later s more)
      → IsSettledRun processors rules (t + 1) s xs → (fuel : ℕ)
      → HasEnd (run_from processors rules fuel (with_later s more))
      → up_to t (run_from processors rules fuel (with_later s more)) ≡ up_to t xs
  same_up_to [] s keeps keeps_more run fuel ends =
      let it = at_barrier (waits_for_mark (open_step processors rules s)) (t + 1) s.clock run in
      run_late processors rules t fuel (with_later s more) (omega (arith, it.1))
  same_up_to (x ∷ xs) s keeps keeps_more run zero ends = never ends
  same_up_to (x ∷ xs) s keeps keeps_more run (suc fuel) ends =
      by_over (list_all is_over (tasks_of (s.jobs ++ more))) refl
      (same_up_to xs (after s (open_step processors rules s)) (open_kept processors J valid some rules s keeps)
      (behind_keeps processors some J valid K valid_more rules (t + 1) more come s keeps keeps_more run.1) run.2 fuel)
    where
      open_m : Move
      open_m = open_step processors rules s

      z : State
      z = with_later s more

      by_end : (b : Bool) → is_end open_m ≡ b → b ≡ false
          → (HasEnd (run_from processors rules fuel (with_later (after s open_m) more))
          → up_to t (run_from processors rules fuel (with_later (after s open_m) more)) ≡ up_to t xs)
          → list_any (λ y. is_end y.move) (record { before = z; move = open_m }
          ∷ elim b [ true ↦ [] | false ↦ run_from processors rules fuel (after z open_m) ]) ≡ true
          → up_to t (record { before = z; move = open_m }
          ∷ elim b [ true ↦ [] | false ↦ run_from processors rules fuel (after z open_m) ]) ≡ up_to t (x ∷ xs)
      by_end true e on rest ends = never (sym on)
      by_end false e on rest ends =
          let to : after z open_m ≡ with_later (after s open_m) more =
          behind_after processors some J valid K valid_more rules (t + 1) more come s keeps keeps_more run.1 in
          let onward : HasEnd (run_from processors rules fuel (after z open_m)) =
          ap (λ b. b || list_any (λ y. is_end y.move) (run_from processors rules fuel (after z open_m))) (sym e)
          ∙ ends in
          ap (λ es. cons_option (shown_at t s.clock open_m) es)
          (ap (λ (u : State). up_to t (run_from processors rules fuel u)) to
          ∙ rest (subst (λ (u : State). HasEnd (run_from processors rules fuel u)) to onward))
          ∙ ap (λ (y : many.Step). cons_option (event_up_to t y) (up_to t xs)) (sym run.0)

      by_over : (b : Bool) → list_all is_over (tasks_of (s.jobs ++ more)) ≡ b
          → (HasEnd (run_from processors rules fuel (with_later (after s open_m) more))
          → up_to t (run_from processors rules fuel (with_later (after s open_m) more)) ≡ up_to t xs)
          → up_to t (run_from processors rules (suc fuel) z) ≡ up_to t (x ∷ xs)
      by_over true over rest =
          none_left (step processors rules z) (is_end (step processors rules z)) refl
          (over_ends processors K valid_more some rules z keeps_more (step processors rules z) each_over over
          (step_case rules z (all_seen processors rules.version z) (each_sees processors rules.version z)))
          ∙ sym (over_shows_none processors some J valid rules (t + 1) t (x ∷ xs) s keeps
          (λ p member. each_over p (member_front s.jobs more p member)) run) where
            each_over : Each (λ p. is_over p.task ≡ true) (s.jobs ++ more)
            each_over p member = all_each is_over (tasks_of (s.jobs ++ more)) over p.task
                (map_member (λ (u : Placed). u.task) (s.jobs ++ more) p member)

            none_left : (m : Move) (b : Bool) → is_end m ≡ b → is_end m ≡ true
                → up_to t (record { before = z; move = m }
                ∷ elim b [ true ↦ [] | false ↦ run_from processors rules fuel (after z m) ]) ≡ []
            none_left m false e last = never (sym e ∙ last)
            none_left m true e last = ap (λ o. cons_option o [])
                (shown_none t s.clock m (λ goes. never (sym goes ∙ last)))
      by_over false unended rest =
          subst (λ m. list_any (λ y. is_end y.move) (from_move processors some J valid K valid_more rules (t + 1) more
          come fuel z m) ≡ true
          → up_to t (from_move processors some J valid K valid_more rules (t + 1) more come fuel z m)
          ≡ up_to t (x ∷ xs))
          (sym (step_open processors rules z unended
          ∙ behind_step processors some J valid K valid_more rules (t + 1) more come s keeps keeps_more run.1))
          (by_end (is_end open_m) refl (open_goes_on open_m (open_here processors some J valid rules (t + 1) s)) rest)
          ends

-- ---- of instances

-- what a run shows up to t is what its known jobs settle
module _ (processors : ℕ) (some : 1 ≤ processors) (t : ℕ) (J : Instance) (valid : IsValid J) where
  up_to_known : printed_up_to processors t J ≡ up_to t (settled_steps processors (known_part t J) (t + 1))
  up_to_known = ap (printed_up_to processors t) (split_whole t J valid)
      ∙ ap (λ (z : State). up_to t (run_from processors J.rules (enough (known.jobs ++ more)) z))
      (opening_later processors some known more (t + 1) (whole_valid t J valid) late)
      ∙ same_up_to processors some known (known_valid t J valid) (with_jobs known more) (whole_valid t J valid)
      J.rules t
      (come_behind (length known.jobs) more) (come_from (t + 1) (length known.jobs) more late)
      (settled_steps processors known (t + 1)) (opening known.jobs) (opening_kept processors known)
      (later_keeps processors some known more (t + 1) (whole_valid t J valid) late)
      (settled_is_run processors known (known_valid t J valid) some (t + 1)) (enough (known.jobs ++ more))
      (subst (λ (z : State). HasEnd (run_from processors J.rules (enough (known.jobs ++ more)) z))
      (opening_later processors some known more (t + 1) (whole_valid t J valid) late)
      (run_ends processors (with_jobs known more) (whole_valid t J valid) some)) where
        known : Instance
        known = known_part t J

        more : List JobFacts
        more = (known_split t J valid).more

        late : Each (λ j. t + 1 ≤ j.release) more
        late = (known_split t J valid).late

-- the printed steps up to t are the same for the same known jobs
pub on_line : (processors t : ℕ) → 1 ≤ processors → (J K : Instance) → IsValid J → IsValid K → J.rules ≡ K.rules
    → known_at t J.jobs ≡ known_at t K.jobs → printed_up_to processors t J ≡ printed_up_to processors t K
on_line processors t some J K valid_J valid_K same_rules same_jobs =
    let same : known_part t J ≡ known_part t K = cc in
    up_to_known processors some t J valid_J ∙ ap (λ part. up_to t (settled_steps processors part (t + 1))) same
    ∙ sym (up_to_known processors some t K valid_K)
