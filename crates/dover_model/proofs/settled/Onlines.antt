-- What is printed up to a tick depends on the jobs known at that tick alone.
use Rattle.std.proofs.Common.{◌≡◌, ℕ, ◌+◌, ◌≤◌, ◌<◌, List, [], ◌∷◌, ◌++◌, length, refl, sym, ap, ◌∙◌, subst, Bool, true}
use Rattle.std.proofs.Common.{false, cond, arith, Option, None, nat_le, MatchBool, filter_map, filter, leb-true}
use Rattle.std.specs.Bool.{then_some}
use Rattle.std.specs.List.{list_all, cons_option}
use Rattle.dover_model.specs.Common.{Event, Task, Rules, Instance, IsValid, with_jobs, State, with_later, opening}
use Rattle.dover_model.specs.Common.{to_come, is_over, is_done, value_sum, Move, Ticks, step, open_step, after, ending}
use Rattle.dover_model.specs.Common.{◌or_else◌, Prints, Step, is_end, event_of, run, waits_for_mark, settled_steps}
use Rattle.dover_model.specs.Common.{AllComeFrom, IsWholeRun, IsSettledRun, printed_up_to, known_at, Each, Keeps, End}
use Rattle.dover_model.specs.Online.{event_up_to}
use Rattle.dover_model.proofs.lists.Members.{all_each, member_front}
use Rattle.dover_model.proofs.steps.Deeds.{over_rests}
use Rattle.dover_model.proofs.steps.Kept.{open_deed, open_kept, step_deed, opening_keeps}
use Rattle.dover_model.proofs.runs.Ending.{run_is_whole, later_clock}
use Rattle.dover_model.proofs.settled.Settling.{at_barrier, settled_is_run}
use Rattle.dover_model.proofs.settled.Prefixes.{no_events, step_open, behind_step, behind_after, behind_keeps}
use Rattle.dover_model.proofs.settled.Prefixes.{open_not_end, come_from, opening_later, later_keeps, over_ticked}
use Rattle.dover_model.proofs.valid.Valid.{valid_front, Split, split_known}
use Rattle.dover_model.proofs.lists.Tests.{never}
use Rattle.dover_model.proofs.valid.ValidParts.{valid_parts}

-- what these steps print up to t
abbrev pub up_to : ℕ → List Step → List Event
up_to t steps = filter_map (event_up_to t) steps

-- what a step prints by its clock and its move
abbrev pub shown : ℕ → ℕ → Move → Option Event
shown t clock m = cond (nat_le clock t) (cond (is_end m) None (event_of m)) None

-- nothing is shown after t
shown_late : (t clock : ℕ) (m : Move) → t < clock → shown t clock m ≡ None
shown_late t clock m late = by_test (nat_le clock t) refl where
  by_test : (b : Bool) → nat_le clock t ≡ b → cond b (cond (is_end m) None (event_of m)) None ≡ None
  by_test true low = absurd (let less : clock ≤ t = leb-true _ _ low in omega arith)
  by_test false high = refl

-- nothing of a run from a later clock is up to t
pub whole_late : (rules : Rules) (t : ℕ) (ys : List Step) (s : State) → t < s.clock → IsWholeRun rules s ys
    → up_to t ys ≡ no_events
whole_late rules t [] s late whole = refl
whole_late rules t (y ∷ ys) s late whole = ap (λ (z : Step). cons_option (event_up_to t z) (up_to t ys)) whole.0
    ∙ ap (λ e. cons_option e (up_to t ys)) (shown_late t s.clock (step rules s) late)
    ∙ by_end (is_end (step rules s)) whole.1
    (whole_late rules t ys (after s (step rules s)) (omega (arith, later_clock s (step rules s)))) where
      by_end : (b : Bool) → MatchBool b (ys ≡ []) (IsWholeRun rules (after s (step rules s)) ys)
          → (IsWholeRun rules (after s (step rules s)) ys → up_to t ys ≡ no_events) → up_to t ys ≡ no_events
      by_end true none more = ap (up_to t) none
      by_end false rest more = more rest

-- End is left aside
shown_end : (t clock : ℕ) (m : Move) → is_end m ≡ true → shown t clock m ≡ None
shown_end t clock m e = ap (λ b. cond (nat_le clock t) (cond b None (event_of m)) None) e
    ∙ by_test (nat_le clock t) where
      by_test : (b : Bool) → cond b (cond true None (event_of m)) None ≡ None
      by_test true = refl
      by_test false = refl

-- silent steps show nothing
silent_up_to : (t : ℕ) (e : Option Event) (late ends : Bool) → e ≡ None → cond late (cond ends None e) None ≡ None
silent_up_to t e true true none = refl
silent_up_to t e true false none = none
silent_up_to t e false ends none = refl

module _ (J : Instance) (valid : IsValid J) (rules : Rules) (mark t : ℕ) where
  -- where all jobs are over, nothing more is shown
  over_shows_none : (xs : List Step) (s : State) → Keeps J s → Each (λ u. is_over u ≡ true) s.tasks
      → IsSettledRun rules mark s xs
      → up_to t xs ≡ no_events
  over_shows_none [] s keeps over run = refl
  over_shows_none (x ∷ xs) s keeps over run =
      let ticks : open_step rules s ≡ Ticks =
      over_rests rules.ratio s Ticks over (open_step rules s) (open_deed J valid s keeps rules) in
      ap (λ (z : Step). cons_option (event_up_to t z) (up_to t xs)) run.0
      ∙ ap (λ e. cons_option e (up_to t xs))
      (silent_up_to t (event_of (open_step rules s)) (nat_le s.clock t) (is_end (open_step rules s))
      (ap event_of ticks))
      ∙ over_shows_none xs (after s (open_step rules s)) (open_kept J valid s keeps rules)
      (subst (λ m. Each (λ u. is_over u ≡ true) (after s m).tasks) (sym ticks) (over_ticked s over)) run.2

module _ (J : Instance) (valid : IsValid J) (K : Instance) (valid_more : IsValid K) (rules : Rules) (t : ℕ)
    (more : List Task)
    (come : AllComeFrom (t + 1) more) where
  -- up to t, a run shows what is settled at t + 1 without the later jobs
  pub same_up_to : (xs ys : List Step) (s : State) → Keeps J s → Keeps K (with_later s more)
      → IsSettledRun rules (t + 1) s xs
      → IsWholeRun rules (with_later s more) ys → up_to t ys ≡ up_to t xs
  same_up_to [] ys s keeps keeps_more run whole =
      let it : (waits_for_mark (open_step rules s) ≡ true) × (t + 1 ≤ s.clock) =
      at_barrier (waits_for_mark (open_step rules s)) (t + 1) s.clock run in
      whole_late rules t ys (with_later s more) (omega (arith, it.1)) whole
  same_up_to (x ∷ xs) [] s keeps keeps_more run whole = absurd whole
  same_up_to (x ∷ xs) (y ∷ ys) s keeps keeps_more run whole = by_over (list_all is_over (s.tasks ++ more)) refl
      (same_up_to xs ys (after s (open_step rules s)) (open_kept J valid s keeps rules)
      (behind_keeps J valid K valid_more rules (t + 1) more come s keeps keeps_more run.1) run.2) where
        by_over : (b : Bool) → list_all is_over (s.tasks ++ more) ≡ b
            → (IsWholeRun rules (with_later (after s (open_step rules s)) more) ys → up_to t ys ≡ up_to t xs)
            → up_to t (y ∷ ys) ≡ up_to t (x ∷ xs)
        by_over true all rest = none_left (is_end (step rules (with_later s more))) refl whole.1 where
          all_over : Each (λ u. is_over u ≡ true) (s.tasks ++ more)
          all_over = all_each is_over (s.tasks ++ more) all

          ends : step rules (with_later s more) ≡ (ending (with_later s more) or_else Ticks)
          ends = over_rests rules.ratio (with_later s more) (ending (with_later s more) or_else Ticks) all_over
              (step rules (with_later s more))
              (step_deed K valid_more (with_later s more) keeps_more rules)

          is_last : is_end (step rules (with_later s more)) ≡ true
          is_last = ap is_end ends
              ∙ ap (λ b. is_end (then_some b
              (Prints (End (value_sum (filter is_done (s.tasks ++ more))))) or_else Ticks)) all

          none_left : (b : Bool) → is_end (step rules (with_later s more)) ≡ b
              → MatchBool b (ys ≡ []) (IsWholeRun rules (after (with_later s more) (step rules (with_later s more))) ys)
              → up_to t (y ∷ ys) ≡ up_to t (x ∷ xs)
          none_left false e onward = never (sym e ∙ is_last)
          none_left true e none = ap (λ (z : Step). cons_option (event_up_to t z) (up_to t ys)) whole.0
              ∙ ap (λ o. cons_option o (up_to t ys)) (shown_end t s.clock (step rules (with_later s more)) e)
              ∙ ap (up_to t) none
              ∙ sym (over_shows_none J valid rules (t + 1) t (x ∷ xs) s keeps
              (λ u m. all_over u (member_front s.tasks more u m)) run)
        by_over false some rest =
            let same_m : step rules (with_later s more) ≡ open_step rules s = step_open rules (with_later s more) some
            ∙ behind_step J valid K valid_more rules (t + 1) more come s keeps keeps_more run.1 in
            let on : is_end (step rules (with_later s more)) ≡ false = ap is_end same_m
            ∙ open_not_end J valid K valid_more rules (t + 1) more come s keeps in
            let onward : IsWholeRun rules (after (with_later s more) (step rules (with_later s more))) ys =
            subst (λ b. MatchBool b (ys ≡ [])
            (IsWholeRun rules (after (with_later s more) (step rules (with_later s more))) ys)) on whole.1 in
            let to : after (with_later s more) (step rules (with_later s more)) ≡ with_later
            (after s (open_step rules s)) more =
            ap (after (with_later s more)) (step_open rules (with_later s more) some)
            ∙ behind_after J valid K valid_more rules (t + 1) more come s keeps keeps_more run.1 in
            ap (λ (z : Step). cons_option (event_up_to t z) (up_to t ys)) whole.0
            ∙ ap (λ m. cons_option (shown t s.clock m) (up_to t ys)) same_m
            ∙ ap (λ es. cons_option (shown t s.clock (open_step rules s)) es)
            (rest (subst (λ (z : State). IsWholeRun rules z ys) to onward))
            ∙ ap (λ (z : Step). cons_option (event_up_to t z) (up_to t xs)) (sym run.0)

-- ---- of instances

-- the instance of the jobs known at t
abbrev pub known_part : ℕ → Instance → Instance
known_part t J = record { rules = J.rules; jobs = known_at t J.jobs }

-- what is printed up to t is what the known jobs settle
module _ (t : ℕ) (J : Instance) (valid : IsValid J) where
  -- the known jobs, and the others
  pub known_split : Split t J.jobs
  known_split = split_known t J.jobs (valid_parts valid).in_order

  -- they are all
  pub split_whole : J ≡ with_jobs (known_part t J) known_split.more
  split_whole = ap (λ jobs. let K : Instance = record { rules = J.rules; jobs = jobs } in K) known_split.whole

  -- as a valid instance
  pub whole_valid : IsValid (with_jobs (known_part t J) known_split.more)
  whole_valid = subst IsValid split_whole valid

  -- the known jobs are a valid instance
  pub known_valid : IsValid (known_part t J)
  known_valid = valid_front (known_part t J) known_split.more whole_valid

  -- what a run shows up to t is what its known jobs settle
  pub up_to_known : printed_up_to t J ≡ up_to t (settled_steps (known_part t J) (t + 1))
  up_to_known = ap (printed_up_to t) split_whole
      ∙ same_up_to (known_part t J) known_valid (with_jobs (known_part t J) known_split.more) whole_valid J.rules t
      (to_come (length (known_at t J.jobs)) known_split.more)
      (come_from (t + 1) (length (known_at t J.jobs)) known_split.more known_split.late)
      (settled_steps (known_part t J) (t + 1)) (run (with_jobs (known_part t J) known_split.more))
      (opening (known_at t J.jobs))
      (opening_keeps (known_part t J))
      (later_keeps (known_part t J) known_split.more (t + 1) whole_valid known_split.late)
      (settled_is_run (known_part t J) (t + 1) known_valid)
      (subst (λ (z : State). IsWholeRun J.rules z (run (with_jobs (known_part t J) known_split.more)))
      (opening_later (known_part t J) known_split.more (t + 1) whole_valid known_split.late)
      (run_is_whole (with_jobs (known_part t J) known_split.more) whole_valid))

-- the printed steps up to t are the same for the same known jobs
pub on_line : (t : ℕ) (J K : Instance) → IsValid J → IsValid K → J.rules ≡ K.rules
    → known_at t J.jobs ≡ known_at t K.jobs
    → printed_up_to t J ≡ printed_up_to t K
on_line t J K valid_J valid_K same_rules same_jobs =
    let same : known_part t J ≡ known_part t K = cc in
    up_to_known t J valid_J ∙ ap (λ part. up_to t (settled_steps part (t + 1))) same ∙ sym (up_to_known t K valid_K)
