-- The run of the rules is on-line as a duel asks: its schedule up to a tick depends on the jobs known by then alone.
use Rattle.std.proofs.Common.{◌≡◌, ℕ, zero, suc, ◌+◌, ◌≤◌, List, [], ◌∷◌, ◌++◌, length, refl, sym, ap, ◌∙◌, inl, inr}
use Rattle.std.proofs.Common.{subst, Bool, true, false, cond, arith, Some, None}
use Rattle.std.specs.Prelude.{Option, slice_get}
use Rattle.std.specs.Bool.{MatchBool, then_some}
use Rattle.std.specs.List.{list_all, filter_map, cons_option, filter, find}
use Rattle.dover_model.specs.declared.events.Task.{Task}
use Rattle.dover_model.specs.declared.events.Event.TheVariants.{End}
use Rattle.dover_model.specs.declared.events.Version.{Version}
use Rattle.dover_model.specs.declared.events.Role.{Role}
use Rattle.dover_model.specs.declared.events.Role.TheVariants.{Coming, Running, Done, Gone}
use Rattle.dover_model.specs.Common.{Fraction, Rules, Instance, IsValid, with_jobs, jobs_under, State, with_later}
use Rattle.dover_model.specs.Common.{opening, to_come, is_over, is_done, is_running, value_sum, Move, Ticks, Waits}
use Rattle.dover_model.specs.Common.{Prints, step, open_step, after, ending, ◌or_else◌, Step, is_end, run, ran, tick_of}
use Rattle.dover_model.specs.Common.{waits_for_mark, settled_steps, AllComeFrom, IsWholeRun, IsSettledRun, known_at}
use Rattle.dover_model.specs.Common.{Each, Keeps}
use Rattle.dover_model.proofs.lists.Members.{all_each, member_front}
use Rattle.dover_model.proofs.steps.Deeds.{over_rests}
use Rattle.dover_model.proofs.steps.Kept.{open_deed, open_kept, step_deed, opening_keeps}
use Rattle.dover_model.proofs.runs.Ending.{run_is_whole}
use Rattle.dover_model.proofs.settled.Settling.{at_barrier, settled_is_run}
use Rattle.dover_model.proofs.settled.Prefixes.{step_open, behind_step, behind_after, behind_keeps, open_not_end}
use Rattle.dover_model.proofs.settled.Prefixes.{come_from, opening_later, later_keeps, over_ticked}
use Rattle.dover_model.proofs.settled.Onlines.{known_part, known_split, split_whole, whole_valid, known_valid}
use Rattle.dover_model.proofs.lists.Tests.{never}
use Rattle.dover_model.proofs.valid.Limiting.{jobs_most}
use Rattle.stated_jobs.specs.duel.Game.{IsOnline, AreValid}
use Rattle.stated_jobs.proofs.duel.Duel.{valid_known}
use Rattle.dover_model.proofs.valid.ValidParts.{valid_parts}

-- the schedule of these steps
abbrev places : List Step → List ℕ
places steps = filter_map tick_of steps

-- the two schedules name the same jobs in the ticks from a clock up to t
abbrev SameUpTo : (t clock : ℕ) → (ys xs : List ℕ) → Type 0
SameUpTo t clock ys xs = (i n : ℕ) → clock + i ≤ t → (n ≡ 4_000_000_000 → ⊥)
    → ((slice_get ys i ≡ Some n) → (slice_get xs i ≡ Some n)) × ((slice_get xs i ≡ Some n) → (slice_get ys i ≡ Some n))

-- what a move of a state adds
abbrev added : Move → ℕ → Option ℕ
added m r = elim m [ Prints e ↦ None | Waits n ↦ None | Ticks ↦ Some r ]

grow : (t : ℕ) (s : State) (m : Move) (r : ℕ) (ys xs : List ℕ) → SameUpTo t (after s m).clock ys xs
    → SameUpTo t s.clock (cons_option (added m r) ys) (cons_option (added m r) xs)
grow t s Ticks r ys xs rest = ticked where
  ticked : SameUpTo t s.clock (r ∷ ys) (r ∷ xs)
  ticked zero n early other = (λ named. named, λ named. named)
  ticked (suc i) n early other = rest i n (omega (arith, early)) other
grow t s _ r ys xs rest = rest

find_front : (xs more : List Task) → Each (λ u. is_running u ≡ false) more
    → find is_running (xs ++ more) ≡ find is_running xs
find_front [] [] none = refl
find_front [] (u ∷ more) none = by_test (is_running u) (none u (inl refl))
    (find_front [] more (λ v member. none v (inr member))) where
      by_test : (b : Bool) → b ≡ false → find is_running more ≡ None
          → cond b (Some u) (find is_running more) ≡ None
      by_test true is rest = never (sym is)
      by_test false is rest = rest
find_front (x ∷ xs) more none = ap (λ o. cond (is_running x) (Some x) o) (find_front xs more none)

not_running : (u : Task) → is_over u ≡ true → is_running u ≡ false
not_running u over = by_role u.role over where
  by_role : (r : Role) → elim r [ Done ↦ true | Gone ↦ true | _ ↦ false ] ≡ true
      → elim r [ Running ↦ true | _ ↦ false ] ≡ false
  by_role Running is = never is
  by_role _ is = refl

coming_rests : (more : List Task) → Each (λ u. u.role ≡ Coming) more → Each (λ u. is_running u ≡ false) more
coming_rests more come u member = ap (λ r. elim r [ Running ↦ true | _ ↦ false ]) (come u member)

over_idles : (xs : List Task) → Each (λ u. is_over u ≡ true) xs → find is_running xs ≡ None
over_idles xs over = find_front [] xs (λ u member. not_running u (over u member))

-- the number that runs
abbrev number : Option Task → ℕ
number o = elim o [ None ↦ 4_000_000_000 | Some r ↦ r.number ]

module _ (J : Instance) (valid : IsValid J) (rules : Rules) (mark t : ℕ) where
  -- where all jobs are over, no more jobs are named
  over_names_none : (xs : List Step) (s : State) → Keeps J s → Each (λ u. is_over u ≡ true) s.tasks
      → IsSettledRun rules mark s xs → (i n : ℕ) → (n ≡ 4_000_000_000 → ⊥) → slice_get (places xs) i ≡ Some n → ⊥
  over_names_none [] s keeps over run i n other named = absurd (cc)
  over_names_none (x ∷ xs) s keeps over run i n other named = tick_named i
      (over_names_none xs (after s (open_step rules s)) (open_kept J valid s keeps rules)
      (subst (λ m. Each (λ u. is_over u ≡ true) (after s m).tasks) (sym ticks) (over_ticked s over)) run.2)
      (ap (λ o. slice_get o i) (sym first) ∙ named) where
        ticks : open_step rules s ≡ Ticks
        ticks = over_rests rules.ratio s Ticks over (open_step rules s) (open_deed J valid s keeps rules)

        first : places (x ∷ xs) ≡ 4_000_000_000 ∷ places xs
        first = ap (λ (z : Step). cons_option (tick_of z) (places xs)) run.0
            ∙ ap (λ m. cons_option (added m (number (find is_running s.tasks))) (places xs)) ticks
            ∙ ap (λ o. number o ∷ places xs) (over_idles s.tasks over)

        tick_named : (i : ℕ) → ((i n : ℕ) → (n ≡ 4_000_000_000 → ⊥) → slice_get (places xs) i ≡ Some n → ⊥)
            → slice_get (4_000_000_000 ∷ places xs) i ≡ Some n → ⊥
        tick_named zero rest here = other (same here) where
          same : Some 4_000_000_000 ≡ Some n → n ≡ 4_000_000_000
          same e = sym (same_number e) where
            same_number : Some 4_000_000_000 ≡ Some n → 4_000_000_000 ≡ n
            same_number e = cc
        tick_named (suc i) rest here = rest i n other here

module _ (J : Instance) (valid : IsValid J) (K : Instance) (valid_more : IsValid K) (rules : Rules) (t : ℕ)
    (more : List Task)
    (come : AllComeFrom (t + 1) more) where
  -- in the ticks up to t a run names what the steps settled at t + 1 name without the later jobs
  pub same_places : (xs ys : List Step) (s : State) → Keeps J s → Keeps K (with_later s more)
      → IsSettledRun rules (t + 1) s xs
      → IsWholeRun rules (with_later s more) ys → SameUpTo t s.clock (places ys) (places xs)
  same_places [] ys s keeps keeps_more run whole = late where
    late : SameUpTo t s.clock (places ys) (places [])
    late i n early other =
        let it : (waits_for_mark (open_step rules s) ≡ true) × (t + 1 ≤ s.clock) =
        at_barrier (waits_for_mark (open_step rules s)) (t + 1) s.clock run in
        absurd (omega (arith, it.1, early))
  same_places (x ∷ xs) [] s keeps keeps_more run whole = absurd whole
  same_places (x ∷ xs) (y ∷ ys) s keeps keeps_more run whole = by_over (list_all is_over (s.tasks ++ more)) refl
      (same_places xs ys (after s (open_step rules s)) (open_kept J valid s keeps rules)
      (behind_keeps J valid K valid_more rules (t + 1) more come s keeps keeps_more run.1) run.2) where
        by_over : (b : Bool) → list_all is_over (s.tasks ++ more) ≡ b
            → (IsWholeRun rules (with_later (after s (open_step rules s)) more) ys
            → SameUpTo t (after s (open_step rules s)).clock (places ys) (places xs))
            → SameUpTo t s.clock (places (y ∷ ys)) (places (x ∷ xs))
        by_over true all rest = none_left (is_end (step rules (with_later s more))) refl whole.1 where
          all_over : Each (λ u. is_over u ≡ true) (s.tasks ++ more)
          all_over = all_each is_over (s.tasks ++ more) all

          ends : step rules (with_later s more) ≡ (ending (with_later s more) or_else Ticks)
          ends = over_rests _ _ _ all_over _ (step_deed K valid_more (with_later s more) keeps_more rules)

          prints : step rules (with_later s more) ≡ Prints (End (value_sum (filter is_done (s.tasks ++ more))))
          prints = ends ∙ ap (λ b. then_some b (Prints (End (value_sum (filter is_done (s.tasks ++ more)))))
              or_else Ticks) all

          none_left : (b : Bool) → is_end (step rules (with_later s more)) ≡ b
              → MatchBool b (ys ≡ []) (IsWholeRun rules (after (with_later s more) (step rules (with_later s more))) ys)
              → SameUpTo t s.clock (places (y ∷ ys)) (places (x ∷ xs))
          none_left false e onward = never (sym e ∙ ap is_end prints)
          none_left true e none = nothing where
            empty : places (y ∷ ys) ≡ []
            empty = ap (λ (z : Step). cons_option (tick_of z) (places ys)) whole.0
                ∙ ap (λ m. cons_option (added m (number (find is_running (s.tasks ++ more)))) (places ys)) prints
                ∙ ap (λ (zs : List Step). places zs) none

            nothing : SameUpTo t s.clock (places (y ∷ ys)) (places (x ∷ xs))
            nothing i n early other = (
              λ named. absurd (not_there (ap (λ o. slice_get o i) (sym empty) ∙ named)),
              λ named. absurd (over_names_none J valid rules (t + 1) t (x ∷ xs) s keeps
                  (λ u m. all_over u (member_front s.tasks more u m)) run i n other named),
            ) where
              not_there : None ≡ Some n → ⊥
              not_there e = absurd (cc)
        by_over false some rest =
            let same_m : step rules (with_later s more) ≡ open_step rules s = step_open rules (with_later s more) some
            ∙ behind_step J valid K valid_more rules (t + 1) more come s keeps keeps_more run.1 in
            let on : is_end (step rules (with_later s more)) ≡ false = ap is_end same_m
            ∙ open_not_end J valid K valid_more rules (t + 1) more come s keeps in
            let onward : IsWholeRun rules (after (with_later s more) (step rules (with_later s more))) ys =
            subst (λ b. MatchBool b (ys ≡ [])
            (IsWholeRun rules (after (with_later s more) (step rules (with_later s more))) ys)) on whole.1 in
            let to : after (with_later s more) (step rules (with_later s more)) ≡ with_later
            (after s (open_step rules s)) more =
            ap (after (with_later s more)) (step_open rules (with_later s more) some)
            ∙ behind_after J valid K valid_more rules (t + 1) more come s keeps keeps_more run.1 in
            let left : places (y ∷ ys) ≡ cons_option
            (added (open_step rules s) (number (find is_running s.tasks))) (places ys) =
            ap (λ (z : Step). cons_option (tick_of z) (places ys)) whole.0
            ∙ ap (λ m. cons_option (added m (number (find is_running (s.tasks ++ more)))) (places ys)) same_m
            ∙ ap (λ o. cons_option (added (open_step rules s) (number o)) (places ys))
            (find_front s.tasks more (coming_rests more come.0)) in
            let right : places (x ∷ xs) ≡ cons_option
            (added (open_step rules s) (number (find is_running s.tasks))) (places xs) =
            ap (λ (z : Step). cons_option (tick_of z) (places xs)) run.0 in
            subst (λ p. SameUpTo t s.clock p (places (x ∷ xs))) (sym left)
            (subst (λ p. SameUpTo t s.clock
            (cons_option (added (open_step rules s) (number (find is_running s.tasks))) (places ys)) p) (sym right)
            (grow _ _ _ _ _ _ (rest (subst (λ (z : State). IsWholeRun rules z ys) to onward))))

-- ---- of instances

module _ (t : ℕ) (J : Instance) (valid : IsValid J) where
  -- a run names up to t what its known jobs settle
  pub run_known : SameUpTo t 0 (ran J) (places (settled_steps (known_part t J) (t + 1)))
  run_known =
      let split = known_split t J valid in
      let whole : Instance = with_jobs (known_part t J) split.more in
      let is_valid = whole_valid t J valid in
      subst (λ (z : Instance). SameUpTo t 0 (ran z) (places (settled_steps (known_part t J) (t + 1))))
      (sym (split_whole t J valid))
      (same_places (known_part t J) (known_valid t J valid) whole is_valid J.rules t
      (to_come (length (known_at t J.jobs)) split.more)
      (come_from (t + 1) (length (known_at t J.jobs)) split.more split.late)
      (settled_steps (known_part t J) (t + 1)) (run whole)
      (opening (known_at t J.jobs))
      (opening_keeps (known_part t J))
      (later_keeps (known_part t J) split.more (t + 1) is_valid split.late)
      (settled_is_run (known_part t J) (t + 1) (known_valid t J valid))
      (subst (λ (z : State). IsWholeRun J.rules z (run whole))
      (opening_later (known_part t J) split.more (t + 1) is_valid split.late)
      (run_is_whole whole is_valid)))

pub online : (version : Version) (k : Fraction)
    → IsOnline (AreValid version k) (λ jobs. ran (jobs_under version k jobs))
online version k t jobs others valid valid2 same n known = (
  λ named. (there t n less other).1 (one_way ((here t n less other).0 named)),
  λ named. (here t n less other).1 (back ((there t n less other).0 named)),
) where
  less : 0 + t ≤ t
  less = omega arith

  other : n ≡ 4_000_000_000 → ⊥
  other is = omega (arith, is, known, (valid_parts (valid_known version k jobs t valid)).count, jobs_most version)

  here : SameUpTo t 0 (ran (jobs_under version k jobs))
      (places (settled_steps (known_part t (jobs_under version k jobs)) (t + 1)))
  here = run_known t (jobs_under version k jobs) valid

  there : SameUpTo t 0 (ran (jobs_under version k others))
      (places (settled_steps (known_part t (jobs_under version k others)) (t + 1)))
  there = run_known t (jobs_under version k others) valid2

  same_steps : places (settled_steps (known_part t (jobs_under version k jobs)) (t + 1))
      ≡ places (settled_steps (known_part t (jobs_under version k others)) (t + 1))
  same_steps = ap (λ known. places (settled_steps (jobs_under version k known) (t + 1))) same

  one_way : slice_get (places (settled_steps (known_part t (jobs_under version k jobs)) (t + 1))) t ≡ Some n
      → slice_get (places (settled_steps (known_part t (jobs_under version k others)) (t + 1))) t ≡ Some n
  one_way named = ap (λ p. slice_get p t) (sym same_steps) ∙ named

  back : slice_get (places (settled_steps (known_part t (jobs_under version k others)) (t + 1))) t ≡ Some n
      → slice_get (places (settled_steps (known_part t (jobs_under version k jobs)) (t + 1))) t ≡ Some n
  back named = ap (λ p. slice_get p t) same_steps ∙ named
