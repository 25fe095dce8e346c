-- What is printed up to a tick depends on the finishes by which the run completes jobs by then alone.
use Rattle.std.proofs.Common.{◌≡◌, ℕ, suc, zero, ◌≤◌, ◌<◌, ◌⊎◌, inl, inr, List, [], ◌∷◌, ◌++◌, refl, sym, ap, ◌∙◌}
use Rattle.std.proofs.Common.{subst, Bool, true, false, cond, ◌&&◌, ◌||◌, eqb, eqb-true, eq-eqb, nat_le, leb-false}
use Rattle.std.proofs.Common.{Option, Some, None, append_assoc}
use Rattle.std.specs.Prelude.{filter_map}
use Rattle.std.specs.List.{find, list_any, cons_option}
use Rattle.std.proofs.lemmas.Bool.{and_parts, and_from}
use Rattle.dover_model.specs.declared.events.Event.TheVariants.{Run, Preempt, Take, Complete, Abandon, End, Release}
use Rattle.dover_model.specs.declared.events.Role.TheVariants.{Running, Waiting, Done}
use Rattle.dover_model.specs.declared.events.Task.{Task}
use Rattle.dover_model.specs.Finishes.{Finish, has_come_to}
use Rattle.dover_model.specs.Common.{Instance, IsValid, IsMember, Each, Rules, bare, known_at, is_over, is_privileged}
use Rattle.dover_model.specs.Instance as declared
use Rattle.dover_model.proofs.finishes.Meeting.{finishing_valid, given_by}
use Rattle.dover_model.proofs.lists.Tests.{never, none_is_some}
use Rattle.dover_model.proofs.lists.Members.{found, not_found, on_map}
use Rattle.dover_model.proofs.steps.Roles.{passes}
use Rattle.many_processors.specs.State.{Placed, State, opening}
use Rattle.many_processors.specs.Step.{Move, Prints, Waits, Ticks, Seen, all_seen, ◌or_else◌, ◌or_try◌, first_some}
use Rattle.many_processors.specs.Step.{completion, resumption, dispatch, decision, deciding, arrival, front, alarm}
use Rattle.many_processors.specs.Step.{free_one, least_valued, for_one, finishing, finish_on, ending, step, after}
use Rattle.many_processors.specs.Step.{placed_after, in_role, ticked}
use Rattle.many_processors.specs.Run as many
use Rattle.many_processors.specs.Run.{run_from, run, enough, is_end}
use Rattle.many_processors.specs.Sound.{Keeps}
use Rattle.many_processors.specs.Online.{event_up_to, printed_up_to, completes_it, finish_up_to, finishes_up_to}
use Rattle.many_processors.proofs.books.TickSteps.{tick_plain}
use Rattle.many_processors.proofs.settled.AtMark.{finish_parts, come_parts, first_behind, behind_none, same_behind}
use Rattle.many_processors.proofs.settled.Onlines.{up_to, run_late, on_line}
use Rattle.many_processors.proofs.settled.Prefixes.{named_here, named_by, IsHere, event_behind}
use Rattle.many_processors.proofs.steps.Cases.{answered, unanswered, step_case}
use Rattle.many_processors.proofs.steps.Seeing.{each_sees}
use Rattle.many_processors.proofs.steps.Stepping.{same_job, event_task}
use Rattle.many_processors.proofs.steps.Turns.{which, running_job, step_kept, opening_kept}

-- ---- lists

-- one of them passes
any_one : {X : Type 0} (f : X → Bool) (xs : List X) → list_any f xs ≡ true → (x : X) × IsMember x xs × (f x ≡ true)
any_one f [] is = never is
any_one f (x ∷ xs) is = by_first (f x) refl is (any_one f xs) where
  by_first : (b : Bool) → f x ≡ b → (b || list_any f xs) ≡ true
      → (list_any f xs ≡ true → (y : _) × IsMember y xs × (f y ≡ true)) → (y : _) × IsMember y (x ∷ xs) × (f y ≡ true)
  by_first true e is more = (x, inl refl, e)
  by_first false e is more = let it = more is in (it.0, inr it.1, it.2)

-- where one passes
one_any : {X : Type 0} (f : X → Bool) (xs : List X) (x : X) → IsMember x xs → f x ≡ true → list_any f xs ≡ true
one_any f [] x member is = absurd member
one_any f (y ∷ xs) x (inl e) is = ap (λ b. b || list_any f xs) (ap f (sym e) ∙ is)
one_any f (y ∷ xs) x (inr member) is = by_first (f y) (one_any f xs x member is) where
  by_first : (b : Bool) → list_any f xs ≡ true → (b || list_any f xs) ≡ true
  by_first true more = refl
  by_first false more = more

-- where none answers, there is no first answer
first_none : {X Y : Type 0} (f : X → Option Y) (xs : List X) → Each (λ x. f x ≡ None) xs → first_some f xs ≡ None
first_none f [] none = refl
first_none f (x ∷ xs) none = ap (λ o. o or_try first_some f xs) (none x (inl refl))
    ∙ first_none f xs (λ y member. none y (inr member))

-- what may be put behind a list comes before the rest
put_behind : {X : Type 0} (xs ys : List X) (o : Option X) → xs ++ cons_option o ys ≡ (xs ++ cons_option o []) ++ ys
put_behind xs ys None = sym (append_assoc xs [] ys)
put_behind xs ys (Some x) = sym (append_assoc xs (x ∷ []) ys)

-- ---- jobs that are done stay so

-- each job of this number is done
abbrev AreDone : ℕ → State → Type 0
AreDone n s = Each (λ p. p.task.number ≡ n → p.task.role ≡ Done) s.jobs

-- a completed job is
completed_done : (n : ℕ) (s : State) (q at k : ℕ) → n ≡ k → AreDone n (after s (Prints q (Complete at k)))
completed_done n s q at k is_k = on_map (placed_after q (Complete at k))
    (λ p. p.task.number ≡ n → p.task.role ≡ Done) s.jobs (λ p member. by_test p (eqb p.task.number k) refl) where
      by_test : (p : Placed) (b : Bool) → eqb p.task.number k ≡ b → (cond b (in_role p Done) p).task.number ≡ n
          → (cond b (in_role p Done) p).task.role ≡ Done
      by_test p true e same = refl
      by_test p false e same = never (sym e ∙ eq-eqb p.task.number k (same ∙ is_k))

module _ (processors : ℕ) (J : Instance) (valid : IsValid J) (some : 1 ≤ processors) (s : State)
    (keeps : Keeps processors J s) where
  -- a job that is over isn't named
  not_named : (m : Move) → Each (IsHere s) (named_by m) → (p : Placed) → IsMember p s.jobs → p.task.role ≡ Done
      → Each (λ n. p.task.number ≡ n → ⊥) (named_by m)
  not_named m here p member done n n_member same =
      let x = here n n_member in
      let is_p : x.0 ≡ p = same_job processors J valid s keeps x.0 p x.1 member (x.2 ∙ sym same) in
      never (sym x.3 ∙ ap (λ (u : Placed). is_over u.task) is_p ∙ passes is_over p.task Done true done refl)

  move_done : (n : ℕ) (m : Move) → Each (IsHere s) (named_by m) → AreDone n s → AreDone n (after s m)
  move_done n (Prints q e) here done = on_map (placed_after q e) (λ p. p.task.number ≡ n → p.task.role ≡ Done) s.jobs
      (λ p member. by_number p member (eqb p.task.number n) refl) where
        by_number : (p : Placed) → IsMember p s.jobs → (b : Bool) → eqb p.task.number n ≡ b
            → (placed_after q e p).task.number ≡ n → (placed_after q e p).task.role ≡ Done
        by_number p member true is same =
            let is_done : p.task.role ≡ Done = done p member (eqb-true _ _ is) in
            ap (λ (u : Placed). u.task.role) (event_behind q e p
            (passes is_privileged p.task Done false is_done refl) (not_named (Prints q e) here p member is_done))
            ∙ is_done
        by_number p member false is same =
            let it = event_task q e p in
            never (sym is ∙ eq-eqb p.task.number n (sym (ap (λ (t : Task). t.number) it.1) ∙ same))
  move_done n (Waits k) here done = on_map (λ p. cond (eqb p.task.number k) (in_role p Waiting) p)
      (λ p. p.task.number ≡ n → p.task.role ≡ Done) s.jobs (λ p member. by_test p member (eqb p.task.number k) refl)
    where
      by_test : (p : Placed) → IsMember p s.jobs → (b : Bool) → eqb p.task.number k ≡ b
          → (cond b (in_role p Waiting) p).task.number ≡ n → (cond b (in_role p Waiting) p).task.role ≡ Done
      by_test p member true e same = absurd (not_named (Waits k) here p member (done p member same) k (inl refl)
          (eqb-true _ _ e))
      by_test p member false e same = done p member same
  move_done n Ticks here done = on_map ticked (λ p. p.task.number ≡ n → p.task.role ≡ Done) s.jobs
      (λ p member same. (tick_plain p).2 ∙ done p member (sym (tick_plain p).0 ∙ same))

  step_done : (n : ℕ) → AreDone n s → AreDone n (after s (step processors J.rules s))
  step_done n = move_done n (step processors J.rules s)
      (named_here processors J valid some J.rules s keeps true (step processors J.rules s)
      (step_case J.rules s (all_seen processors J.rules.version s) (each_sees processors J.rules.version s)))

  abbrev all : List Seen
  all = all_seen processors J.rules.version s

  -- a finish of a job that is done isn't due
  done_not_due : (g : Finish) → AreDone g.number s → finishing all g ≡ None
  done_not_due g done = by_answer (finishing all g) refl where
    by_answer : (o : Option Move) → finishing all g ≡ o → o ≡ None
    by_answer None e = refl
    by_answer (Some m) e =
        let q = answered (λ q. finish_on g q q.view.running) all m e in
        let it = finish_parts g q.0 m q.0.view.running q.2 in
        let i = which processors J valid some J.rules s keeps q.0 q.1 in
        let x = running_job processors J valid some J.rules s keeps q.0.processor it.0
        (subst (λ (r : Seen). r.view.running ≡ Some it.0) i.0 it.1) in
        let is_done : x.0.task.role ≡ Done = done x.0 x.1 (ap (λ (u : Task). u.number) x.2
        ∙ (come_parts it.0 g it.2).0) in
        absurd (let f : Running ≡ Done = sym x.3 ∙ is_done in cc)

  -- the finish that is due is the one by which the step completes a job
  abbrev is_by : Move → Finish → Bool
  is_by m f = completes_it m f && list_any (λ p. has_come_to p.task f) s.jobs

  due_is_by : (fs : List Finish) (m : Move) → first_some (finishing all) fs ≡ Some m
      → (f : Finish) × (find (is_by m) fs ≡ Some f) × (finishing all f ≡ Some m)
  due_is_by fs m due = by_found (find (is_by m) fs) refl where
    f : (g : Finish) × IsMember g fs × (finishing all g ≡ Some m)
    f = answered (finishing all) fs m due

    q : (r : Seen) × IsMember r all × (finish_on f.0 r r.view.running ≡ Some m)
    q = answered (λ q. finish_on f.0 q q.view.running) all m f.2

    it : (t : Task) × (q.0.view.running ≡ Some t) × (has_come_to t f.0 ≡ true)
        × (Prints q.0.processor (Complete q.0.view.clock t.number) ≡ m)
    it = finish_parts f.0 q.0 m q.0.view.running q.2

    x : (u : Placed) × IsMember u s.jobs × (u.task ≡ it.0) × (u.task.role ≡ Running)
    x = running_job processors J valid some J.rules s keeps q.0.processor it.0
        (subst (λ (r : Seen). r.view.running ≡ Some it.0)
        (which processors J valid some J.rules s keeps q.0 q.1).0 it.1)

    parts : (it.0.number ≡ f.0.number) × (it.0.had ≡ f.0.had)
    parts = come_parts it.0 f.0 it.2

    passes_f : is_by m f.0 ≡ true
    passes_f = and_from (completes_it m f.0) (list_any (λ p. has_come_to p.task f.0) s.jobs)
        (subst (λ n. completes_it n f.0 ≡ true) it.3 (eq-eqb f.0.number it.0.number (sym parts.0)))
        (one_any (λ p. has_come_to p.task f.0) s.jobs x.0 x.1
        (ap (λ t. has_come_to t f.0) x.2 ∙ it.2))

    by_found : (o : Option Finish) → find (is_by m) fs ≡ o
        → (g : Finish) × (find (is_by m) fs ≡ Some g) × (finishing all g ≡ Some m)
    by_found None e = never (sym (not_found (is_by m) fs e f.0 f.1) ∙ passes_f)
    by_found (Some g) e =
        let there = found (is_by m) fs g e in
        let both = and_parts (completes_it m g) (list_any (λ p. has_come_to p.task g) s.jobs) there.1 in
        let p = any_one (λ p. has_come_to p.task g) s.jobs both.1 in
        let p_parts = come_parts p.0.task g p.2 in
        let number : g.number ≡ it.0.number =
        eqb-true _ _ (subst (λ n. completes_it n g ≡ true) (sym it.3) both.0) in
        let is_x : p.0 ≡ x.0 = same_job processors J valid s keeps p.0 x.0 p.1 x.1
        (p_parts.0 ∙ number ∙ sym (ap (λ (u : Task). u.number) x.2)) in
        let had : g.had ≡ f.0.had = sym p_parts.1 ∙ ap (λ (u : Placed). u.task.had) is_x
        ∙ ap (λ (u : Task). u.had) x.2 ∙ parts.1 in
        let same : g ≡ f.0 = ap (λ n. let h : Finish = record { number = n; had = g.had } in h) (number ∙ parts.0)
        ∙ ap (λ n. let h : Finish = record { number = f.0.number; had = n } in h) had in
        (g, e, ap (finishing all) same ∙ f.2)

-- ---- two lists of finishes

module _ (processors : ℕ) (J : Instance) (valid : IsValid J) (some : 1 ≤ processors) (t : ℕ) (met : List Finish)
    (own : Each (λ f. IsMember f J.rules.finishes) met) where
  -- the same jobs with these finishes
  abbrev K : Instance
  K = declared.finishing J met

  abbrev by_then : many.Step → Option Finish
  by_then = finish_up_to J.rules.finishes t

  abbrev first_of : State → many.Step
  first_of s = record { before = s; move = step processors J.rules s }

  module _ (s : State) (keeps : Keeps processors J s) (low : nat_le s.clock t ≡ true) (before later : List Finish)
      (done : Each (λ g. AreDone g.number s) before) (is : met ≡ before ++ cons_option (by_then (first_of s)) later)
    where
      abbrev seen_all : List Seen
      seen_all = all_seen processors J.rules.version s

      abbrev others : Move
      others = for_one decision (deciding seen_all) or_else for_one arrival (front seen_all)
          or_else for_one (alarm J.rules.ratio) (least_valued seen_all) or_else ending s or_else Ticks

      same_due : (o : Option Move) → first_some (finishing seen_all) J.rules.finishes ≡ o
          → first_some completion seen_all ≡ None → first_some resumption seen_all ≡ None
          → for_one dispatch (free_one seen_all) ≡ None → first_some (finishing seen_all) met ≡ o
      same_due None due c r d = first_none (finishing seen_all) met
          (λ f member. unanswered (finishing seen_all) J.rules.finishes due f (own f member))
      same_due (Some m) due c r d =
          let moves : step processors J.rules s ≡ m = behind_none (first_some completion seen_all)
          (first_some resumption seen_all) (for_one dispatch (free_one seen_all)) _ c r d
          ∙ ap (λ o. o or_else others) due in
          let f = due_is_by processors J valid some s keeps J.rules.finishes m due in
          let here : by_then (first_of s) ≡ Some f.0 =
          ap (λ b. cond b (find (is_by processors J valid some s keeps (step processors J.rules s)) J.rules.finishes)
          None) low
          ∙ ap (λ n. find (is_by processors J valid some s keeps n) J.rules.finishes) moves ∙ f.1 in
          ap (first_some (finishing seen_all)) (is ∙ ap (λ o. before ++ cons_option o later) here)
          ∙ first_behind (finishing seen_all) before (f.0 ∷ later) (first_none (finishing seen_all) before
          (λ g member. done_not_due processors J valid some s keeps g (done g member)))
          ∙ ap (λ o. o or_try first_some (finishing seen_all) later) f.2

      -- the step is the same
      same_met : step processors K.rules s ≡ step processors J.rules s
      same_met = same_behind (first_some completion seen_all) (first_some resumption seen_all)
          (for_one dispatch (free_one seen_all)) (first_some (finishing seen_all) met)
          (first_some (finishing seen_all) J.rules.finishes) others
          (same_due (first_some (finishing seen_all) J.rules.finishes) refl)

      -- and behind it, those that it completes by are done
      next_done : Each (λ g. AreDone g.number (after s (step processors J.rules s)))
          (before ++ cons_option (by_then (first_of s)) [])
      next_done g member = by_part (back_or_front before (cons_option (by_then (first_of s)) []) g member) where
        back_or_front : (xs ys : List Finish) (g : Finish) → IsMember g (xs ++ ys) → IsMember g xs ⊎ IsMember g ys
        back_or_front [] ys g member = inr member
        back_or_front (x ∷ xs) ys g (inl e) = inl (inl e)
        back_or_front (x ∷ xs) ys g (inr member) = by_rest (back_or_front xs ys g member) where
          by_rest : IsMember g xs ⊎ IsMember g ys → IsMember g (x ∷ xs) ⊎ IsMember g ys
          by_rest (inl m) = inl (inr m)
          by_rest (inr m) = inr m

        by_move : (m : Move) → completes_it m g ≡ true → AreDone g.number (after s m)
        by_move (Prints q (Complete at k)) e = completed_done g.number s q at k (eqb-true _ _ e)
        by_move (Prints q (Run at k)) e = never e
        by_move (Prints q (Preempt at r k)) e = never e
        by_move (Prints q (Take at r k)) e = never e
        by_move (Prints q (Abandon at k)) e = never e
        by_move (Prints q (Release k job)) e = never e
        by_move (Prints q (End value)) e = never e
        by_move (Waits k) e = never e
        by_move Ticks e = never e

        by_found : (o : Option Finish)
            → find (is_by processors J valid some s keeps (step processors J.rules s)) J.rules.finishes ≡ o
            → IsMember g (cons_option o []) → AreDone g.number (after s (step processors J.rules s))
        by_found None e member = absurd member
        by_found (Some f) e (inr none) = absurd none
        by_found (Some f) e (inl same) =
            let there = found (is_by processors J valid some s keeps (step processors J.rules s)) J.rules.finishes f
            e in
            let both = and_parts (completes_it (step processors J.rules s) f)
            (list_any (λ p. has_come_to p.task f) s.jobs) there.1 in
            by_move (step processors J.rules s)
            (subst (λ h. completes_it (step processors J.rules s) h ≡ true) (sym same) both.0)

        by_part : IsMember g before ⊎ IsMember g (cons_option (by_then (first_of s)) [])
            → AreDone g.number (after s (step processors J.rules s))
        by_part (inl m) = step_done processors J valid some s keeps g.number (done g m)
        by_part (inr m) = by_found
            (find (is_by processors J valid some s keeps (step processors J.rules s)) J.rules.finishes) refl
            (subst (λ b. IsMember g (cons_option (cond b
            (find (is_by processors J valid some s keeps (step processors J.rules s)) J.rules.finishes) None) []))
            low m)

  -- a run with the finishes that it completes jobs by shows the same up to t
  same_run : (more : ℕ) (s : State) (before : List Finish) → Keeps processors J s
      → Each (λ g. AreDone g.number s) before
      → met ≡ before ++ filter_map by_then (run_from processors J.rules more s)
      → up_to t (run_from processors J.rules more s) ≡ up_to t (run_from processors K.rules more s)
  same_run zero s before keeps done is = refl
  same_run (suc more) s before keeps done is = by_clock (nat_le s.clock t) refl
      (same_run more (after s (step processors J.rules s))) where
        m : Move
        m = step processors J.rules s

        tail : Rules → Bool → Move → List many.Step
        tail rules b n = elim b [ true ↦ [] | false ↦ run_from processors rules more (after s n) ]

        by_end : (b : Bool) → is_end m ≡ b → (low : nat_le s.clock t ≡ true)
            → met ≡ before ++ cons_option (by_then (first_of s)) (filter_map by_then (tail J.rules b m))
            → ((gone : List Finish) → Keeps processors J (after s m) → Each (λ g. AreDone g.number (after s m)) gone
            → met ≡ gone ++ filter_map by_then (run_from processors J.rules more (after s m))
            → up_to t (run_from processors J.rules more (after s m))
            ≡ up_to t (run_from processors K.rules more (after s m)))
            → up_to t (tail J.rules b m) ≡ up_to t (tail K.rules b m)
        by_end true e low is rest = refl
        by_end false e low is rest = rest (before ++ cons_option (by_then (first_of s)) [])
            (step_kept processors J valid some J.rules s keeps)
            (next_done s keeps low before (filter_map by_then (tail J.rules false m)) done is)
            (is ∙ put_behind before (filter_map by_then (tail J.rules false m)) (by_then (first_of s)))

        by_clock : (b : Bool) → nat_le s.clock t ≡ b
            → ((gone : List Finish) → Keeps processors J (after s m) → Each (λ g. AreDone g.number (after s m)) gone
            → met ≡ gone ++ filter_map by_then (run_from processors J.rules more (after s m))
            → up_to t (run_from processors J.rules more (after s m))
            ≡ up_to t (run_from processors K.rules more (after s m)))
            → up_to t (run_from processors J.rules (suc more) s) ≡ up_to t (run_from processors K.rules (suc more) s)
        by_clock false high rest =
            let late : t < s.clock = leb-false _ _ high in
            run_late processors J.rules t (suc more) s late ∙ sym (run_late processors K.rules t (suc more) s late)
        by_clock true low rest =
            ap (λ es. cons_option (event_up_to t (first_of s)) es)
            (by_end (is_end m) refl low is rest)
            ∙ ap (λ n. up_to t (record { before = s; move = n } ∷ tail K.rules (is_end n) n))
            (sym (same_met s keeps low before (filter_map by_then (tail J.rules (is_end m) m)) done is))

-- ---- two instances

module _ (processors t : ℕ) (some : 1 ≤ processors) (J : Instance) (valid : IsValid J) where
  -- the finishes by which the run completes jobs are its own
  met_own : Each (λ f. IsMember f J.rules.finishes) (finishes_up_to processors t J)
  met_own f member =
      let it = given_by (finish_up_to J.rules.finishes t) (run processors J) f member in
      by_clock it.0 (nat_le it.0.before.clock t) it.2 where
        by_clock : (x : many.Step) (b : Bool) → cond b (find (λ f. completes_it x.move f
            && list_any (λ p. has_come_to p.task f) x.before.jobs) J.rules.finishes) None ≡ Some f
            → IsMember f J.rules.finishes
        by_clock x true is = (found (λ f. completes_it x.move f
            && list_any (λ p. has_come_to p.task f) x.before.jobs) J.rules.finishes f is).0
        by_clock x false is = none_is_some is

  -- what is printed up to t is what is printed with these finishes alone
  up_to_met : printed_up_to processors t J
      ≡ printed_up_to processors t (declared.finishing J (finishes_up_to processors t J))
  up_to_met = same_run processors J valid some t (finishes_up_to processors t J) met_own (enough J.jobs)
      (opening J.jobs) [] (opening_kept processors J) (λ g none. absurd none) refl

-- the printed steps up to t are the same for the same known jobs and the same finishes up to t
pub on_line_finishes : (processors t : ℕ) → 1 ≤ processors → (J K : Instance) → IsValid J → IsValid K
    → bare J.rules ≡ bare K.rules → known_at t J.jobs ≡ known_at t K.jobs
    → finishes_up_to processors t J ≡ finishes_up_to processors t K
    → printed_up_to processors t J ≡ printed_up_to processors t K
on_line_finishes processors t some J K valid_J valid_K same_rules same_jobs same_finishes =
    up_to_met processors t some J valid_J
    ∙ on_line processors t some (declared.finishing J (finishes_up_to processors t J))
    (declared.finishing K (finishes_up_to processors t K))
    (finishing_valid J (finishes_up_to processors t J) valid_J)
    (finishing_valid K (finishes_up_to processors t K) valid_K) rules same_jobs
    ∙ sym (up_to_met processors t some K valid_K) where
      rules : (declared.finishing J (finishes_up_to processors t J)).rules
          ≡ (declared.finishing K (finishes_up_to processors t K)).rules
      rules = ap (λ (r : Rules). let q : Rules = record {
        ratio = r.ratio;
        version = r.version;
        finishes = finishes_up_to processors t J;
      } in q) same_rules
          ∙ ap (λ fs. let q : Rules = record { ratio = K.rules.ratio; version = K.rules.version; finishes = fs } in q)
          same_finishes
