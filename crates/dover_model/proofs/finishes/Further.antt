-- Further finishes, which the running job hasn't come to yet, leave what is settled.
use Rattle.std.proofs.Common.{◌≡◌, ℕ, ◌+◌, ◌≤◌, ◌<◌, ◌⊎◌, inl, inr, List, [], ◌∷◌, ◌++◌, map, refl, sym, ap, ◌∙◌, subst}
use Rattle.std.proofs.Common.{true, false, cond, arith, append_assoc, Option, Some, None, nat_le, nat_lt, ◌==◌}
use Rattle.std.proofs.Common.{◌&&◌, eq-eqb, lt-ltb}
use Rattle.std.proofs.lemmas.Bool.{and_from}
use Rattle.std.specs.List.{cons_option}
use Rattle.std.proofs.lemmas.List.Folds.{find-append}
use Rattle.std.specs.Option.{option_or}
use Rattle.dover_model.specs.Common.{Complete, Coming, Running, Task, Finish, is_finish_of, has_come_to, Rules}
use Rattle.dover_model.specs.Common.{Instance, IsValid, with_finishes, bare, State, opening, running, is_running}
use Rattle.dover_model.specs.Common.{is_over, Move, Prints, Ticks, due_finish, finish_or, step, open_step}
use Rattle.dover_model.specs.Common.{declared_step, declared_open_step, after, ticked, Step, printed, event_of}
use Rattle.dover_model.specs.Common.{waits_for_mark, settled_steps, settled_state, settled, finish_now, RunsAtMark}
use Rattle.dover_model.specs.Common.{AreOverFor, open_at, IsBarrier, Begins, IsOpenPath}
use Rattle.dover_model.specs.Common.{HasPrinted, IsMember, Each, Keeps}
use Rattle.dover_model.proofs.lists.Members.{not_found, map_member, member_behind, some_same, each_cons}
use Rattle.dover_model.proofs.steps.Roles.{passes, one_number}
use Rattle.dover_model.proofs.steps.Kept.{Moved, move_of, open_kept, opening_keeps, come_coming}
use Rattle.dover_model.proofs.finishes.Readiness.{IsReady, opening_ready, runner}
use Rattle.dover_model.proofs.runs.Ending.{potential, clock_after}
use Rattle.dover_model.proofs.settled.Settling.{settles, settled_is_run}
use Rattle.dover_model.proofs.settled.Barriers.{AtBarrier, settled_at_barrier}
use Rattle.dover_model.proofs.settled.Paths.{path_keeps, path_ready, path_then_settled, one_settled_run}
use Rattle.dover_model.proofs.settled.Paths.{printed_begins_run, path_later, path_append, path_settles, printed_begins}
use Rattle.dover_model.proofs.runs.Runs.{printed_append}
use Rattle.dover_model.proofs.rest.Resting.{settled_path, path_state}
use Rattle.dover_model.proofs.finishes.Finishing.{IsDue, finish_due, due_had}
use Rattle.dover_model.proofs.finishes.Meeting.{finishing_valid}
use Rattle.dover_model.proofs.lists.Tests.{never}

-- ---- finishes that aren't due

-- behind others, finishes that aren't due change nothing
further_due : (fs more : List Finish) (s : State) → due_finish more s ≡ None
    → due_finish (fs ++ more) s ≡ due_finish fs s
further_due fs more s none = find-append (is_finish_of (running s)) fs more
    ∙ ap (option_or (due_finish fs s)) none ∙ or_none (due_finish fs s) where
      or_none : (o : Option Finish) → option_or o None ≡ o
      or_none None = refl
      or_none (Some f) = refl

module _ (J : Instance) (valid : IsValid J) (more : List Finish) (mark : ℕ) where
  -- the instance with further finishes
  abbrev J2 : Instance
  J2 = with_finishes J more

  -- an open step is the same
  pub same_open : (s : State) → due_finish more s ≡ None → open_step J2.rules s ≡ open_step J.rules s
  same_open s none = ap (λ o. finish_or s.clock o (declared_open_step J.rules s))
      (further_due J.rules.finishes more s none)

  -- a path is one with further finishes, where none is due
  same_path : (xs : List Step) (s t : State) → IsOpenPath J.rules mark s xs t
      → Each (λ x. due_finish more x.before ≡ None) xs → IsOpenPath J2.rules mark s xs t
  same_path [] s t here none = here
  same_path (x ∷ xs) s t path none =
      let same : open_step J2.rules s ≡ open_step J.rules s =
      same_open s (subst (λ (y : Step). due_finish more y.before ≡ None) path.0 (none x (inl refl))) in (
        path.0 ∙ ap (λ m. let y : Step = record { before = s; move = m } in y) (sym same),
        ap (λ m. waits_for_mark m && nat_le mark s.clock) same ∙ path.1,
        subst (λ m. IsOpenPath J2.rules mark (after s m) xs t) (sym same)
            (same_path xs (after s (open_step J.rules s)) t path.2 (λ y member. none y (inr member))),
      )

  -- what is settled stays
  module _ (none : Each (λ x. due_finish more x.before ≡ None) (settled_steps J mark)) where
    -- the path to the barrier
    abbrev path_there : (t : State) × IsOpenPath J.rules mark (opening J.jobs) (settled_steps J mark) t
        × IsBarrier J.rules mark t
    path_there = settled_path J.rules mark (settled_steps J mark) (opening J.jobs) (settled_is_run J mark valid)

    -- with further finishes
    path_still : IsOpenPath J2.rules mark (opening J.jobs) (settled_steps J mark) path_there.0
    path_still = same_path (settled_steps J mark) (opening J.jobs) path_there.0 path_there.1 none

    -- and other steps behind
    pub settled_still : (mark2 : ℕ) → mark ≤ mark2
        → Begins (settled_steps J mark) (settled_steps J2 mark2)
    settled_still mark2 later =
        let valid2 : IsValid J2 = finishing_valid J (J.rules.finishes ++ more) valid in
        let path : IsOpenPath J2.rules mark2 (opening J.jobs) (settled_steps J mark) path_there.0 =
        path_later J2.rules mark mark2 later (settled_steps J mark) (opening J.jobs) path_there.0 path_still in
        let keeps : Keeps J2 path_there.0 =
        path_keeps J2 valid2 mark2 (settled_steps J mark) (opening J.jobs) path_there.0 (opening_keeps J2) path in
        let ready : IsReady J2.rules.finishes path_there.0 = path_ready J2 valid2 mark2 (settled_steps J mark)
        (opening J.jobs) path_there.0 (opening_keeps J2) (opening_ready J2.rules.finishes J.jobs) path in
        let rest = settles J2 valid2 J2.rules mark2 (potential J2.rules.finishes mark2 path_there.0) path_there.0 keeps
        ready (omega arith) in (
          rest.0,
          one_settled_run J2.rules mark2 (settled_steps J2 mark2) (settled_steps J mark ++ rest.0) (opening J.jobs)
              (settled_is_run J2 mark2 valid2)
              (path_then_settled J2.rules mark2 (settled_steps J mark) rest.0 (opening J.jobs) path_there.0 path
              rest.1),
        )

    -- with no other steps, where none is due at the barrier either
    pub settled_same : due_finish more (settled_state J mark) ≡ None → settled_steps J2 mark ≡ settled_steps J mark
    settled_same none_there = one_settled_run J2.rules mark (settled_steps J2 mark) (settled_steps J mark)
        (opening J.jobs) (settled_is_run J2 mark (finishing_valid J (J.rules.finishes ++ more) valid))
        (path_settles J2.rules mark (settled_steps J mark) (opening J.jobs) path_there.0 path_still barrier_still) where
          is_there : settled_state J mark ≡ path_there.0
          is_there = path_state J.rules mark (settled_steps J mark) (opening J.jobs) path_there.0 path_there.1

          barrier_still : IsBarrier J2.rules mark path_there.0
          barrier_still = ap (λ m. waits_for_mark m && nat_le mark path_there.0.clock)
              (same_open path_there.0 (subst (λ s. due_finish more s ≡ None) is_there none_there)) ∙ path_there.2

    -- and it begins what is printed
    pub printed_still : Begins (settled J mark) (printed J2)
    printed_still =
        let valid2 : IsValid J2 = finishing_valid J (J.rules.finishes ++ more) valid in
        let it : Begins (settled J mark ++ []) (printed J2) = printed_begins_run J2 mark path_there.0 path_there.0
        (settled J mark) [] valid2 (record { steps = settled_steps J mark; path = path_still; prints = refl }) refl in
        (it.0, it.1 ∙ append_assoc (settled J mark) [] it.0)

-- ---- the finish at the mark

-- each task of this number has had less
abbrev Less : ℕ → ℕ → State → Type 0
Less n h s = Each (λ t. t.number ≡ n → t.had + 1 ≤ h) s.tasks

-- so what is less after a move was less before
less_before : (n h : ℕ) (s : State) (m : Move) → Less n h (after s m) → Less n h s
less_before n h s m low t member same =
    let it : Moved s (after s m) = move_of s m in
    let there : IsMember (it.by t) (after s m).tasks =
    subst (IsMember (it.by t)) (sym it.tasks) (map_member it.by s.tasks t member) in
    let later : (it.by t).had + 1 ≤ h = low (it.by t) there (it.number t ∙ same) in
    let grows : t.had ≤ (it.by t).had = it.had t in omega arith

-- of a member of a mapped list
pub map_back : {X Y : Type 0} (f : X → Y) (xs : List X) (y : Y) → IsMember y (map f xs)
    → (x : X) × IsMember x xs × (y ≡ f x)
map_back f [] y member = absurd member
map_back f (x ∷ xs) y (inl e) = (x, inl refl, e)
map_back f (x ∷ xs) y (inr member) = let it = map_back f xs y member in (it.0, inr it.1, it.2)

-- before a tick the job that runs then had one less
tick_before : (J : Instance) (s : State) → Keeps J (after s Ticks) → (r : Task) → IsMember r (after s Ticks).tasks
    → r.role ≡ Running → Each (λ u. u.number ≡ r.number → u.had + 1 ≡ r.had) s.tasks
tick_before J s keeps r member runs u there same =
    let one : ticked u ≡ r = one_number 0 (after s Ticks).tasks keeps.sound.numbered (ticked u) r
    (map_member ticked s.tasks u there) member same in
    let ran : is_running u ≡ true = passes is_running u Running true (ap (λ (t : Task). t.role) one ∙ runs) refl in
    sym (ap (λ b. cond b (u.had + 1) u.had) ran) ∙ ap (λ (t : Task). t.had) one

module _ (J : Instance) (valid : IsValid J) (mark : ℕ) (r : Task) (runs : r.role ≡ Running) where
  -- on a path to where the job runs, all of whose steps are taken at earlier clocks, it had less before
  pub less_all : (xs : List Step) (s t : State) → Keeps J s → IsOpenPath J.rules mark s xs t → IsMember r t.tasks
      → Each (λ x. x.before.clock < t.clock) xs → Each (λ x. Less r.number r.had x.before) xs
  less_all [] s t keeps path member early x here = absurd here
  less_all (x ∷ []) s t keeps path member early y (inr none) = absurd none
  less_all (x ∷ []) s t keeps path member early y (inl e) =
      subst (λ (z : Step). Less r.number r.had z.before) (sym (e
      ∙ path.0)) (by_clock (clock_after s (open_step J.rules s)))
    where
      low : s.clock < (after s (open_step J.rules s)).clock
      low = subst (λ (z : State). s.clock < z.clock) path.2
          (subst (λ (z : Step). z.before.clock < t.clock) path.0 (early x (inl refl)))

      keeps_after : Keeps J (after s (open_step J.rules s))
      keeps_after = open_kept J valid s keeps J.rules

      by_clock : ((after s (open_step J.rules s)).clock ≡ s.clock)
          ⊎ ((open_step J.rules s ≡ Ticks) × ((after s (open_step J.rules s)).clock ≡ s.clock + 1))
          → Less r.number r.had s
      by_clock (inl same) = absurd (omega (arith, low, same))
      by_clock (inr it) = λ u there same.
          let one : u.had + 1 ≡ r.had = tick_before J s (subst (λ m. Keeps J (after s m)) it.0 keeps_after) r
          (subst (λ m. IsMember r (after s m).tasks) it.0
          (subst (λ (z : State). IsMember r z.tasks) path.2 member)) runs u there same in omega arith
  less_all (x ∷ y ∷ zs) s t keeps path member early w there_w = by_member
      (less_all (y ∷ zs) (after s (open_step J.rules s)) t (open_kept J valid s keeps J.rules) path.2 member
      (λ z there. early z (inr there))) w there_w where
        by_member : Each (λ z. Less r.number r.had z.before) (y ∷ zs)
            → Each (λ z. Less r.number r.had z.before) (x ∷ y ∷ zs)
        by_member rest z (inr there) = rest z there
        by_member rest z (inl e) = subst (λ (w : Step). Less r.number r.had w.before) (sym (e ∙ path.0))
            (less_before r.number r.had s (open_step J.rules s)
            (subst (λ (w : Step). Less r.number r.had w.before) path.2.0 (rest y (inl refl))))

  -- and it has had some
  some_had : (xs : List Step) (s t : State) → Keeps J s → (xs ≡ [] → Each (λ u. u.role ≡ Running → ⊥) s.tasks)
      → IsOpenPath J.rules mark s xs t → IsMember r t.tasks → Each (λ x. x.before.clock < t.clock) xs → 1 ≤ r.had
  some_had [] s t keeps none path member early =
      absurd (none refl r (subst (λ (z : State). IsMember r z.tasks) path member) runs)
  some_had (x ∷ []) s t keeps none path member early = by_clock (clock_after s (open_step J.rules s)) where
    low : s.clock < (after s (open_step J.rules s)).clock
    low = subst (λ (z : State). s.clock < z.clock) path.2
        (subst (λ (z : Step). z.before.clock < t.clock) path.0 (early x (inl refl)))

    by_clock : ((after s (open_step J.rules s)).clock ≡ s.clock)
        ⊎ ((open_step J.rules s ≡ Ticks) × ((after s (open_step J.rules s)).clock ≡ s.clock + 1)) → 1 ≤ r.had
    by_clock (inl same) = absurd (omega (arith, low, same))
    by_clock (inr it) =
        let was : (u : Task) × IsMember u s.tasks × (r ≡ ticked u) = map_back ticked s.tasks r
        (subst (λ m. IsMember r (after s m).tasks) it.0 (subst (λ (z : State). IsMember r z.tasks) path.2 member)) in
        let ran : is_running was.0 ≡ true =
        passes is_running was.0 Running true (sym (ap (λ (u : Task). u.role) was.2) ∙ runs) refl in
        let had : r.had ≡ cond (is_running was.0) (was.0.had + 1) was.0.had = ap (λ (u : Task). u.had) was.2 in
        let one : cond (is_running was.0) (was.0.had + 1) was.0.had ≡ was.0.had + 1 =
        ap (λ b. cond b (was.0.had + 1) was.0.had) ran in omega arith
  some_had (x ∷ y ∷ zs) s t keeps none path member early =
      some_had (y ∷ zs) (after s (open_step J.rules s)) t (open_kept J valid s keeps J.rules)
      (λ e. absurd (let no : y ∷ zs ≡ [] = e in cc)) path.2 member (λ z there. early z (inr there))

-- no finish is due whose job has had less
none_due : (fs : List Finish) (s : State) → Each (λ f. Less f.number f.had s) fs → due_finish fs s ≡ None
none_due fs s ahead = by_due (due_finish fs s) refl where
  by_due : (o : Option Finish) → due_finish fs s ≡ o → o ≡ None
  by_due None e = refl
  by_due (Some f) e =
      let it : IsDue fs s f = finish_due fs s f e in
      let had : f.had ≡ it.job.had = due_had fs s f it in
      let low : it.job.had + 1 ≤ f.had = ahead f it.member it.job it.there (sym it.number) in absurd (omega arith)

-- a finish of a job that has had less isn't
not_due : (r : Task) (s : State) → Less r.number r.had s → due_finish (finish_now r ∷ []) s ≡ None
not_due r s less = none_due (finish_now r ∷ []) s
    (each_cons (λ f. Less f.number f.had s) (finish_now r) [] less (λ f member. absurd member))

-- on a path, what is less at its end was less before
less_path : (J : Instance) (mark n h : ℕ) (xs : List Step) (s t : State) → IsOpenPath J.rules mark s xs t → Less n h t
    → Less n h s × Each (λ x. Less n h x.before) xs
less_path J mark n h [] s t here low = (subst (Less n h) here low, λ x member. absurd member)
less_path J mark n h (x ∷ xs) s t path low =
    let rest = less_path J mark n h xs (after s (open_step J.rules s)) t path.2 low in
    let here : Less n h s = less_before n h s (open_step J.rules s) rest.0 in (
      here,
      each_cons (λ (y : Step). Less n h y.before) x xs
          (subst (λ (y : Step). Less n h y.before) (sym path.0) here) rest.1,
    )

module _ (J : Instance) (valid : IsValid J) (mark : ℕ) (r : Task) (at : RunsAtMark J mark r) where
  -- the path to the barrier
  abbrev there : (t : State) × IsOpenPath J.rules mark (opening J.jobs) (settled_steps J mark) t
      × IsBarrier J.rules mark t
  there = settled_path J.rules mark (settled_steps J mark) (opening J.jobs) (settled_is_run J mark valid)

  -- it leads to the settled state
  is_there : settled_state J mark ≡ there.0
  is_there = path_state J.rules mark (settled_steps J mark) (opening J.jobs) there.0 there.1

  -- at the barrier
  barrier : AtBarrier J mark (settled_state J mark)
  barrier = settled_at_barrier J valid mark

  -- the clock of the barrier
  clock_there : there.0.clock ≡ mark
  clock_there = sym (ap (λ (z : State). z.clock) is_there) ∙ barrier.clock

  -- no settled step comes to the finish
  pub none_due_before : Each (λ x. due_finish (finish_now r ∷ []) x.before ≡ None) (settled_steps J mark)
  none_due_before x member = not_due r x.before (less_all J valid mark r at.runs (settled_steps J mark) (opening J.jobs)
      there.0 (opening_keeps J) there.1 (subst (λ (z : State). IsMember r z.tasks) is_there at.member)
      (λ y here. subst (λ c. y.before.clock < c) (sym clock_there) (at.before y here)) x member)

  -- what is settled stays
  pub stays_at_mark : Begins (settled_steps J mark) (settled_steps (with_finishes J (finish_now r ∷ [])) mark)
  stays_at_mark = settled_still J valid (finish_now r ∷ []) mark none_due_before mark (omega arith)

  -- the job has had some ticks
  had_some : 1 ≤ r.had
  had_some = some_had J valid mark r at.runs (settled_steps J mark) (opening J.jobs) there.0 (opening_keeps J)
      (λ _ u member runs. let e : Coming ≡ Running = sym (come_coming 0 J.jobs u member).0
      ∙ runs in absurd (cc)) there.1
      (subst (λ (z : State). IsMember r z.tasks) is_there at.member)
      (λ y here. subst (λ c. y.before.clock < c) (sym clock_there) (at.before y here))

  -- and its completion is next
  pub next_at_mark : open_step (with_finishes J (finish_now r ∷ [])).rules (settled_state J mark)
      ≡ Prints (Complete mark r.number)
  next_at_mark = by_due (due_finish fs s) refl where
    s : State
    s = settled_state J mark

    fs : List Finish
    fs = J.rules.finishes ++ finish_now r ∷ []

    running_r : running s ≡ Some r
    running_r = runner s barrier.keeps.sound r at.member at.runs

    by_due : (o : Option Finish) → due_finish fs s ≡ o
        → open_step (with_finishes J (finish_now r ∷ [])).rules s ≡ Prints (Complete mark r.number)
    by_due (Some g) e =
        let it : IsDue fs s g = finish_due fs s g e in
        ap (λ o. finish_or s.clock o (declared_open_step J.rules s)) e
        ∙ ap (λ n. Prints (Complete s.clock n))
        (it.number ∙ ap (λ (t : Task). t.number) (some_same it.job r (sym it.is ∙ running_r)))
        ∙ ap (λ c. Prints (Complete c r.number)) barrier.clock
    by_due None e = never (sym (not_found (is_finish_of (running s)) fs e (finish_now r)
        (member_behind J.rules.finishes (finish_now r ∷ []) (finish_now r) (inl refl)))
        ∙ ap (λ o. is_finish_of o (finish_now r)) running_r ∙ comes) where
          comes : has_come_to r (finish_now r) ≡ true
          comes = and_from ((r.number == r.number) && (r.had == r.had)) (nat_lt 0 r.had)
              (and_from (r.number == r.number) (r.had == r.had) (eq-eqb r.number r.number refl)
              (eq-eqb r.had r.had refl)) (lt-ltb 0 r.had (omega (arith, had_some)))

  -- so with the finish the completion is printed right behind what is settled
  pub printed_at_mark : HasPrinted (with_finishes J (finish_now r ∷ [])) mark
      (after (settled_state J mark) (Prints (Complete mark r.number))) (settled J mark ++ Complete mark r.number ∷ [])
  printed_at_mark = subst (λ m. HasPrinted J2 mark (after s m) (settled J mark ++ Complete mark r.number ∷ []))
      next_at_mark (record {
        steps = settled_steps J mark ++ open_at J2.rules s ∷ [];
        path = path_append J2.rules mark (settled_steps J mark) (open_at J2.rules s ∷ []) (opening J.jobs) s
            (after s (open_step J2.rules s))
            (subst (IsOpenPath J2.rules mark (opening J.jobs) (settled_steps J mark)) (sym is_there)
            (path_still J valid (finish_now r ∷ []) mark none_due_before))
            (refl, ap (λ m. waits_for_mark m && nat_le mark s.clock) next_at_mark, refl);
        prints = printed_append (settled_steps J mark) (open_at J2.rules s ∷ [])
            ∙ ap (λ m. settled J mark ++ cons_option (event_of m) []) next_at_mark;
      }) where
        s : State
        s = settled_state J mark

        J2 : Instance
        J2 = with_finishes J (finish_now r ∷ [])

  -- and settled
  pub completes_at_mark : Begins (settled J mark ++ Complete mark r.number ∷ [])
      (settled (with_finishes J (finish_now r ∷ [])) mark)
  completes_at_mark = printed_begins (with_finishes J (finish_now r ∷ [])) mark _ _
      (finishing_valid J (J.rules.finishes ++ finish_now r ∷ []) valid) printed_at_mark

-- ---- finishes of jobs that are over

-- none of them is due
over_none_due : (finishes : List Finish) (s : State) → AreOverFor finishes s → due_finish finishes s ≡ None
over_none_due finishes s over = by_due (due_finish finishes s) refl where
  by_due : (o : Option Finish) → due_finish finishes s ≡ o → o ≡ None
  by_due None e = refl
  by_due (Some f) e = let it : IsDue finishes s f = finish_due finishes s f e in
      never (sym (passes is_over it.job Running false it.runs refl) ∙ over f it.member it.job it.there (sym it.number))

-- so an open step is the declared one
pub over_open : (rules : Rules) (s : State) → AreOverFor rules.finishes s → open_step rules s ≡ open_step (bare rules) s
over_open rules s over = ap (λ o. finish_or s.clock o (declared_open_step rules s))
    (over_none_due rules.finishes s over)

-- and so is a step
pub over_step : (rules : Rules) (s : State) → AreOverFor rules.finishes s → step rules s ≡ step (bare rules) s
over_step rules s over = ap (λ o. finish_or s.clock o (declared_step rules s)) (over_none_due rules.finishes s over)
