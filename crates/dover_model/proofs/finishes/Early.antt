-- A completion is the first step of its clock, so at the barrier of its tick its job is over.
use Rattle.std.proofs.Common.{◌≡◌, ℕ, ◌+◌, ◌≤◌, ◌<◌, ◌⊎◌, inl, inr, List, [], ◌∷◌, ◌++◌, refl, sym, ap, ◌∙◌, subst}
use Rattle.std.proofs.Common.{Bool, true, false, cond, arith, eqb, append_assoc, Option, None, nat_le, ◌&&◌, option_map}
use Rattle.std.proofs.Common.{eqb-true, eq-eqb}
use Rattle.std.proofs.lemmas.Bool.{and_right, lt-leb}
use Rattle.std.specs.List.{AllByRecursion, cons_option}
use Rattle.dover_model.specs.Common.{Fraction, Rules, Instance, IsValid, Finish, goes_on, Event, Release, Run, Preempt}
use Rattle.dover_model.specs.Common.{Take, Complete, Abandon, End, Role, Coming, Fresh, Waiting, Held, Running, Done}
use Rattle.dover_model.specs.Common.{Gone, Task, State, opening, is_running, is_ready_behind, is_over, left, Move}
use Rattle.dover_model.specs.Common.{Prints, Waits, Ticks, open_step, after, with_role, displaced, is_complete, Step}
use Rattle.dover_model.specs.Common.{event_of, printed_of, printed, waits_for_mark, settled, settled_steps}
use Rattle.dover_model.specs.Common.{settled_state, AreOverFor, open_at, IsBarrier, IsOpenPath, end_tick, before_end}
use Rattle.dover_model.specs.Common.{IsMember, Each, IsSound, Keeps, Item, Session, instance_of, FinishItem, early_at}
use Rattle.dover_model.specs.Common.{finish_at, may_finish_early}
use Rattle.dover_model.proofs.lists.Members.{all_append, found, on_map}
use Rattle.dover_model.proofs.steps.Roles.{passes, one_number, is_running_role}
use Rattle.dover_model.proofs.steps.Moves.{says}
use Rattle.dover_model.proofs.steps.OneChange.{on_changed}
use Rattle.dover_model.proofs.steps.Deeds.{Deed, Completed, Resumed, Started, Began, Preempted, Stayed, Arrived, Taken}
use Rattle.dover_model.proofs.steps.Deeds.{Abandoned, Rested}
use Rattle.dover_model.proofs.steps.Kept.{open_deed, open_kept, opening_keeps}
use Rattle.dover_model.proofs.finishes.Readiness.{going, none_due, IsReady, Decides, open_decides, open_ready}
use Rattle.dover_model.proofs.finishes.Readiness.{opening_ready}
use Rattle.dover_model.proofs.runs.Ending.{clock_after, later_clock, potential}
use Rattle.dover_model.proofs.settled.Settling.{Settles, settles, settled_is_run}
use Rattle.dover_model.proofs.settled.Paths.{path_keeps, path_ready, path_append, path_then_settled, one_settled_run}
use Rattle.dover_model.proofs.rest.Resting.{settled_path, path_state}
use Rattle.dover_model.proofs.finishes.OverFor.{over_after}
use Rattle.dover_model.proofs.rest.RestTick.{rests_where_ended}
use Rattle.dover_model.proofs.rest.Apart.{settled_at_rest, end_at_rest}
use Rattle.dover_model.proofs.finishes.RightFinishes.{none_other}
use Rattle.dover_model.proofs.lists.Tests.{never}

-- ---- behind a step that is no tick, the running job goes on

-- the running job goes on
abbrev pub GoesOn : List Finish → State → Type 0
GoesOn finishes s = Each (λ t. t.role ≡ Running → goes_on finishes t ≡ true) s.tasks

module _ (finishes : List Finish) (s : State) (sound : IsSound s) (ready : IsReady finishes s) where
  -- of a task
  abbrev Goes : Task → Type 0
  Goes t = t.role ≡ Running → goes_on finishes t ≡ true

  -- a job that was behind
  behind_goes : (t : Task) → IsMember t s.tasks → 1 ≤ left t → is_ready_behind t ≡ true → goes_on finishes t ≡ true
  behind_goes t member some behind = going finishes t some (ready t member behind)

  -- the job that ran, where it has work left and didn't complete
  runner_goes : (m : Move) → Decides finishes s m → is_complete m ≡ false → (r t : Task) → IsMember r s.tasks
      → r.role ≡ Running → 1 ≤ left r → IsMember t s.tasks → t.role ≡ Running → goes_on finishes t ≡ true
  runner_goes m it on r t member runs some t_member t_runs =
      let same : t ≡ r = one_number 0 s.tasks sound.numbered t r t_member member
      (sound.one_runs t r t_member member t_runs runs) in
      going finishes t (subst (λ (x : Task). 1 ≤ left x) (sym same) some) (it.goes on t t_member t_runs)

  -- a displaced job doesn't run
  displaced_stands : (role : Role) → displaced role ≡ Running → ⊥
  displaced_stands Coming e = cc
  displaced_stands _ e = cc

  -- after each deed but a tick
  deed_goes : (k : Fraction) (m : Move) → Deed k s Ticks m → Decides finishes s m → (m ≡ Ticks → ⊥)
      → GoesOn finishes (after s m)
  deed_goes k m (Completed r member runs) it on = on_changed 0 s.tasks sound.numbered r member Done Goes
      (λ e. absurd (let f : Done ≡ Running = e in cc))
      (λ t mt differs t_runs. absurd (differs (sound.one_runs t r mt member t_runs runs)))
  deed_goes k m (Resumed p member held none least why) it on = on_changed 0 s.tasks sound.numbered p member Running Goes
      (λ _. behind_goes p member (says s sound p member Held held).0 (passes is_ready_behind p Held true held refl))
      (λ t mt differs t_runs. absurd (none t mt t_runs))
  deed_goes k m (Started o member waiting none first fits next) it on =
      on_changed 0 s.tasks sound.numbered o member Running Goes
      (λ _. behind_goes o member (says s sound o member Waiting waiting).0
      (passes is_ready_behind o Waiting true waiting refl))
      (λ t mt differs t_runs. absurd (none t mt t_runs))
  deed_goes k m (Began f member fresh none free) it on = on_changed 0 s.tasks sound.numbered f member Running Goes
      (λ _. going finishes f (says s sound f member Fresh fresh).1
      (none_due finishes f (says s sound f member Fresh fresh).0))
      (λ t mt differs t_runs. absurd (none t mt t_runs))
  deed_goes k m (Preempted r f member runs some f_member fresh before fits) it on =
      on_map (λ t. with_role t (cond (eqb t.number f.number) Running (cond (eqb t.number r.number) Held t.role)))
      Goes s.tasks (λ t mt. by_numbers t mt (eqb t.number f.number) (eqb t.number r.number) refl refl) where
        by_numbers : (t : Task) → IsMember t s.tasks → (b c : Bool) → eqb t.number f.number ≡ b
            → eqb t.number r.number ≡ c → Goes (with_role t (cond b Running (cond c Held t.role)))
        by_numbers t mt true c is_f e _ = subst (λ x. goes_on finishes x ≡ true)
            (sym (one_number 0 s.tasks sound.numbered t f mt f_member (eqb-true _ _ is_f)))
            (going finishes f (says s sound f f_member Fresh fresh).1
            (none_due finishes f (says s sound f f_member Fresh fresh).0))
        by_numbers t mt false true is_f is_r e = absurd (let g : Held ≡ Running = e in cc)
        by_numbers t mt false false is_f is_r t_runs =
            never (sym is_r ∙ eq-eqb _ _ (sound.one_runs t r mt member t_runs runs))
  deed_goes k m (Stayed r f member runs some f_member fresh why) it on =
      on_changed 0 s.tasks sound.numbered f f_member Waiting Goes (λ e. absurd (let g : Waiting ≡ Running = e in cc))
      (λ t mt differs t_runs. runner_goes m it refl r t member runs some mt t_runs)
  deed_goes k m (Arrived c member comes now first stale busy free) it on =
      on_changed 0 s.tasks sound.numbered c member Fresh Goes (λ e. absurd (let g : Fresh ≡ Running = e in cc))
      (λ t mt differs t_runs. going finishes t (busy t mt t_runs) (it.goes refl t mt t_runs))
  deed_goes k m (Taken r x member runs some x_member waiting now stale heavy) it on =
      on_map (λ t. with_role t (cond (eqb t.number x.number) Running (displaced t.role))) Goes s.tasks
      (λ t mt. by_number t mt (eqb t.number x.number) refl) where
        by_number : (t : Task) → IsMember t s.tasks → (b : Bool) → eqb t.number x.number ≡ b
            → Goes (with_role t (cond b Running (displaced t.role)))
        by_number t mt true is_x _ = subst (λ y. goes_on finishes y ≡ true)
            (sym (one_number 0 s.tasks sound.numbered t x mt x_member (eqb-true _ _ is_x)))
            (behind_goes x x_member (says s sound x x_member Waiting waiting).0
            (passes is_ready_behind x Waiting true waiting refl))
        by_number t mt false is_x e = absurd (displaced_stands t.role e)
  deed_goes k m (Abandoned r x member runs some x_member waiting now stale light) it on =
      on_changed 0 s.tasks sound.numbered x x_member Gone Goes (λ e. absurd (let g : Gone ≡ Running = e in cc))
      (λ t mt differs t_runs. runner_goes m it refl r t member runs some mt t_runs)
  deed_goes k m (Rested quiet) it on = absurd (on refl)

-- the job that a completion is of
pub record CompletedNow (s : State) (at n : ℕ) : Type 0 where
  pub job : Task
  pub member : IsMember job s.tasks
  pub runs : job.role ≡ Running
  pub clock : at ≡ s.clock
  pub number : n ≡ job.number

-- a step that is a completion
completed_now : (k : Fraction) (s : State) (at n : ℕ) (m : Move) → Deed k s Ticks m → m ≡ Prints (Complete at n)
    → CompletedNow s at n
completed_now k s at n m (Completed r member runs) e =
    let same : Prints (Complete s.clock r.number) ≡ Prints (Complete at n) = e in
    record { job = r; member = member; runs = runs; clock = cc; number = cc }
completed_now k s at n m (Rested quiet) e = absurd (let f : Ticks ≡ Prints (Complete at n) = e in cc)
completed_now k s at n m _ e = absurd (cc)

-- ---- the first step of its clock

-- a path in two parts
path_parts : (rules : Rules) (mark : ℕ) (xs ys : List Step) (s t : State) → IsOpenPath rules mark s (xs ++ ys) t
    → (u : State) × IsOpenPath rules mark s xs u × IsOpenPath rules mark u ys t
path_parts rules mark [] ys s t path = (s, refl, path)
path_parts rules mark (x ∷ xs) ys s t path =
    let it = path_parts rules mark xs ys (after s (open_step rules s)) t path.2 in
    (it.0, (path.0, path.1, it.1), it.2)

-- a path whose steps are all taken at earlier clocks is one to that clock's barrier
early_path : (rules : Rules) (mark at : ℕ) (xs : List Step) (s t : State) → IsOpenPath rules mark s xs t
    → Each (λ x. x.before.clock < at) xs → IsOpenPath rules at s xs t
early_path rules mark at [] s t here early = here
early_path rules mark at (x ∷ xs) s t path early = (
  path.0,
  and_right (waits_for_mark (open_step rules s)) (nat_le at s.clock) (lt-leb at s.clock low),
  early_path rules mark at xs (after s (open_step rules s)) t path.2 (λ y m. early y (inr m)),
) where
  low : s.clock < at
  low = subst (λ (y : Step). y.before.clock < at) path.0 (early x (inl refl))

module _ (J : Instance) (valid : IsValid J) (mark : ℕ) where
  -- on a path to a completion all steps are taken at earlier clocks
  pub first_of_clock : (at n : ℕ) (xs : List Step) (s t : State) → Keeps J s → IsReady J.rules.finishes s
      → IsOpenPath J.rules mark s xs t → open_step J.rules t ≡ Prints (Complete at n)
      → Each (λ x. x.before.clock < t.clock) xs
  first_of_clock at n [] s t keeps ready path completes x here = absurd here
  first_of_clock at n (x ∷ []) s t keeps ready path completes y (inr none) = absurd none
  first_of_clock at n (x ∷ []) s t keeps ready path completes y (inl e) =
      subst (λ (z : Step). z.before.clock < t.clock) (sym (e ∙ path.0)) (by_clock (clock_after s (open_step J.rules s)))
    where
      t_is : t ≡ after s (open_step J.rules s)
      t_is = path.2

      t_keeps : Keeps J t
      t_keeps = subst (Keeps J) (sym t_is) (open_kept J valid s keeps J.rules)

      it : CompletedNow t at n
      it = completed_now J.rules.ratio t at n _ (open_deed J valid t t_keeps J.rules) completes

      ends : goes_on J.rules.finishes it.job ≡ false
      ends = (open_decides t t_keeps.sound J.rules).ends (ap is_complete completes) it.job it.member it.runs

      ticked_there : open_step J.rules s ≡ Ticks → s.clock < t.clock
      ticked_there e = let clock : t.clock ≡ s.clock + 1 = ap (λ (z : State). z.clock) t_is
          ∙ ap (λ m. (after s m).clock) e in omega arith

      by_move : (m : Move) → open_step J.rules s ≡ m → (m ≡ Ticks → ⊥) → s.clock < t.clock
      by_move m e on =
          let goes : GoesOn J.rules.finishes (after s (open_step J.rules s)) =
          deed_goes J.rules.finishes s keeps.sound ready J.rules.ratio (open_step J.rules s)
          (open_deed J valid s keeps J.rules) (open_decides s keeps.sound J.rules)
          (λ ticks. on (sym e ∙ ticks)) in
          never (sym ends ∙ goes it.job (subst (λ (z : State). IsMember it.job z.tasks) t_is it.member) it.runs)

      by_kind : (m : Move) → open_step J.rules s ≡ m → s.clock < t.clock
      by_kind Ticks e = ticked_there e
      by_kind (Prints event) e = by_move (Prints event) e (λ f. let g : Prints event ≡ Ticks = f in cc)
      by_kind (Waits number) e = by_move (Waits number) e (λ f. let g : Waits number ≡ Ticks = f in cc)

      by_clock : ((after s (open_step J.rules s)).clock ≡ s.clock)
          ⊎ ((open_step J.rules s ≡ Ticks) × ((after s (open_step J.rules s)).clock ≡ s.clock + 1))
          → s.clock < t.clock
      by_clock (inl same) = by_kind (open_step J.rules s) refl
      by_clock (inr ticks) = ticked_there ticks.0
  first_of_clock at n (x ∷ y ∷ zs) s t keeps ready path completes w there_w = by_member
      (first_of_clock at n (y ∷ zs) (after s (open_step J.rules s)) t (open_kept J valid s keeps J.rules)
      (open_ready J valid s keeps J.rules ready) path.2 completes) w there_w where
        by_member : Each (λ z. z.before.clock < t.clock) (y ∷ zs) → Each (λ z. z.before.clock < t.clock) (x ∷ y ∷ zs)
        by_member rest z (inr there) = rest z there
        by_member rest z (inl e) = subst (λ (v : Step). v.before.clock < t.clock) (sym (e ∙ path.0))
            (let next : (after s (open_step J.rules s)).clock < t.clock =
            subst (λ (v : Step). v.before.clock < t.clock) path.2.0 (rest y (inl refl)) in
            let grows : s.clock ≤ (after s (open_step J.rules s)).clock = later_clock s (open_step J.rules s) in
            omega arith)

  -- jobs that are over stay so on a path
  path_over : (at : ℕ) (fs : List Finish) (xs : List Step) (s t : State) → Keeps J s → IsOpenPath J.rules at s xs t
      → AreOverFor fs s → AreOverFor fs t
  path_over at fs [] s t keeps here over = subst (AreOverFor fs) (sym here) over
  path_over at fs (x ∷ xs) s t keeps path over = path_over at fs xs (after s (open_step J.rules s)) t
      (open_kept J valid s keeps J.rules) path.2 (over_after J valid s keeps J.rules fs over)

  -- at the barrier of a completion's tick its job is over
  over_then : (at n : ℕ) (xs ys : List Step) (x : Step) → settled_steps J mark ≡ xs ++ (x ∷ ys)
      → x.move ≡ Prints (Complete at n)
      → Each (λ t. t.number ≡ n → is_over t ≡ true) (settled_state J at).tasks
  over_then at n xs ys x whole is = subst (λ (z : State). Each (λ t. t.number ≡ n → is_over t ≡ true) z.tasks)
      (sym at_z) (over_z (record { number = n; had = 0 }) (inl refl)) where
        all : (t : State) × IsOpenPath J.rules mark (opening J.jobs) (settled_steps J mark) t × IsBarrier J.rules mark t
        all = settled_path J.rules mark (settled_steps J mark) (opening J.jobs) (settled_is_run J mark valid)

        parts : (u : State) × IsOpenPath J.rules mark (opening J.jobs) xs u × IsOpenPath J.rules mark u (x ∷ ys) all.0
        parts = path_parts J.rules mark xs (x ∷ ys) (opening J.jobs) all.0
            (subst (λ steps. IsOpenPath J.rules mark (opening J.jobs) steps all.0) whole all.1)

        u : State
        u = parts.0

        completes : open_step J.rules u ≡ Prints (Complete at n)
        completes = sym (ap (λ (y : Step). y.move) parts.2.0) ∙ is

        u_keeps : Keeps J u
        u_keeps = path_keeps J valid mark xs (opening J.jobs) u (opening_keeps J) parts.1

        u_ready : IsReady J.rules.finishes u
        u_ready = path_ready J valid mark xs (opening J.jobs) u (opening_keeps J)
            (opening_ready J.rules.finishes J.jobs) parts.1

        it : CompletedNow u at n
        it = completed_now J.rules.ratio u at n _ (open_deed J valid u u_keeps J.rules) completes

        early : Each (λ y. y.before.clock < at) xs
        early = subst (λ c. Each (λ y. y.before.clock < c) xs) (sym it.clock)
            (first_of_clock at n xs (opening J.jobs) u (opening_keeps J) (opening_ready J.rules.finishes J.jobs) parts.1
            completes)

        v : State
        v = after u (open_step J.rules u)

        path_v : IsOpenPath J.rules at (opening J.jobs) (xs ++ (open_at J.rules u ∷ [])) v
        path_v = path_append J.rules at xs (open_at J.rules u ∷ []) (opening J.jobs) u v
            (early_path J.rules mark at xs (opening J.jobs) u parts.1 early)
            (refl, ap (λ m. waits_for_mark m && nat_le at u.clock) completes, refl)

        v_keeps : Keeps J v
        v_keeps = open_kept J valid u u_keeps J.rules

        rest : Settles J.rules at v (potential J.rules.finishes at v)
        rest = settles J valid J.rules at (potential J.rules.finishes at v) v v_keeps
            (open_ready J valid u u_keeps J.rules u_ready) (omega arith)

        path_z : (t : State) × IsOpenPath J.rules at v rest.0 t × IsBarrier J.rules at t
        path_z = settled_path J.rules at rest.0 v rest.1

        same_steps : settled_steps J at ≡ (xs ++ (open_at J.rules u ∷ [])) ++ rest.0
        same_steps = one_settled_run J.rules at (settled_steps J at) ((xs ++ (open_at J.rules u ∷ [])) ++ rest.0)
            (opening J.jobs) (settled_is_run J at valid)
            (path_then_settled J.rules at (xs ++ (open_at J.rules u ∷ [])) rest.0 (opening J.jobs) v path_v rest.1)

        at_z : settled_state J at ≡ path_z.0
        at_z = path_state J.rules at (settled_steps J at) (opening J.jobs) path_z.0
            (subst (λ steps. IsOpenPath J.rules at (opening J.jobs) steps path_z.0) (sym same_steps)
            (path_append J.rules at (xs ++ (open_at J.rules u ∷ [])) rest.0
            (opening J.jobs) v path_z.0 path_v path_z.1))

        done : (t : Task) → (b : Bool) → eqb t.number n ≡ b → t.number ≡ n
            → is_over (with_role t (cond b Done t.role)) ≡ true
        done t true e same = refl
        done t false e same = never (sym e ∙ eq-eqb _ _ same)

        over_v : AreOverFor (record { number = n; had = 0 } ∷ []) v
        over_v f (inr none) = absurd none
        over_v f (inl e) = subst (λ (g : Finish). Each (λ t. t.number ≡ g.number → is_over t ≡ true) v.tasks) (sym e)
            (subst (λ m. Each (λ t. t.number ≡ n → is_over t ≡ true) (after u m).tasks) (sym completes)
            (on_map (λ t. with_role t (cond (eqb t.number n) Done t.role)) (λ t. t.number ≡ n
            → is_over t ≡ true) u.tasks
            (λ t mt same. done t (eqb t.number n) refl same)))

        over_z : AreOverFor (record { number = n; had = 0 } ∷ []) path_z.0
        over_z = path_over at (record { number = n; had = 0 } ∷ []) rest.0 v path_z.0 v_keeps path_z.1 over_v

-- ---- printed completions name no finish

-- the finish that a step names behind a session, if it is a completion of a job with work left
abbrev pub finish_in : Session → Event → Option Item
finish_in S (Release n j) = None
finish_in S (Run at n) = None
finish_in S (Preempt at stops starts) = None
finish_in S (Take at stops starts) = None
finish_in S (Complete at n) = option_map FinishItem (early_at S at n)
finish_in S (Abandon at n) = None
finish_in S (End value) = None

-- none of the steps names a finish
abbrev pub NameNone : Session → List Event → Type 0
NameNone S es = AllByRecursion (λ e. finish_in S e ≡ None) es

-- a job that is over has no finish
over_names_none : (S : Session) (at n : ℕ)
    → Each (λ t. t.number ≡ n → is_over t ≡ true) (settled_state (instance_of S) at).tasks
    → option_map FinishItem (early_at S at n) ≡ None
over_names_none S at n over = by_version (may_finish_early S.rules.version) where
  none_there : finish_at (instance_of S) at n ≡ None
  none_there = none_other (instance_of S) at n (λ r some same.
      let it = found is_running (settled_state (instance_of S) at).tasks r some in
      never (sym (passes is_over r Running false (is_running_role r it.1) refl) ∙ over r it.0 same))

  by_version : (b : Bool) → option_map FinishItem (cond b (finish_at (instance_of S) at n) None) ≡ None
  by_version false = refl
  by_version true = ap (option_map FinishItem) none_there

-- of what is settled
pub settled_names_none : (S : Session) (mark : ℕ) → IsValid (instance_of S) → NameNone S (settled (instance_of S) mark)
settled_names_none S mark valid = from [] (settled_steps (instance_of S) mark) refl where
  of_event : (front : List Step) (x : Step) (back : List Step)
      → settled_steps (instance_of S) mark ≡ front ++ (x ∷ back) → (e : Event) → x.move ≡ Prints e
      → finish_in S e ≡ None
  of_event front x back whole (Complete at n) is = over_names_none S at n
      (over_then (instance_of S) valid mark at n front back x whole is)
  of_event front x back whole _ is = refl

  cons_named : (m : Move) (es : List Event) → ((e : Event) → m ≡ Prints e → finish_in S e ≡ None) → NameNone S es
      → NameNone S (cons_option (event_of m) es)
  cons_named (Prints e) es here rest = (here e refl, rest)
  cons_named _ es here rest = rest

  from : (front back : List Step) → settled_steps (instance_of S) mark ≡ front ++ back → NameNone S (printed_of back)
  from front [] whole = tt
  from front (x ∷ back) whole = cons_named x.move (printed_of back) (of_event front x back whole)
      (from (front ++ (x ∷ [])) back (whole ∙ sym (append_assoc front (x ∷ []) back)))

-- of the run
pub run_names_none : (S : Session) → IsValid (instance_of S) → NameNone S (printed (instance_of S))
run_names_none S valid =
    let rest = (rests_where_ended (instance_of S) (end_tick (instance_of S)) valid).1 (omega arith) in
    subst (NameNone S) (sym (end_at_rest (instance_of S) (end_tick (instance_of S)) valid rest))
    (all_append (λ e. finish_in S e ≡ None) (before_end (printed (instance_of S))) _
    (subst (NameNone S) (settled_at_rest (instance_of S) (end_tick (instance_of S)) valid rest)
    (settled_names_none S (end_tick (instance_of S)) valid)) (refl, tt))
