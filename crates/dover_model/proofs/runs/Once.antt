-- Over a run each job takes once at most and preempts once at most, and as often as a job completes, one gets the free
-- processor.
use Rattle.std.proofs.Common.{◌≡◌, ℕ, ◌+◌, ◌≤◌, ◌<◌, ◌⊎◌, inl, inr, List, [], ◌∷◌, map, refl, sym, ap, ◌∙◌, subst, Bool}
use Rattle.std.proofs.Common.{true, false, cond, arith, eqb}
use Rattle.std.specs.Bool.{MatchBool, then_some}
use Rattle.std.specs.List.{count_by, list_all, filter}
use Rattle.std.proofs.lemmas.Bool.{eqb-true, eqb-false, eq-eqb, false_from_ne_true}
use Rattle.std.proofs.lemmas.List.Sums.{sum_by-cons}
use Rattle.dover_model.specs.Common.{Fraction, Role, Coming, Fresh, Waiting, Held, Running, Done, Gone, Run, Preempt}
use Rattle.dover_model.specs.Common.{Take, End, Task, Rules, Instance, IsValid, State, opening, is_privileged}
use Rattle.dover_model.specs.Common.{is_ready_behind, is_over, is_done, left, latest_start, value_sum, privileged}
use Rattle.dover_model.specs.Common.{is_heavy, Move, Prints, Ticks, step, after, ending, ◌or_else◌, with_role}
use Rattle.dover_model.specs.Common.{displaced, ticked, Step, is_end, run, IsWholeRun, is_take_of, is_preempt_of}
use Rattle.dover_model.specs.Common.{is_run, is_complete, SomeRuns, IsMember, Each, NoneRuns, IsSound, Keeps, standing}
use Rattle.dover_model.specs.Common.{stands, one_if, Finish, goes_on}
use Rattle.dover_model.proofs.lists.Members.{on_map, map_member}
use Rattle.dover_model.proofs.steps.Roles.{passes, one_number}
use Rattle.dover_model.proofs.steps.Loads.{Fits, with_roles}
use Rattle.dover_model.proofs.steps.OneChange.{state_with, on_changed, changed_here, changed_there}
use Rattle.dover_model.proofs.steps.Moves.{says, active_slack}
use Rattle.dover_model.proofs.steps.Ticking.{Quiet}
use Rattle.dover_model.proofs.steps.Deeds.{Deed, Completed, Resumed, Started, Began, Preempted, Stayed, Arrived, Taken}
use Rattle.dover_model.proofs.steps.Deeds.{Abandoned, Rested}
use Rattle.dover_model.proofs.steps.Kept.{step_deed, step_kept, opening_keeps, come_coming, end_same}
use Rattle.dover_model.proofs.steps.Preempting.{waits_sound, r_there, held_sound, f_there, same_tasks, one_waits}
use Rattle.dover_model.proofs.steps.Preempting.{one_held}
use Rattle.dover_model.proofs.runs.Potential.{standing_more, stands_of, stands_running, stands_done, stands_held}
use Rattle.dover_model.proofs.runs.Potential.{stood_not, steps_scale, stood_less, stands_then, stood}
use Rattle.dover_model.proofs.runs.Ending.{end_over, run_is_whole}
use Rattle.dover_model.proofs.finishes.Readiness.{going, IsReady, Decides, step_decides, step_ready, opening_ready}
use Rattle.dover_model.proofs.lists.Tests.{never}

-- ---- jobs that are decided on, and those that can't take any more

-- The job is decided on; where `late`, it is also at its latest start or past it, and if it waits, its value is at most
-- what stands against a take, which is w.
abbrev Spent : Bool → Role → ℕ → ℕ → Task → Type 0
Spent late Coming clock w t = ⊥
Spent late Fresh clock w t = ⊥
Spent late Waiting clock w t = late ≡ true → (latest_start t ≤ clock) × (t.job.value ≤ w)
Spent late Held clock w t = late ≡ true → latest_start t ≤ clock
Spent late Running clock w t = late ≡ true → latest_start t ≤ clock
Spent late Done clock w t = Unit {0}
Spent late Gone clock w t = Unit {0}

module _ (finishes : List Finish) where
  -- so is the job of number n
  abbrev IsSpent : Bool → ℕ → State → Type 0
  IsSpent late n s = Each (λ t. t.number ≡ n → Spent late t.role s.clock (standing finishes s.tasks) t) s.tasks

  -- where more stands against a take, it stays so
  spent_more : (late : Bool) (role : Role) (clock w w' : ℕ) (t : Task) → w ≤ w' → Spent late role clock w t
      → Spent late role clock w' t
  spent_more late Waiting clock w w' t more spent = λ e. let low : t.job.value ≤ w = (spent e).1 in
      ((spent e).0, omega arith)
  spent_more late _ clock w w' t more spent = spent

  -- a job of a known role
  spent_as : (late : Bool) (clock w : ℕ) (t : Task) (role : Role) → t.role ≡ role → Spent late t.role clock w t
      → Spent late role clock w t
  spent_as late clock w t role e spent = subst (λ x. Spent late x clock w t) e spent

  module _ (late : Bool) (n : ℕ) (s : State) (sound : IsSound s) (r : Task) (member : IsMember r s.tasks)
      (new : Role) where
    -- it stays so where one job gets a new role
    one_spent : stands finishes r ≤ stands finishes (with_role r new)
        → ((w : ℕ) → Spent late r.role s.clock w r → Spent late new s.clock w (with_role r new))
        → IsSpent late n s → IsSpent late n (state_with s r new)
    one_spent no_less goes spent = on_changed 0 s.tasks sound.numbered r member new
        (λ t. t.number ≡ n → Spent late t.role s.clock (standing finishes (state_with s r new).tasks) t)
        (λ same. spent_more late new s.clock (standing finishes s.tasks) (standing finishes
        (state_with s r new).tasks) (with_role r new)
        (standing_more finishes steps_scale s sound r member new no_less) (goes (standing finishes s.tasks)
        (spent r member same)))
        (λ t m _ same. spent_more late t.role s.clock (standing finishes s.tasks) (standing finishes
        (state_with s r new).tasks) t
        (standing_more finishes steps_scale s sound r member new no_less) (spent t m same))

    -- it is so of the job that gets the role
    here_spent : r.number ≡ n → ((w : ℕ) → Spent late new s.clock w (with_role r new))
        → IsSpent late n (state_with s r new)
    here_spent is_n now = on_changed 0 s.tasks sound.numbered r member new
        (λ t. t.number ≡ n → Spent late t.role s.clock (standing finishes (state_with s r new).tasks) t)
        (λ _. now (standing finishes (state_with s r new).tasks)) (λ t m differs same. absurd (differs (same
        ∙ sym is_n)))

  -- a displaced job takes no more than before
  displaced_spent : (late : Bool) (role : Role) (clock w w' : ℕ) (t : Task) → w ≤ w'
      → (is_privileged (with_role t role) ≡ true → t.job.value ≤ w')
      → Spent late role clock w t → Spent late (displaced role) clock w' (with_role t (displaced role))
  displaced_spent late Waiting clock w w' t more stood spent = spent_more late Waiting clock w w' t more spent
  displaced_spent late Held clock w w' t more stood spent = λ e. (spent e, stood refl)
  displaced_spent late Running clock w w' t more stood spent = λ e. (spent e, stood refl)
  displaced_spent late _ clock w w' t more stood spent = spent

  module _ (late : Bool) (n : ℕ) (k : Fraction) (s : State) (sound : IsSound s) (r x : Task)
      (member : IsMember r s.tasks)
      (runs : r.role ≡ Running)
      (some : goes_on finishes r ≡ true) (x_member : IsMember x s.tasks) (waiting : x.role ≡ Waiting)
      (goes : goes_on finishes x ≡ true) (now : latest_start x
      ≡ s.clock) (heavy : is_heavy k x.job.value (value_sum (privileged s)) ≡ true) where
    -- the state after the take
    abbrev taken : State
    taken = after s (Prints (Take s.clock r.number x.number))

    -- more stands then
    stands_up : standing finishes s.tasks < standing finishes taken.tasks
    stands_up =
        let less : standing finishes s.tasks < x.job.value =
        stood_less finishes steps_scale k s sound r x member runs some x_member waiting goes now heavy in
        let most : x.job.value ≤ standing finishes taken.tasks =
        stands_then finishes steps_scale k s sound r x member runs some x_member waiting goes now heavy in
        omega arith

    -- after a take it is so of the taker, and of those of which it was so
    take_spent : (x.number ≡ n) ⊎ IsSpent late n s → IsSpent late n taken
    take_spent why = on_map (λ t. with_role t (cond (eqb t.number x.number) Running (displaced t.role)))
        (λ t. t.number ≡ n → Spent late t.role s.clock (standing finishes taken.tasks) t) s.tasks
        (λ t m same. by_number t m same (eqb t.number x.number) refl why) where
          by_number : (t : Task) → IsMember t s.tasks → t.number ≡ n → (b : Bool) → eqb t.number x.number ≡ b
              → (x.number ≡ n) ⊎ IsSpent late n s
              → Spent late (cond b Running (displaced t.role)) s.clock (standing finishes taken.tasks)
              (with_role t (cond b Running (displaced t.role)))
          by_number t m same true is_x _ = λ _. subst (λ y. latest_start y ≤ s.clock)
              (sym (one_number 0 s.tasks sound.numbered t x m x_member (eqb-true _ _ is_x))) (omega (arith, now))
          by_number t m same false differs (inl is_n) = absurd (eqb-false _ _ differs (same ∙ sym is_n))
          by_number t m same false differs (inr spent) =
              displaced_spent late t.role s.clock (standing finishes s.tasks) (standing finishes taken.tasks) t
              (omega (arith, stands_up))
              (λ is_in. let low : t.job.value ≤ standing finishes s.tasks =
              stood finishes steps_scale k s sound r x member runs some x_member waiting goes now heavy t m is_in in
              omega (arith, stands_up)) (spent t m same)

    -- a job of which it is so doesn't take
    takes_not : IsSpent true n s → x.number ≡ n → ⊥
    takes_not spent is_n =
        let less : standing finishes s.tasks < x.job.value =
        stood_less finishes steps_scale k s sound r x member runs some x_member waiting goes now heavy in
        let low : x.job.value ≤ standing finishes s.tasks =
        (spent_as true s.clock (standing finishes s.tasks) x Waiting waiting (spent x x_member is_n) refl).1 in
        omega arith

  module _ (late : Bool) (n : ℕ) (s : State) (sound : IsSound s) (r f : Task) (member : IsMember r s.tasks)
      (runs : r.role ≡ Running) (some : 1 ≤ left r)
      (f_member : IsMember f s.tasks) (fresh : f.role ≡ Fresh) (before : f.job.deadline < r.job.deadline)
      (fits : Fits (left f) s) where
    -- the fresh job waits
    abbrev first_state : State
    first_state = one_waits s sound r f member runs some f_member fresh before fits

    -- the running job is held
    abbrev second_state : State
    second_state = one_held s sound r f member runs some f_member fresh before fits

    -- the state after the preemption
    abbrev preempted : State
    preempted = after s (Prints (Preempt s.clock r.number f.number))

    -- what is true after three changes is true after the preemption
    by_changes : IsSpent late n (state_with second_state (with_role f Waiting) Running) → IsSpent late n preempted
    by_changes spent = subst (λ (tasks : List Task). IsSpent late n (record s { tasks = tasks }))
        (same_tasks s sound r f member runs some f_member fresh before fits) spent

    -- a preemption changes nothing of it
    preempt_spent : IsSpent late n s → IsSpent late n preempted
    preempt_spent spent = by_changes
        (one_spent late n second_state (held_sound s sound r f member runs some f_member fresh before fits)
        (with_role f Waiting)
        (f_there s sound r f member runs some f_member fresh before fits) Running (omega arith) (λ w h e. (h e).0)
        (one_spent late n first_state (waits_sound s sound r f member runs some f_member fresh before fits) r
        (r_there s sound r f member runs some f_member fresh before fits) Held
        (stands_held finishes r runs)
        (λ w h. spent_as late s.clock w r Running runs h)
        (one_spent late n s sound f f_member Waiting (stood_not finishes f Fresh fresh refl (stands finishes
        (with_role f Waiting)))
        (λ w h. absurd (spent_as late s.clock w f Fresh fresh h)) spent)))

  -- the job that preempts is decided on
  preempt_decides : (n : ℕ) (s : State) (sound : IsSound s) (r f : Task) (member : IsMember r s.tasks)
      (runs : r.role ≡ Running) (some : 1 ≤ left r)
      (f_member : IsMember f s.tasks) (fresh : f.role ≡ Fresh) (before : f.job.deadline < r.job.deadline)
      (fits : Fits (left f) s) → f.number ≡ n
      → IsSpent false n (after s (Prints (Preempt s.clock r.number f.number)))
  preempt_decides n s sound r f member runs some f_member fresh before fits is_n =
      by_changes false n s sound r f member runs some f_member fresh before fits
      (here_spent false n (second_state false n s sound r f member runs some f_member fresh before fits)
      (held_sound s sound r f member runs some f_member fresh before fits) (with_role f Waiting)
      (f_there s sound r f member runs some f_member fresh before fits) Running is_n (λ w e. never e))

  module _ (late : Bool) (n : ℕ) (s : State) (sound : IsSound s) (quiet : Quiet s) where
    -- one tick later it is still so of a job
    tick_role : (w w' : ℕ) (t : Task) (role : Role) → (role ≡ Waiting → s.clock + left t ≤ t.job.deadline)
        → (role ≡ Waiting → latest_start t ≡ s.clock → ⊥) → (role ≡ Running → 1 ≤ left t)
        → (is_privileged (with_role t role) ≡ true → s.clock + left t ≤ t.job.deadline)
        → Spent late role s.clock w t → Spent late role (s.clock + 1) w' (ticked (with_role t role))
    tick_role w w' t Waiting waits early some slack spent = λ e.
        let in_time : s.clock + left t ≤ t.job.deadline = waits refl in
        let not_now : latest_start t ≡ s.clock → ⊥ = early refl in
        let past : latest_start t ≤ s.clock = (spent e).0 in absurd (not_now (omega arith))
    tick_role w w' t Held waits early some slack spent = λ e. let past : latest_start t ≤ s.clock = spent e in omega
        arith
    tick_role w w' t Running waits early some slack spent = λ e.
        let past : latest_start t ≤ s.clock = spent e in
        let some_left : 1 ≤ left t = some refl in
        let in_time : s.clock + left t ≤ t.job.deadline = slack refl in omega arith
    tick_role w w' t _ waits early some slack spent = spent

    -- of a job that waits
    waits_slack : (t : Task) → IsMember t s.tasks → t.role ≡ Waiting → s.clock + left t ≤ t.job.deadline
    waits_slack t m e = (says s sound t m Waiting e).2

    -- a silent tick changes nothing of it
    tick_spent : IsSpent late n s → IsSpent late n (after s Ticks)
    tick_spent spent = on_map ticked
        (λ t. t.number ≡ n → Spent late t.role (s.clock + 1) (standing finishes (map ticked s.tasks)) t) s.tasks
        (λ t m same. tick_role (standing finishes s.tasks) (standing finishes (map ticked s.tasks)) t t.role
        (waits_slack t m)
        (quiet.early t m) (quiet.busy t m)
        (active_slack s sound t m) (spent t m same))

  module _ (n : ℕ) (k : Fraction) (s : State) (other : Move) (sound : IsSound s) (ready : IsReady finishes s) where
    -- a job behind goes on
    behind_goes : (t : Task) → IsMember t s.tasks → is_ready_behind t ≡ true → 1 ≤ left t → goes_on finishes t ≡ true
    behind_goes t member behind some = going finishes t some (ready t member behind)

    -- a waiting job does
    waiting_goes : (x : Task) → IsMember x s.tasks → x.role ≡ Waiting → goes_on finishes x ≡ true
    waiting_goes x member waiting = behind_goes x member (passes is_ready_behind x Waiting true waiting refl)
        (says s sound x member Waiting waiting).0

    -- each deed keeps it
    deed_spent : (late : Bool) → (Quiet s → IsSpent late n s → IsSpent late n (after s other)) → IsSpent late n s
        → (m : Move) → Deed k s other m → Decides finishes s m
        → IsSpent late n (after s m)
    deed_spent late rests spent m (Completed r member runs) it =
        one_spent late n s sound r member Done (omega
        (arith, stands_of finishes r Running runs, stands_done finishes r (it.ends refl r member runs)))
        (λ w h. tt) spent
    deed_spent late rests spent m (Resumed p member held none least why) it = one_spent late n s sound p member Running
        (omega (
          arith,
          stands_of finishes p Held held,
          stands_running finishes p
              (behind_goes p member (passes is_ready_behind p Held true held refl) (says s sound p member Held held).0),
        ))
        (λ w h. spent_as late s.clock w p Held held h) spent
    deed_spent late rests spent m (Started o member waiting none ahead fits next) it =
        one_spent late n s sound o member Running
        (stood_not finishes o Waiting waiting refl (stands finishes (with_role o Running)))
        (λ w h e. (spent_as late s.clock w o Waiting waiting h e).0) spent
    deed_spent late rests spent m (Began f member fresh none free) it = one_spent late n s sound f member Running
        (stood_not finishes f Fresh fresh refl (stands finishes (with_role f Running)))
        (λ w h. absurd (spent_as late s.clock w f Fresh fresh h)) spent
    deed_spent late rests spent m (Preempted r f member runs some f_member fresh before fits) it =
        preempt_spent late n s sound r f member runs some f_member fresh before fits spent
    deed_spent late rests spent m (Stayed r f member runs some f_member fresh why) it =
        one_spent late n s sound f f_member Waiting
        (stood_not finishes f Fresh fresh refl (stands finishes (with_role f Waiting)))
        (λ w h. absurd (spent_as late s.clock w f Fresh fresh h)) spent
    deed_spent late rests spent m (Arrived c member comes now least stale busy free) it =
        one_spent late n s sound c member Fresh
        (stood_not finishes c Coming comes refl (stands finishes (with_role c Fresh)))
        (λ w h. absurd (spent_as late s.clock w c Coming comes h)) spent
    deed_spent late rests spent m (Taken r x member runs some x_member waiting now stale heavy) it =
        take_spent late n k s sound r x member runs (going finishes r some
        (it.goes refl r member runs)) x_member waiting
        (waiting_goes x x_member waiting) now heavy (inr spent)
    deed_spent late rests spent m (Abandoned r x member runs some x_member waiting now stale light) it =
        one_spent late n s sound x x_member Gone
        (stood_not finishes x Waiting waiting refl (stands finishes (with_role x Gone))) (λ w h. tt) spent
    deed_spent late rests spent m (Rested quiet) it = rests quiet spent

    -- a job that takes still could, and then can't any more
    deed_takes : is_take_of n other ≡ false → (m : Move) → Deed k s other m → Decides finishes s m
        → is_take_of n m ≡ true
        → (IsSpent true n s → ⊥) × IsSpent true n (after s m)
    deed_takes rests m (Taken r x member runs some x_member waiting now stale heavy) it e = (
      λ spent. takes_not true n k s sound r x member runs (going finishes r some
          (it.goes refl r member runs)) x_member waiting
          (waiting_goes x x_member waiting) now heavy spent (eqb-true _ _ e),
      take_spent true n k s sound r x member runs (going finishes r some (it.goes refl r member runs)) x_member waiting
          (waiting_goes x x_member waiting) now heavy (inl (eqb-true _ _ e)),
    )
    deed_takes rests m (Rested quiet) it e = never (sym rests ∙ e)
    deed_takes rests m _ it e = never e

    -- a job that preempts wasn't decided on, and then is
    deed_preempts : is_preempt_of n other ≡ false → (m : Move) → Deed k s other m → is_preempt_of n m ≡ true
        → (IsSpent false n s → ⊥) × IsSpent false n (after s m)
    deed_preempts rests m (Preempted r f member runs some f_member fresh before fits) e = (
      λ spent. spent_as false s.clock (standing finishes s.tasks) f Fresh fresh (spent f f_member (eqb-true _ _ e)),
      preempt_decides n s sound r f member runs some f_member fresh before fits (eqb-true _ _ e),
    )
    deed_preempts rests m (Rested quiet) e = never (sym rests ∙ e)
    deed_preempts rests m _ e = never e

-- ---- what is tested is true once

-- how many of these steps pass
abbrev counted : (Move → Bool) → List Step → ℕ
counted test xs = count_by (λ x. test x.move) xs

-- the first step and the others
first_counted : (rules : Rules) (test : Move → Bool) (x : Step) (xs : List Step) (s : State)
    → IsWholeRun rules s (x ∷ xs)
    → counted test (x ∷ xs) ≡ one_if (test (step rules s)) + counted test xs
first_counted rules test x xs s whole =
    sum_by-cons (λ y. one_if (test y.move)) x xs ∙ ap (λ (y : Step). one_if (test y.move) + counted test xs) whole.0

-- what holds of no steps and of a whole run holds of the steps after the first
of_later : (Q : Type 0) (b : Bool) (rules : Rules) (s : State) (xs : List Step)
    → MatchBool b (xs ≡ []) (IsWholeRun rules s xs)
    → (xs ≡ [] → Q) → (IsWholeRun rules s xs → Q) → Q
of_later Q true rules s xs none last onward = last none
of_later Q false rules s xs more last onward = onward more

module _ (J : Instance) (valid : IsValid J) (rules : Rules) (test : Move → Bool) (P : State → Type 0)
    (kept : (s : State) → Keeps J s → IsReady rules.finishes s → P s → P (after s (step rules s)))
    (passes_once : (s : State) → Keeps J s → IsReady rules.finishes s → test (step rules s) ≡ true → (P s
    → ⊥) × P (after s (step rules s))) where
  -- where P holds, no step passes any more
  none_more : (xs : List Step) (s : State) → Keeps J s → IsReady rules.finishes s → P s → IsWholeRun rules s xs
      → counted test xs ≡ 0
  none_more [] s keeps ready holds whole = absurd whole
  none_more (x ∷ xs) s keeps ready holds whole =
      let none : one_if (test (step rules s)) ≡ 0 =
      ap one_if (false_from_ne_true (test (step rules s)) (λ passed. (passes_once s keeps ready passed).0 holds)) in
      let later : counted test xs ≡ 0 =
      of_later (counted test xs ≡ 0) (is_end (step rules s)) rules (after s (step rules s)) xs whole.1
      (ap (counted test)) (none_more xs (after s (step rules s)) (step_kept J valid s keeps rules)
      (step_ready J valid s keeps rules ready)
      (kept s keeps ready holds)) in
      omega (arith, first_counted rules test x xs s whole)

  -- one step passes at most
  once : (xs : List Step) (s : State) → Keeps J s → IsReady rules.finishes s → IsWholeRun rules s xs
      → counted test xs ≤ 1
  once [] s keeps ready whole = absurd whole
  once (x ∷ xs) s keeps ready whole =
      by_test (test (step rules s)) refl (first_counted rules test x xs s whole)
      (of_later (counted test xs ≤ 1) (is_end (step rules s)) rules (after s (step rules s)) xs whole.1
      (λ none. omega (arith, ap (counted test) none))
      (once xs (after s (step rules s)) (step_kept J valid s keeps rules) (step_ready J valid s keeps rules ready)))
      (λ passed. of_later (counted test xs ≡ 0) (is_end (step rules s)) rules (after s (step rules s)) xs whole.1
      (ap (counted test))
      (none_more xs (after s (step rules s)) (step_kept J valid s keeps rules)
      (step_ready J valid s keeps rules ready) (passes_once s keeps ready passed).1)) where
        by_test : (b : Bool) → test (step rules s) ≡ b → counted test (x ∷ xs) ≡ one_if b + counted test xs
            → counted test xs ≤ 1
            → (test (step rules s) ≡ true → counted test xs ≡ 0) → counted test (x ∷ xs) ≤ 1
        by_test true passed all more none = omega (arith, all, none passed)
        by_test false failed all more none = omega (arith, all, more)

-- what is done where none of the first six cases applies
abbrev pub rest_of : State → Move
rest_of s = ending s or_else Ticks

-- neither End nor a silent tick passes
pub rest_fails : (test : Move → Bool) → ((value : ℕ) → test (Prints (End value)) ≡ false) → test Ticks ≡ false
    → (s : State) → test (rest_of s) ≡ false
rest_fails test ends ticks s = by_end (list_all is_over s.tasks) where
  by_end : (b : Bool) → test (then_some b (Prints (End (value_sum (filter is_done s.tasks)))) or_else Ticks) ≡ false
  by_end true = ends (value_sum (filter is_done s.tasks))
  by_end false = ticks

-- they change nothing of it
rest_spent : (finishes : List Finish) (late : Bool) (n : ℕ) (s : State) → IsSound s → Quiet s
    → IsSpent finishes late n s
    → IsSpent finishes late n (after s (rest_of s))
rest_spent finishes late n s sound quiet spent = by_end (list_all is_over s.tasks) where
  by_end : (b : Bool) → IsSpent finishes late n
      (after s (then_some b (Prints (End (value_sum (filter is_done s.tasks)))) or_else Ticks))
  by_end true = subst (λ (tasks : List Task). IsSpent finishes late n (record s { tasks = tasks }))
      (sym (end_same s (value_sum (filter is_done s.tasks)))) spent
  by_end false = tick_spent finishes late n s sound quiet spent

module _ (J : Instance) (n : ℕ) (valid : IsValid J) where
  -- each step keeps it
  step_spent : (late : Bool) (s : State) → Keeps J s → IsReady J.rules.finishes s → IsSpent J.rules.finishes late n s
      → IsSpent J.rules.finishes late n (after s (step J.rules s))
  step_spent late s keeps ready spent = deed_spent J.rules.finishes n J.rules.ratio s (rest_of s) keeps.sound ready late
      (λ quiet h. rest_spent J.rules.finishes late n s keeps.sound quiet h) spent (step J.rules s)
      (step_deed J valid s keeps J.rules)
      (step_decides s keeps.sound J.rules)

  -- a job takes once at most
  pub takes_once : count_by (λ x. is_take_of n x.move) (run J) ≤ 1
  takes_once = once J valid J.rules (is_take_of n) (IsSpent J.rules.finishes true n) (step_spent true)
      (λ s keeps ready. deed_takes J.rules.finishes n J.rules.ratio s (rest_of s) keeps.sound ready
      (rest_fails (is_take_of n) (λ value. refl) refl s)
      (step J.rules s) (step_deed J valid s keeps J.rules) (step_decides s keeps.sound J.rules))
      (run J) (opening J.jobs) (opening_keeps J) (opening_ready J.rules.finishes J.jobs) (run_is_whole J valid)

  -- a job preempts once at most
  pub preempts_once : count_by (λ x. is_preempt_of n x.move) (run J) ≤ 1
  preempts_once = once J valid J.rules (is_preempt_of n) (IsSpent J.rules.finishes false n) (step_spent false)
      (λ s keeps ready. deed_preempts J.rules.finishes n J.rules.ratio s (rest_of s) keeps.sound ready
      (rest_fails (is_preempt_of n) (λ value. refl) refl s)
      (step J.rules s) (step_deed J valid s keeps J.rules))
      (run J) (opening J.jobs) (opening_keeps J) (opening_ready J.rules.finishes J.jobs) (run_is_whole J valid)

-- ---- the processor is freed as often as it is given

-- some job runs, or none does
abbrev Uses : Bool → List Task → Type 0
Uses true tasks = SomeRuns tasks
Uses false tasks = NoneRuns tasks

-- where one runs, it isn't so that none does
is_busy : (tasks : List Task) (busy : Bool) (r : Task) → IsMember r tasks → r.role ≡ Running → Uses busy tasks
    → busy ≡ true
is_busy tasks true r member runs uses = refl
is_busy tasks false r member runs uses = absurd (uses r member runs)

-- where none runs, it isn't so that one does
is_free : (tasks : List Task) (busy : Bool) → NoneRuns tasks → Uses busy tasks → busy ≡ false
is_free tasks true none it = absurd (none it.0 it.1 it.2)
is_free tasks false none uses = refl

-- where all are over, none runs
over_runs_none : (s : State) → Each (λ t. is_over t ≡ true) s.tasks → NoneRuns s.tasks
over_runs_none s over t m runs = never (sym (passes is_over t Running false runs refl) ∙ over t m)

-- a move that gives the free processor to a job, frees it, or leaves it as it is
record Gives (busy : Bool) (s : State) (m : Move) : Type 0 where
  pub then_busy : Bool
  pub uses : Uses then_busy (after s m).tasks
  pub balance : one_if busy + one_if (is_run m) ≡ one_if (is_complete m) + one_if then_busy

-- where roles are changed, a job that runs then
some_runs : (role_then : Task → Role) (tasks : List Task) (r : Task) → IsMember r tasks → role_then r ≡ Running
    → SomeRuns (with_roles role_then tasks)
some_runs role_then tasks r member runs =
    (with_role r (role_then r), map_member (λ t. with_role t (role_then t)) tasks r member, runs)

module _ (s : State) (sound : IsSound s) where
  -- a job that neither ran nor runs changes nothing
  still_uses : (busy : Bool) (r : Task) → IsMember r s.tasks → (new : Role) → (r.role ≡ Running → ⊥)
      → (new ≡ Running → ⊥) → Uses busy s.tasks
      → Uses busy (state_with s r new).tasks
  still_uses true r member new ran not_new it = (
    it.0,
    changed_there s.tasks r it.0 new it.1 (λ same. ran (subst (λ (x : Task). x.role ≡ Running)
        (one_number 0 s.tasks sound.numbered it.0 r it.1 member same) it.2)),
    it.2,
  )
  still_uses false r member new ran not_new none =
      on_changed 0 s.tasks sound.numbered r member new (λ t. t.role ≡ Running → ⊥) not_new (λ t m _. none t m)

module _ (k : Fraction) (s : State) (other : Move) (sound : IsSound s)
    (rests : (busy : Bool) → Uses busy s.tasks → Gives busy s other) where
  -- a job gets the free processor
  one_given : (busy : Bool) → Uses busy s.tasks → NoneRuns s.tasks → (r : Task) → IsMember r s.tasks
      → Gives busy s (Prints (Run s.clock r.number))
  one_given busy uses none r member = record {
    then_busy = true;
    uses = (with_role r Running, changed_here 0 s.tasks sound.numbered r member Running, refl);
    balance = ap (λ b. one_if b + 1) (is_free s.tasks busy none uses);
  }

  -- each deed gives the free processor, frees it, or leaves it as it is
  deed_gives : (busy : Bool) → Uses busy s.tasks → (m : Move) → Deed k s other m → Gives busy s m
  deed_gives busy uses m (Completed r member runs) = record {
    then_busy = false;
    uses = on_changed 0 s.tasks sound.numbered r member Done (λ t. t.role ≡ Running → ⊥) (λ e. absurd (cc))
        (λ t m differs other_runs. differs (sound.one_runs t r m member other_runs runs));
    balance = ap (λ b. one_if b + 0) (is_busy s.tasks busy r member runs uses);
  }
  deed_gives busy uses m (Resumed p member held none least why) = one_given busy uses none p member
  deed_gives busy uses m (Started o member waiting none before fits next) = one_given busy uses none o member
  deed_gives busy uses m (Began f member fresh none free) = one_given busy uses none f member
  deed_gives busy uses m (Preempted r f member runs some f_member fresh before fits) = record {
    then_busy = true;
    uses = some_runs (λ t. cond (eqb t.number f.number) Running (cond (eqb t.number r.number) Held t.role)) s.tasks f
        f_member
        (ap (λ b. cond b Running (cond (eqb f.number r.number) Held f.role)) (eq-eqb f.number f.number refl));
    balance = ap (λ b. one_if b + 0) (is_busy s.tasks busy r member runs uses);
  }
  deed_gives busy uses m (Stayed r f member runs some f_member fresh why) = record {
    then_busy = busy;
    uses = still_uses s sound busy f f_member Waiting (λ e. let g : Fresh ≡ Running = sym fresh ∙ e in cc)
        (λ e. absurd (cc)) uses;
    balance = omega arith;
  }
  deed_gives busy uses m (Arrived c member comes now least stale busy_then free) = record {
    then_busy = busy;
    uses = still_uses s sound busy c member Fresh (λ e. let g : Coming ≡ Running = sym comes ∙ e in cc)
        (λ e. absurd (cc)) uses;
    balance = omega arith;
  }
  deed_gives busy uses m (Taken r x member runs some x_member waiting now stale heavy) = record {
    then_busy = true;
    uses = some_runs (λ t. cond (eqb t.number x.number) Running (displaced t.role)) s.tasks x x_member
        (ap (λ b. cond b Running (displaced x.role)) (eq-eqb x.number x.number refl));
    balance = ap (λ b. one_if b + 0) (is_busy s.tasks busy r member runs uses);
  }
  deed_gives busy uses m (Abandoned r x member runs some x_member waiting now stale light) = record {
    then_busy = busy;
    uses = still_uses s sound busy x x_member Gone (λ e. let g : Waiting ≡ Running = sym waiting ∙ e in cc)
        (λ e. absurd (cc)) uses;
    balance = omega arith;
  }
  deed_gives busy uses m (Rested quiet) = rests busy uses

-- a silent tick leaves the processor as it is
ticks_uses : (busy : Bool) (tasks : List Task) → Uses busy tasks → Uses busy (map ticked tasks)
ticks_uses true tasks it = (ticked it.0, map_member ticked tasks it.0 it.1, it.2)
ticks_uses false tasks none = on_map ticked (λ t. t.role ≡ Running → ⊥) tasks none

-- so does what is done where none of the first six cases applies
rest_gives : (s : State) (busy : Bool) → Uses busy s.tasks → Gives busy s (rest_of s)
rest_gives s busy uses = by_end (list_all is_over s.tasks) where
  by_end : (b : Bool) → Gives busy s (then_some b (Prints (End (value_sum (filter is_done s.tasks)))) or_else Ticks)
  by_end true = record {
    then_busy = busy;
    uses = subst (Uses busy) (sym (end_same s (value_sum (filter is_done s.tasks)))) uses;
    balance = omega arith;
  }
  by_end false = record { then_busy = busy; uses = ticks_uses busy s.tasks uses; balance = omega arith }

module _ (J : Instance) (valid : IsValid J) (rules : Rules) where
  -- what a step does to the processor
  step_gives : (s : State) → Keeps J s → (busy : Bool) → Uses busy s.tasks → Gives busy s (step rules s)
  step_gives s keeps busy uses =
      deed_gives rules.ratio s (rest_of s) keeps.sound (rest_gives s) busy uses (step rules s)
      (step_deed J valid s keeps rules)

  -- the processor is freed as often as it is given, and once more where some job runs
  freed_as_given : (xs : List Step) (s : State) → Keeps J s → (busy : Bool) → Uses busy s.tasks → IsWholeRun rules s xs
      → one_if busy + counted is_run xs ≡ counted is_complete xs
  freed_as_given [] s keeps busy uses whole = absurd whole
  freed_as_given (x ∷ xs) s keeps busy uses whole =
      by_end (is_end (step rules s)) refl whole.1
      (freed_as_given xs (after s (step rules s)) (step_kept J valid s keeps rules) it.then_busy it.uses) where
        it : Gives busy s (step rules s)
        it = step_gives s keeps busy uses

        by_end : (b : Bool) → is_end (step rules s) ≡ b
            → MatchBool b (xs ≡ []) (IsWholeRun rules (after s (step rules s)) xs)
            → (IsWholeRun rules (after s (step rules s)) xs
            → one_if it.then_busy + counted is_run xs ≡ counted is_complete xs)
            → one_if busy + counted is_run (x ∷ xs) ≡ counted is_complete (x ∷ xs)
        by_end true last none more =
            let nobody : busy ≡ false =
            is_free s.tasks busy (over_runs_none s (end_over J valid s keeps rules last).1) uses in
            let no_run : is_run (step rules s) ≡ false = ap is_run (end_over J valid s keeps rules last).0 in
            let no_complete : is_complete (step rules s) ≡ false =
            ap is_complete (end_over J valid s keeps rules last).0 in
            omega (
              arith,
              first_counted rules is_run x xs s whole,
              first_counted rules is_complete x xs s whole,
              ap one_if nobody,
              ap one_if no_run,
              ap one_if no_complete,
              ap (counted is_run) none,
              ap (counted is_complete) none,
            )
        by_end false on onward more = omega (
          arith,
          first_counted rules is_run x xs s whole,
          first_counted rules is_complete x xs s whole,
          it.balance,
          more onward,
        )

-- over a run the processor is freed as often as it is given
pub runs_complete : (J : Instance) → IsValid J
    → count_by (λ x. is_run x.move) (run J) ≡ count_by (λ x. is_complete x.move) (run J)
runs_complete J valid =
    omega (
      arith,
      freed_as_given J valid J.rules (run J) (opening J.jobs) (opening_keeps J) false
          (λ t m runs. let comes : t.role ≡ Coming = (come_coming 0 J.jobs t m).0 in let e : Coming ≡ Running =
          sym comes ∙ runs in cc)
          (run_is_whole J valid),
    )
