-- Only the running job comes to a finish, and a step says whether it has.
use Rattle.std.proofs.Common.{◌≡◌, ◌≤◌, ◌⊎◌, List, [], ◌∷◌, inl, inr, refl, sym, ap, ◌∙◌, subst, Bool, true, false}
use Rattle.std.proofs.Common.{cond, arith, eqb, not, Option, Some, None, ◌==◌, ◌&&◌, nat_lt, find, filter}
use Rattle.std.proofs.Common.{eqb-true, lt-ltb}
use Rattle.std.specs.Bool.{then_some}
use Rattle.dover_model.specs.Common.{has_come_to}
use Rattle.std.proofs.lemmas.Bool.{and_right, or_from, not_from_true}
use Rattle.std.specs.List.{list_all}
use Rattle.dover_model.specs.Common.{JobFacts, Fraction, Rules, Instance, IsValid, Finish, is_finish_of, is_due}
use Rattle.dover_model.specs.Common.{goes_on, Role, Coming, Fresh, Waiting, Held, Running, Done, Gone, End, Task, State}
use Rattle.dover_model.specs.Common.{opening, is_running, running, is_ready_behind, is_over, is_done, left, value_sum}
use Rattle.dover_model.specs.Common.{Move, Prints, Ticks, View, view, ◌or_else◌, due_finish, finish_or, urgent_or}
use Rattle.dover_model.specs.Common.{after, with_role, displaced, ticked, step, open_step, ending, is_complete}
use Rattle.dover_model.specs.Common.{IsMember, Each, IsSound, Keeps}
use Rattle.dover_model.proofs.lists.Members.{found, not_found, on_map, some_same}
use Rattle.dover_model.proofs.steps.Roles.{is_running_role, passes, one_number}
use Rattle.dover_model.proofs.steps.Moves.{says}
use Rattle.dover_model.proofs.steps.Ticking.{Quiet}
use Rattle.dover_model.proofs.steps.OneChange.{state_with, on_changed}
use Rattle.dover_model.proofs.steps.Cases.{Case, Completes, Rests, step_case}
use Rattle.dover_model.proofs.steps.Deeds.{Deed, Completed, Resumed, Started, Began, Preempted, Stayed, Arrived, Taken}
use Rattle.dover_model.proofs.steps.Deeds.{Abandoned, Rested}
use Rattle.dover_model.proofs.finishes.Finishing.{none_comes, some_comes}
use Rattle.dover_model.proofs.steps.Kept.{step_deed, open_deed, end_same, come_coming}
use Rattle.dover_model.proofs.lists.Tests.{never}

-- no job behind has come to a finish
abbrev pub IsReady : List Finish → State → Type 0
IsReady finishes s = Each (λ t. is_ready_behind t ≡ true → is_due finishes t ≡ false) s.tasks

-- the running job completes exactly where it doesn't go on
pub record Decides (finishes : List Finish) (s : State) (m : Move) : Type 0 where
  pub ends : is_complete m ≡ true → Each (λ t. t.role ≡ Running → goes_on finishes t ≡ false) s.tasks
  pub goes : is_complete m ≡ false → Each (λ t. t.role ≡ Running → is_due finishes t ≡ false) s.tasks

-- ---- a job that has had no tick

-- it has come to no finish
pub none_due : (finishes : List Finish) (t : Task) → t.had ≡ 0 → is_due finishes t ≡ false
none_due [] t none = refl
none_due (f ∷ finishes) t none = or_from (has_come_to t f) (is_due finishes t)
    (and_right ((f.number == t.number) && (f.had == t.had)) (nat_lt 0 t.had) (ap (nat_lt 0) none))
    (none_due finishes t none)

-- nothing goes on without work, or with a finish
ended_by_work : (finishes : List Finish) (t : Task) → (left t == 0) ≡ true → goes_on finishes t ≡ false
ended_by_work finishes t none = let zero : left t ≡ 0 = eqb-true _ _ none in
    ap (λ n. nat_lt 0 n && not (is_due finishes t)) zero

ended_by_finish : (finishes : List Finish) (t : Task) → is_due finishes t ≡ true → goes_on finishes t ≡ false
ended_by_finish finishes t due =
    and_right (nat_lt 0 (left t)) (not (is_due finishes t)) (not_from_true (is_due finishes t) due)

-- with work and no finish it goes on
pub going : (finishes : List Finish) (t : Task) → 1 ≤ left t → is_due finishes t ≡ false → goes_on finishes t ≡ true
going finishes t some none = ap (λ a. a && not (is_due finishes t)) (lt-ltb 0 (left t) (omega arith))
    ∙ ap not none

-- ---- what a step decides

module _ (s : State) (sound : IsSound s) where
  -- the running job is found
  pub runner : (t : Task) → IsMember t s.tasks → t.role ≡ Running → running s ≡ Some t
  runner t member runs = by_found (running s) refl where
    by_found : (o : Option Task) → running s ≡ o → o ≡ Some t
    by_found None none = never (sym (not_found is_running s.tasks none t member)
        ∙ passes is_running t Running true runs refl)
    by_found (Some r) some =
        let it : IsMember r s.tasks × (is_running r ≡ true) = found is_running s.tasks r some in
        ap Some (one_number 0 s.tasks sound.numbered r t it.0 member
        (sound.one_runs r t it.0 member (is_running_role r it.1) runs))

  -- where no finish is due, the running job has come to none
  unfinished : (finishes : List Finish) → due_finish finishes s ≡ None
      → Each (λ t. t.role ≡ Running → is_due finishes t ≡ false) s.tasks
  unfinished finishes none t member runs =
      none_comes t finishes (ap (λ o. find (is_finish_of o) finishes) (sym (runner t member runs)) ∙ none)

  -- where one is due, it has come to one
  finished : (finishes : List Finish) (f : Finish) → due_finish finishes s ≡ Some f
      → Each (λ t. t.role ≡ Running → is_due finishes t ≡ true) s.tasks
  finished finishes f some t member runs =
      some_comes t finishes f (ap (λ o. find (is_finish_of o) finishes) (sym (runner t member runs)) ∙ some)

  -- where no job finishes early, a job that completes has no work left
  declared_ends : (k : Fraction) (v : View) (other : Move) → v.running ≡ running s → is_complete other ≡ false
      → (m : Move) → Case k v other m → is_complete m ≡ true → Each (λ t. t.role ≡ Running
      → (left t == 0) ≡ true) s.tasks
  declared_ends k v other seen rests m (Completes r some done) e t member runs =
      let same : Some r ≡ Some t = sym some ∙ seen ∙ runner t member runs in
      subst (λ (x : Task). (left x == 0) ≡ true) (some_same r t same) done
  declared_ends k v other seen rests m (Rests ro settles stale none quiet) e t member runs = never (sym rests ∙ e)
  declared_ends k v other seen rests m _ e t member runs = never e

  -- what a step decides
  decided : (rules : Rules) (other : Move) → is_complete other ≡ false
      → Decides rules.finishes s
      (finish_or s.clock (due_finish rules.finishes s) (urgent_or rules.ratio (view rules.version s) other))
  decided rules other rests = by_due (due_finish rules.finishes s) refl where
    by_due : (o : Option Finish) → due_finish rules.finishes s ≡ o
        → Decides rules.finishes s (finish_or s.clock o (urgent_or rules.ratio (view rules.version s) other))
    by_due None none = record {
      ends = λ e t member runs. ended_by_work rules.finishes t
          (declared_ends rules.ratio (view rules.version s) other refl rests _
          (step_case rules.ratio (view rules.version s) other) e t member runs);
      goes = λ e. unfinished rules.finishes none;
    }
    by_due (Some f) some = record {
      ends = λ e t member runs. ended_by_finish rules.finishes t (finished rules.finishes f some t member runs);
      goes = λ e. never (sym e);
    }

  -- of a step
  pub step_decides : (rules : Rules) → Decides rules.finishes s (step rules s)
  step_decides rules = decided rules (ending s or_else Ticks) (by_end (list_all is_over s.tasks)) where
    by_end : (b : Bool)
        → is_complete (then_some b (Prints (End (value_sum (filter is_done s.tasks)))) or_else Ticks) ≡ false
    by_end true = refl
    by_end false = refl

  -- of an open step
  pub open_decides : (rules : Rules) → Decides rules.finishes s (open_step rules s)
  open_decides rules = decided rules Ticks refl

-- ---- none behind comes to a finish

-- a job that is behind after a displacement was behind, or ran
displaced_behind : (t : Task) (role : Role) → is_ready_behind (with_role t (displaced role)) ≡ true
    → (is_ready_behind (with_role t role) ≡ true) ⊎ (role ≡ Running)
displaced_behind t Held e = inl refl
displaced_behind t Running e = inr refl
displaced_behind t _ e = inl e

-- a job behind has no tick more
ticked_behind : (t : Task) (role : Role) → is_ready_behind (with_role t role) ≡ true
    → ticked (with_role t role) ≡ with_role t role
ticked_behind t Waiting e = refl
ticked_behind t Held e = refl
ticked_behind t _ e = never e

module _ (finishes : List Finish) (s : State) (sound : IsSound s) (ready : IsReady finishes s) where
  -- what is asked of each job
  abbrev Unfinished : Task → Type 0
  Unfinished t = is_ready_behind t ≡ true → is_due finishes t ≡ false

  -- after a silent tick
  pub tick_ready : IsReady finishes (after s Ticks)
  tick_ready = on_map ticked Unfinished s.tasks (λ t member behind.
      subst (λ x. is_due finishes x ≡ false) (sym (ticked_behind t t.role behind)) (ready t member behind))

  -- after one job's new role
  one_ready : (r : Task) → IsMember r s.tasks → (new : Role) → (is_ready_behind (with_role r new) ≡ true
      → is_due finishes r ≡ false) → IsReady finishes (state_with s r new)
  one_ready r member new here = on_changed 0 s.tasks sound.numbered r member new Unfinished here (λ t m _. ready t m)

  -- after each deed
  pub deed_ready : (k : Fraction) (other : Move) → (Quiet s → IsReady finishes (after s other)) → (m : Move)
      → Deed k s other m → Decides finishes s m → IsReady finishes (after s m)
  deed_ready k other rests m (Completed r member runs) it = one_ready r member Done (λ e. never e)
  deed_ready k other rests m (Resumed p member held none least why) it = one_ready p member Running (λ e. never e)
  deed_ready k other rests m (Started o member waiting none first fits next) it =
      one_ready o member Running (λ e. never e)
  deed_ready k other rests m (Began f member fresh none free) it = one_ready f member Running (λ e. never e)
  deed_ready k other rests m (Preempted r f member runs some f_member fresh before fits) it =
      on_map (λ t. with_role t (cond (eqb t.number f.number) Running (cond (eqb t.number r.number) Held t.role)))
      Unfinished s.tasks (λ t mt. by_numbers t mt (eqb t.number f.number) (eqb t.number r.number) refl) where
        by_numbers : (t : Task) → IsMember t s.tasks → (b c : Bool) → eqb t.number r.number ≡ c
            → Unfinished (with_role t (cond b Running (cond c Held t.role)))
        by_numbers t mt true c e behind = never behind
        by_numbers t mt false true e behind = subst (λ x. is_due finishes x ≡ false)
            (sym (one_number 0 s.tasks sound.numbered t r mt member (eqb-true _ _ e))) (it.goes refl r member runs)
        by_numbers t mt false false e behind = ready t mt behind
  deed_ready k other rests m (Stayed r f member runs some f_member fresh why) it =
      one_ready f f_member Waiting (λ e. none_due finishes f (says s sound f f_member Fresh fresh).0)
  deed_ready k other rests m (Arrived c member comes now first stale busy free) it =
      one_ready c member Fresh (λ e. never e)
  deed_ready k other rests m (Taken r x member runs some x_member waiting now stale heavy) it =
      on_map (λ t. with_role t (cond (eqb t.number x.number) Running (displaced t.role))) Unfinished s.tasks
      (λ t mt. by_number t mt (eqb t.number x.number)) where
        by_number : (t : Task) → IsMember t s.tasks → (b : Bool)
            → Unfinished (with_role t (cond b Running (displaced t.role)))
        by_number t mt true behind = never behind
        by_number t mt false behind = by_role (displaced_behind t t.role behind) where
          by_role : (is_ready_behind t ≡ true) ⊎ (t.role ≡ Running) → is_due finishes t ≡ false
          by_role (inl was) = ready t mt was
          by_role (inr ran) = it.goes refl t mt ran
  deed_ready k other rests m (Abandoned r x member runs some x_member waiting now stale light) it =
      one_ready x x_member Gone (λ e. never e)
  deed_ready k other rests m (Rested quiet) it = rests quiet

-- at the opening
pub opening_ready : (finishes : List Finish) (jobs : List JobFacts) → IsReady finishes (opening jobs)
opening_ready finishes jobs t member behind =
    never (sym (passes is_ready_behind t Coming false (come_coming 0 jobs t member).0 refl) ∙ behind)

module _ (J : Instance) (valid : IsValid J) (s : State) (keeps : Keeps J s) (rules : Rules)
    (ready : IsReady rules.finishes s) where
  -- after an open step
  pub open_ready : IsReady rules.finishes (after s (open_step rules s))
  open_ready = deed_ready rules.finishes s keeps.sound ready rules.ratio Ticks
      (λ quiet. tick_ready rules.finishes s keeps.sound ready) _ (open_deed J valid s keeps rules)
      (open_decides s keeps.sound rules)

  -- after a step
  pub step_ready : IsReady rules.finishes (after s (step rules s))
  step_ready = deed_ready rules.finishes s keeps.sound ready rules.ratio (ending s or_else Ticks)
      (λ quiet. by_end (list_all is_over s.tasks)) _ (step_deed J valid s keeps rules)
      (step_decides s keeps.sound rules) where
        by_end : (b : Bool) → IsReady rules.finishes
            (after s (then_some b (Prints (End (value_sum (filter is_done s.tasks)))) or_else Ticks))
        by_end true = subst (λ (tasks : List Task). IsReady rules.finishes (record s { tasks = tasks }))
            (sym (end_same s (value_sum (filter is_done s.tasks)))) ready
        by_end false = tick_ready rules.finishes s keeps.sound ready
