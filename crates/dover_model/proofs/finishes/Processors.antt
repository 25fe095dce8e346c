-- Which job has the processor, by what was printed, and so which finish is right.
use Rattle.std.proofs.Common.{◌≡◌, ℕ, ◌+◌, ◌≤◌, ◌<◌, List, [], ◌∷◌, ◌++◌, length, map, refl, sym, ap, ◌∙◌, subst, Bool}
use Rattle.std.proofs.Common.{true, false, cond, arith, Option, Some, None, is_some, nat_lt, ◌==◌, ◌↔◌, option_map}
use Rattle.std.proofs.Common.{fold, eqb-true, eq-eqb, ltb-true, ltb-false}
use Rattle.std.specs.List.{cons_option}
use Rattle.std.proofs.lemmas.List.Sums.{fold-append}
use Rattle.dover_model.specs.Common.{Fraction, Rules, Instance, IsValid, Event, Release, Run, Preempt, Take, Complete}
use Rattle.dover_model.specs.Common.{Abandon, End, Role, Coming, Fresh, Waiting, Held, Running, Done, Gone, Task, State}
use Rattle.dover_model.specs.Common.{opening, running, is_running, is_over, Move, Prints, Ticks, open_step}
use Rattle.dover_model.specs.Common.{after, with_role, ticked, role_after, displaced, Step, event_of, printed}
use Rattle.dover_model.specs.Common.{printed_of, completed_value, settled, settled_steps, settled_state, last_of}
use Rattle.dover_model.specs.Common.{finish_now, EarlyFinish, finish_at, IsOpenPath, runner_of, Turn, TurnsEnd}
use Rattle.dover_model.specs.Common.{IsAtRest, behind, before_end, turn_under, one_run, printed_turns, IsMember, Keeps}
use Rattle.dover_model.specs.Common.{IsSound, NoneRuns}
use Rattle.dover_model.specs.Processor.{runner_after}
use Rattle.dover_model.proofs.rest.Apart.{before_append, settled_at_rest}
use Rattle.dover_model.proofs.settled.Barriers.{settled_at_barrier}
use Rattle.dover_model.proofs.steps.Deeds.{Deed, Completed, Resumed, Started, Began, Preempted, Stayed, Arrived, Taken}
use Rattle.dover_model.proofs.steps.Deeds.{Abandoned, Rested}
use Rattle.dover_model.proofs.rest.InTurns.{one_run_prints}
use Rattle.dover_model.proofs.steps.Kept.{open_deed, open_kept, opening_keeps, come_coming}
use Rattle.dover_model.proofs.settled.LastSteps.{last_tells}
use Rattle.dover_model.proofs.lists.Members.{found, on_map, map_member, some_same}
use Rattle.dover_model.proofs.finishes.Readiness.{runner}
use Rattle.dover_model.proofs.rest.Resting.{settled_path, path_state}
use Rattle.dover_model.proofs.finishes.RightFinishes.{finish_says, right_finish}
use Rattle.dover_model.proofs.steps.Roles.{passes, one_number, is_running_role}
use Rattle.dover_model.proofs.settled.Settling.{settled_is_run}
use Rattle.dover_model.proofs.lists.Tests.{never, each, below}
use Rattle.dover_model.proofs.rest.Turns.{before_twice, before_behind}

-- ---- a step

-- the job of this number runs, or none does
abbrev HasRunner : Option ℕ → State → Type 0
HasRunner None s = NoneRuns s.tasks
HasRunner (Some n) s = (t : Task) × IsMember t s.tasks × (t.role ≡ Running) × (t.number ≡ n)

-- a job that doesn't run gets a role in which it doesn't either: all runs as before
module _ (s : State) (sound : IsSound s) (x : Task) (there : IsMember x s.tasks) (idle : x.role ≡ Running → ⊥)
    (new : Role) (rests : new ≡ Running → ⊥) (pressed : Bool) where
  abbrev changed : Task → Task
  changed t = with_role t (cond (t.number == x.number) new t.role)

  still : (o : Option ℕ) → HasRunner o s → HasRunner o (record {
    clock = s.clock;
    pressed = pressed;
    tasks = map
        changed s.tasks;
  })
  still None none = on_map changed (λ t. t.role ≡ Running → ⊥) s.tasks
      (λ t member. by_test t (t.number == x.number) (none t member)) where
        by_test : (t : Task) (b : Bool) → (t.role ≡ Running → ⊥) → cond b new t.role ≡ Running → ⊥
        by_test t true rested = rests
        by_test t false rested = rested
  still (Some n) it = (
    changed it.0,
    map_member changed s.tasks it.0 it.1,
    by_test (it.0.number == x.number) refl,
    it.3,
  ) where
    by_test : (b : Bool) → (it.0.number == x.number) ≡ b → cond b new it.0.role ≡ Running
    by_test true same = absurd (idle (sym (ap (λ (t : Task). t.role)
        (one_number 0 s.tasks sound.numbered it.0 x it.1 there (eqb-true _ _ same))) ∙ it.2))
    by_test false other = it.2

-- the runner behind a move
abbrev runner_moved : Option ℕ → Move → Option ℕ
runner_moved o m = fold runner_after o (cons_option (event_of m) [])

module _ (k : Fraction) (s : State) (sound : IsSound s) where
  -- a job that gets the processor runs
  starts : (e : Event) (x : Task) → IsMember x s.tasks → role_after e x.number x.role ≡ Running
      → HasRunner (Some x.number) (after s (Prints e))
  starts e x there runs = (
    with_role x (role_after e x.number x.role),
    map_member (λ t. with_role t (role_after e t.number t.role)) s.tasks x there,
    runs,
    refl,
  )

  -- its number is its own
  own : (x : Task) → (x.number == x.number) ≡ true
  own x = eq-eqb x.number x.number refl

  -- the move says which job runs behind it
  moved : (m : Move) → Deed k s Ticks m → (o : Option ℕ) → HasRunner o s → HasRunner (runner_moved o m) (after s m)
  moved m (Completed r member runs) o has =
      on_map (λ t. with_role t (role_after (Complete s.clock r.number) t.number t.role)) (λ t. t.role ≡ Running → ⊥)
      s.tasks (λ t there. by_test t there (t.number == r.number) refl) where
        by_test : (t : Task) → IsMember t s.tasks → (b : Bool) → (t.number == r.number) ≡ b
            → cond b Done t.role ≡ Running → ⊥
        by_test t there true same = λ e. let clash : Done ≡ Running = e in cc
        by_test t there false other = λ e. never (sym other ∙ eq-eqb _ _ (sound.one_runs t r there member e runs))
  moved m (Resumed p member held none least why) o has =
      starts (Run s.clock p.number) p member (ap (λ b. cond b Running p.role) (own p))
  moved m (Started p member waiting none first fits next) o has =
      starts (Run s.clock p.number) p member (ap (λ b. cond b Running p.role) (own p))
  moved m (Began f member fresh none free) o has =
      starts (Run s.clock f.number) f member (ap (λ b. cond b Running f.role) (own f))
  moved m (Preempted r f member runs some f_member fresh before fits) o has =
      starts (Preempt s.clock r.number f.number) f f_member
      (ap (λ b. cond b Running (cond (f.number == r.number) Held f.role)) (own f))
  moved m (Stayed r f member runs some f_member fresh why) o has = still s sound f f_member
      (λ e. let clash : Fresh ≡ Running = sym fresh ∙ e in cc) Waiting
      (λ e. let clash : Waiting ≡ Running = e in cc) s.pressed o has
  moved m (Arrived c member comes now first stale busy free) o has = still s sound c member
      (λ e. let clash : Coming ≡ Running = sym comes ∙ e in cc) Fresh
      (λ e. let clash : Fresh ≡ Running = e in cc) s.pressed o has
  moved m (Taken r x member runs some x_member waiting now stale heavy) o has =
      starts (Take s.clock r.number x.number) x x_member
      (ap (λ b. cond b Running (displaced x.role)) (own x))
  moved m (Abandoned r x member runs some x_member waiting now stale light) o has = still s sound x x_member
      (λ e. let clash : Waiting ≡ Running = sym waiting ∙ e in cc) Gone
      (λ e. let clash : Gone ≡ Running = e in cc) true o has
  moved m (Rested quiet) o has = by_runner o has where
    by_runner : (p : Option ℕ) → HasRunner p s → HasRunner p (after s Ticks)
    by_runner None none = on_map ticked (λ t. t.role ≡ Running → ⊥) s.tasks none
    by_runner (Some n) it = (ticked it.0, map_member ticked s.tasks it.0 it.1, it.2, it.3)

-- ---- what is settled

-- further moves
runner_on : (o : Option ℕ) (m : Move) (events : List Event)
    → fold runner_after o (cons_option (event_of m) events) ≡ fold runner_after (runner_moved o m) events
runner_on o (Prints e) events = refl
runner_on o _ events = refl

module _ (J : Instance) (valid : IsValid J) (mark : ℕ) where
  -- along a path
  runs_on : (xs : List Step) (s t : State) (o : Option ℕ) → Keeps J s → IsOpenPath J.rules mark s xs t
      → HasRunner o s → HasRunner (fold runner_after o (printed_of xs)) t
  runs_on [] s t o keeps path has = subst (HasRunner o) (sym path) has
  runs_on (x ∷ xs) s t o keeps path has =
      let m : Move = open_step J.rules s in
      subst (λ (y : Step). HasRunner (fold runner_after o (cons_option (event_of y.move) (printed_of xs))) t)
      (sym path.0)
      (subst (λ p. HasRunner p t) (sym (runner_on o m (printed_of xs)))
      (runs_on xs (after s m) t (runner_moved o m) (open_kept J valid s keeps J.rules) path.2
      (moved J.rules.ratio s keeps.sound m (open_deed J valid s keeps J.rules) o has)))

  -- what is settled says who runs
  says : HasRunner (runner_of (settled J mark)) (settled_state J mark)
  says =
      let it = settled_path J.rules mark (settled_steps J mark) (opening J.jobs) (settled_is_run J mark valid) in
      subst (HasRunner (runner_of (settled J mark)))
      (sym (path_state J.rules mark (settled_steps J mark) (opening J.jobs) it.0 it.1))
      (runs_on (settled_steps J mark) (opening J.jobs) it.0 None (opening_keeps J) it.1
      (λ t member runs. let clash : Coming ≡ Running = sym (come_coming 0 J.jobs t member).0 ∙ runs in cc))

  abbrev there : IsSound (settled_state J mark)
  there = (settled_at_barrier J valid mark).keeps.sound

  -- the job that is said to run does
  pub runner_there : (n : ℕ) → runner_of (settled J mark) ≡ Some n
      → (r : Task) × (running (settled_state J mark) ≡ Some r) × (r.number ≡ n)
  runner_there n is =
      let it : HasRunner (Some n) (settled_state J mark) =
      subst (λ o. HasRunner o (settled_state J mark)) is says in
      (it.0, runner (settled_state J mark) there it.0 it.1 it.2, it.3)

  -- and the one that does is said to
  pub runner_said : (r : Task) → running (settled_state J mark) ≡ Some r → runner_of (settled J mark) ≡ Some r.number
  runner_said r runs = by_runner (runner_of (settled J mark)) refl where
    it : IsMember r (settled_state J mark).tasks × (is_running r ≡ true)
    it = found is_running (settled_state J mark).tasks r runs

    by_runner : (o : Option ℕ) → runner_of (settled J mark) ≡ o → o ≡ Some r.number
    by_runner None is = absurd (subst (λ o. HasRunner o (settled_state J mark)) is says r it.0 (is_running_role r it.1))
    by_runner (Some n) is =
        let other = runner_there n is in
        let same : other.0 ≡ r = some_same other.0 r (sym other.1 ∙ runs) in
        ap Some (sym other.2 ∙ ap (λ (t : Task). t.number) same)

  -- ---- a finish

  -- one that is right is of the job that has the processor, and the last step is of a tick before
  pub finish_prints : (n : ℕ) (f : EarlyFinish) → finish_at J mark n ≡ Some f
      → (runner_of (settled J mark) ≡ Some n) × (last_of (settled J mark) < mark)
  finish_prints n f right =
      let it = finish_says J mark n f right in (
        runner_said it.job it.runs ∙ ap Some it.number,
        ltb-true _ _ (sym (last_tells J valid mark it.job it.runs)
            ∙ (each (λ (x : Step). nat_lt x.before.clock mark) (λ x. x.before.clock < mark)
            (λ x. below x.before.clock mark) (settled_steps J mark)).1 it.before),
      )

  -- where it isn't right, though the job has the processor, a step of the tick was printed
  pub late_prints : (n : ℕ) → finish_at J mark n ≡ None → runner_of (settled J mark) ≡ Some n
      → mark ≤ last_of (settled J mark)
  late_prints n wrong is = by_test (nat_lt (last_of (settled J mark)) mark) refl where
    it : (r : Task) × (running (settled_state J mark) ≡ Some r) × (r.number ≡ n)
    it = runner_there n is

    by_test : (b : Bool) → nat_lt (last_of (settled J mark)) mark ≡ b → mark ≤ last_of (settled J mark)
    by_test false late = ltb-false _ _ late
    by_test true early =
        let right = right_finish J mark it.0 it.1 (last_tells J valid mark it.0 it.1 ∙ early) in
        absurd (let clash : None ≡ Some (record { at = mark; finish = finish_now it.0 }) =
        sym wrong ∙ sym (ap (finish_at J mark) it.2) ∙ right in cc)

-- a finish is right just where the job has the processor and no step of the tick was printed
pub right_by_prints : (J : Instance) (mark n : ℕ) → IsValid J → (is_some (finish_at J mark n) ≡ true)
    ↔ ((runner_of (settled J mark) ≡ Some n) × (last_of (settled J mark) < mark))
right_by_prints J mark n valid = (
  λ right. by_right (finish_at J mark n) refl right,
  λ it. by_wrong (finish_at J mark n) refl it,
) where
  by_right : (o : Option EarlyFinish) → finish_at J mark n ≡ o → is_some o ≡ true
      → (runner_of (settled J mark) ≡ Some n) × (last_of (settled J mark) < mark)
  by_right None is some = never some
  by_right (Some f) is some = finish_prints J valid mark n f is

  by_wrong : (o : Option EarlyFinish) → finish_at J mark n ≡ o
      → (runner_of (settled J mark) ≡ Some n) × (last_of (settled J mark) < mark) → is_some o ≡ true
  by_wrong (Some f) is it = refl
  by_wrong None is it = absurd (let late = late_prints J valid mark n is it.0 in omega (arith, late, it.1))

-- ---- rest

-- at rest no job has the processor
pub runner_at_rest : (J : Instance) → IsValid J → (m : ℕ) → IsAtRest J m → runner_of (before_end (printed J)) ≡ None
runner_at_rest J valid m rest = ap runner_of (sym (settled_at_rest J m valid rest))
    ∙ by_runner (runner_of (settled J m)) refl where
      by_runner : (o : Option ℕ) → runner_of (settled J m) ≡ o → o ≡ None
      by_runner None is = refl
      by_runner (Some n) is =
          let it = runner_there J valid m n is in
          let runs : IsMember it.0 (settled_state J m).tasks × (is_running it.0 ≡ true) =
          found is_running (settled_state J m).tasks it.0 it.1 in
          never (sym (passes is_over it.0 Running false (is_running_role it.0 runs.1) refl) ∙ rest it.0 runs.0)

-- jobs that are numbered behind others
pub runner_behind : (n value : ℕ) (o : Option ℕ) (events : List Event)
    → fold runner_after (option_map (λ m. n + m) o) (map (behind n value) events)
    ≡ option_map (λ m. n + m) (fold runner_after o events)
runner_behind n value o [] = refl
runner_behind n value o (Release m job ∷ events) = runner_behind n value o events
runner_behind n value o (Run at m ∷ events) = runner_behind n value (Some m) events
runner_behind n value o (Preempt at stops starts ∷ events) = runner_behind n value (Some starts) events
runner_behind n value o (Take at stops starts ∷ events) = runner_behind n value (Some starts) events
runner_behind n value o (Complete at m ∷ events) = runner_behind n value None events
runner_behind n value o (Abandon at m ∷ events) = runner_behind n value o events
runner_behind n value o (End more ∷ events) = runner_behind n value o events

-- behind turns that are over none has it
runner_of_turns : (rules : Rules) (turns : List Turn) (from last : ℕ) → TurnsEnd rules from turns last
    → runner_of (before_end (printed_turns rules turns)) ≡ None
runner_of_turns rules [] from last ends = refl
runner_of_turns rules (turn ∷ turns) from last ends =
    ap runner_of (before_append front (map number (printed_turns rules turns))
    ∙ ap (λ es. es ++ before_end (map number (printed_turns rules turns))) (before_twice (printed K))
    ∙ ap (λ es. front ++ es) (before_behind (length turn.jobs) (completed_value K) (printed_turns rules turns)))
    ∙ fold-append runner_after None front (map number (before_end (printed_turns rules turns)))
    ∙ ap (λ o. fold runner_after o (map number (before_end (printed_turns rules turns))))
    (runner_at_rest K ends.0.0 ends.1.0 ends.1.2)
    ∙ runner_behind (length turn.jobs) (completed_value K) None (before_end (printed_turns rules turns))
    ∙ ap (option_map (λ m. length turn.jobs + m)) (runner_of_turns rules turns ends.1.0 last ends.1.3) where
      K : Instance
      K = turn_under rules turn

      front : List Event
      front = before_end (printed K)

      number : Event → Event
      number = behind (length turn.jobs) (completed_value K)

pub runner_behind_turns : (rules : Rules) (turns : List Turn) (last : ℕ) → TurnsEnd rules 0 turns last
    → runner_of (before_end (printed (one_run rules turns))) ≡ None
runner_behind_turns rules turns last ends =
    ap (λ es. runner_of (before_end es)) (one_run_prints rules turns last ends)
    ∙ runner_of_turns rules turns 0 last ends
