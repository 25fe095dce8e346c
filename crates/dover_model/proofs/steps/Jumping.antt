-- Silent ticks taken at once.
use Rattle.std.proofs.Common.{◌≡◌, ℕ, zero, suc, ◌+◌, ◌-◌, ◌≤◌, ◌<◌, List, [], map, None, refl, sym, ap, ◌∙◌, subst}
use Rattle.std.proofs.Common.{Bool, true, false, cond, arith, add-zero, add_assoc}
use Rattle.dover_model.specs.Common.{Fraction, Coming, Fresh, Waiting, Held, Running, Task, Instance, IsValid, bare}
use Rattle.dover_model.specs.Common.{State, is_ready_behind, is_running, left, latest_start, Move, Ticks, after}
use Rattle.dover_model.specs.Common.{open_step, ticked, due_finish, finish_or, declared_open_step, Keeps, ticked_by}
use Rattle.dover_model.specs.Common.{later_by, NothingDue}
use Rattle.dover_model.proofs.lists.Members.{on_map, map_map, map_same, map_self, map_member}
use Rattle.dover_model.proofs.steps.Roles.{passes}
use Rattle.dover_model.proofs.steps.Deeds.{Deed, Completed, Resumed, Started, Began, Preempted, Stayed, Arrived, Taken}
use Rattle.dover_model.proofs.steps.Deeds.{Abandoned, Rested}
use Rattle.dover_model.proofs.finishes.Readiness.{going, Decides, open_decides}
use Rattle.dover_model.proofs.steps.Kept.{open_deed, open_kept}
use Rattle.dover_model.proofs.lists.Tests.{never}

-- ---- the state after ticks

-- none more
had_zero : (b : Bool) (had : ℕ) → cond b (had + 0) had ≡ had
had_zero true had = add-zero had
had_zero false had = refl

-- one more
had_more : (b : Bool) (had n : ℕ)
    → cond b (cond b (had + n) had + 1) (cond b (had + n) had) ≡ cond b (had + (n + 1)) had
had_more true had n = add_assoc had n 1
had_more false had n = refl

-- no tick leaves a task as it is
no_tick : (t : Task) → ticked_by 0 t ≡ t
no_tick t = ap (λ had. record { number = t.number; job = t.job; role = t.role; had = had })
    (had_zero (is_running t) t.had)

-- a tick more
tick_more : (n : ℕ) (t : Task) → ticked (ticked_by n t) ≡ ticked_by (n + 1) t
tick_more n t = ap (λ had. record { number = t.number; job = t.job; role = t.role; had = had })
    (had_more (is_running t) t.had n)

-- no tick leaves all as they are
no_ticks : (tasks : List Task) → map (ticked_by 0) tasks ≡ tasks
no_ticks tasks = map_self (ticked_by 0) tasks no_tick

-- a tick more for all
ticks_more : (n : ℕ) (tasks : List Task) → map ticked (map (ticked_by n) tasks) ≡ map (ticked_by (n + 1)) tasks
ticks_more n tasks = map_map ticked (ticked_by n) tasks
    ∙ map_same (λ t. ticked (ticked_by n t)) (ticked_by (n + 1)) tasks (λ t m. tick_more n t)

-- a state
abbrev state_of : Bool → ℕ → List Task → State
state_of pressed clock tasks = record { clock = clock; pressed = pressed; tasks = tasks }

-- no tick leaves the state as it is
pub later_by-zero : (s : State) → later_by 0 s ≡ s
later_by-zero s = ap (λ clock. state_of s.pressed clock (map (ticked_by 0) s.tasks)) (add-zero s.clock)
    ∙ ap (state_of s.pressed s.clock) (no_ticks s.tasks)

-- a silent tick more
pub after-later_by : (n : ℕ) (s : State) → after (later_by n s) Ticks ≡ later_by (n + 1) s
after-later_by n s = ap (λ clock. state_of s.pressed clock (map ticked (map (ticked_by n) s.tasks))) (add_assoc
    s.clock n 1)
    ∙ ap (state_of s.pressed (s.clock + (n + 1))) (ticks_more n s.tasks)

-- ---- what is due after ticks

-- a job that doesn't run has as much left
left_same : (b : Bool) (work had n : ℕ) → b ≡ false → work - cond b (had + n) had ≡ work - had
left_same true work had n out = never (sym out)
left_same false work had n out = refl

-- the running job has so many less
left_less : (b : Bool) (work had n m : ℕ) → n < m → m ≤ work - had → 1 ≤ work - cond b (had + n) had
left_less true work had n m less some = omega arith
left_less false work had n m less some = omega arith

module _ (s : State) (n i : ℕ) (due : NothingDue n s) (before : i < n) where
  -- a task that waits does not run
  waits_as_before : (t : Task) → t.role ≡ Waiting → latest_start (ticked_by i t) ≡ latest_start t
  waits_as_before t waits =
      ap (λ l. t.job.deadline - l)
      (left_same (is_running t) t.job.work t.had i (passes is_running t Waiting false waits refl))

  -- one more tick is silent, where fewer than n have passed
  nothing_later : NothingDue 1 (later_by i s)
  nothing_later = record {
    none_fresh = on_map (ticked_by i) (λ t. t.role ≡ Fresh → ⊥) s.tasks due.none_fresh;
    running = on_map (ticked_by i) (λ t. t.role ≡ Running → 1 ≤ left t) s.tasks
        (λ t m runs. left_less (is_running t) t.job.work t.had i n before (due.running t m runs));
    waiting = on_map (ticked_by i) (λ t. t.role ≡ Waiting → s.clock + i + 1 ≤ latest_start t) s.tasks
        (λ t m waits. let late : s.clock + n ≤ latest_start t = due.waiting t m waits in
        subst (λ l. s.clock + i + 1 ≤ l) (sym (waits_as_before t waits)) (omega arith));
    coming = on_map (ticked_by i) (λ t. t.role ≡ Coming → s.clock + i + 1 ≤ t.job.release) s.tasks
        (λ t m comes. let later : s.clock + n ≤ t.job.release = due.coming t m comes in omega arith);
    busy = λ none. on_map (ticked_by i) (λ t. is_ready_behind t ≡ true → ⊥) s.tasks
        (due.busy (λ t m runs. none (ticked_by i t)
        (map_member (ticked_by i) s.tasks t m) runs));
  }

-- ---- the steps

module _ (k : Fraction) (s : State) (due : NothingDue 1 s) where
  -- where nothing is due, the step is a rest
  pub due_rests : (m : Move) → Deed k s Ticks m → Decides [] s m → m ≡ Ticks
  due_rests m (Completed r member runs) told = let some : 1 ≤ left r = due.running r member runs in
      never (sym (told.ends refl r member runs) ∙ going [] r some refl)
  due_rests m (Resumed p member held none least why) told =
      absurd (due.busy none p member (passes is_ready_behind p Held true held refl))
  due_rests m (Started o member waiting none first fits next) told =
      absurd (due.busy none o member (passes is_ready_behind o Waiting true waiting refl))
  due_rests m (Began f member fresh none free) told = absurd (due.none_fresh f member fresh)
  due_rests m (Preempted r f member runs some f_member fresh before fits) told =
      absurd (due.none_fresh f f_member fresh)
  due_rests m (Stayed r f member runs some f_member fresh why) told = absurd (due.none_fresh f f_member fresh)
  due_rests m (Arrived c member comes now first stale busy free) told =
      absurd (let later : s.clock + 1 ≤ c.job.release = due.coming c member comes in omega (arith, now))
  due_rests m (Taken r x member runs some x_member waiting now stale heavy) told =
      absurd (let later : s.clock + 1 ≤ latest_start x = due.waiting x x_member waiting in omega (arith, now))
  due_rests m (Abandoned r x member runs some x_member waiting now stale light) told =
      absurd (let later : s.clock + 1 ≤ latest_start x = due.waiting x x_member waiting in omega (arith, now))
  due_rests m (Rested quiet) told = refl

module _ (J : Instance) (valid : IsValid J) (s : State) (keeps : Keeps J s) (n : ℕ) (due : NothingDue n s) where
  -- the declared step of a state in which nothing is due
  rests_here : (i : ℕ) → i < n → Keeps J (later_by i s) → open_step (bare J.rules) (later_by i s) ≡ Ticks
  rests_here i before sound = due_rests J.rules.ratio (later_by i s) (nothing_later s n i due before) _
      (open_deed J valid (later_by i s) sound (bare J.rules)) (open_decides (later_by i s) sound.sound (bare J.rules))

  -- the state is sound as long as nothing is due
  pub later_keeps : (i : ℕ) → i ≤ n → Keeps J (later_by i s)
  later_keeps zero before = subst (Keeps J) (sym (later_by-zero s)) keeps
  later_keeps (suc i) before =
      let sound : Keeps J (later_by i s) = later_keeps i (omega arith) in
      let ticks : open_step (bare J.rules) (later_by i s) ≡ Ticks = rests_here i (omega arith) sound in
      let one : i + 1 ≡ suc i = omega arith in
      subst (λ m. Keeps J (later_by m s)) one
      (subst (Keeps J) (ap (after (later_by i s)) ticks ∙ after-later_by i s)
      (open_kept J valid (later_by i s) sound (bare J.rules)))

  -- and the open steps are silent ticks, where the running job comes to no finish
  pub later_ticks : (i : ℕ) → i < n → due_finish J.rules.finishes (later_by i s) ≡ None
      → open_step J.rules (later_by i s) ≡ Ticks
  later_ticks i before none =
      ap (λ o. finish_or (s.clock + i) o (declared_open_step J.rules (later_by i s))) none
      ∙ rests_here i before (later_keeps i (omega arith))
