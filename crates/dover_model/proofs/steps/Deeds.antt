-- What a step finds, said of the members of the list of tasks: what all proofs on steps go by.
use Rattle.std.proofs.Common.{◌≡◌, ℕ, ◌+◌, ◌≤◌, ◌<◌, ◌⊎◌, inl, inr, List, [], ◌∷◌, refl, sym, ap, ◌∙◌, subst, Bool}
use Rattle.std.proofs.Common.{true, false, cond, arith, Option, Some, None, nat_lt, nat_le, ◌==◌, ◌&&◌, ◌||◌, sum_by}
use Rattle.std.proofs.Common.{filter, find, ltb-true, ltb-false, leb-true, leb-false, eqb-true, eq-eqb}
use Rattle.std.proofs.lemmas.Bool.{eqb-false, and_parts}
use Rattle.dover_model.specs.Common.{IsJob, Fraction, Role, Coming, Fresh, Waiting, Held, Running, Release, Run}
use Rattle.dover_model.specs.Common.{Preempt, Take, Complete, Abandon, Version, Task, State, is_coming, is_fresh}
use Rattle.dover_model.specs.Common.{is_waiting, is_held, is_running, is_privileged, is_ready_behind, is_over, waiting}
use Rattle.dover_model.specs.Common.{held, privileged, running, left, latest_start, room, demand_up_to, value_sum}
use Rattle.dover_model.specs.Common.{is_end, Entry, entry_of, wins_tie, due_first, earlier, first, is_heavy, Move}
use Rattle.dover_model.specs.Common.{Prints, Waits, Ticks, View, view, is_at_latest_start, runs, resumed, preempts}
use Rattle.dover_model.specs.Common.{with_role, IsMember, Each, EachTwo, IsNumberedFrom, NoneRuns, IsSound}
use Rattle.dover_model.specs.Entries.{comes_first_by}
use Rattle.dover_model.proofs.lists.Members.{filter_member, member_filter, found, not_found, reduce_least, reduce_none}
use Rattle.dover_model.proofs.lists.Members.{sum_le}
use Rattle.dover_model.proofs.steps.Roles.{passes, fails, is_coming_role, is_fresh_role, is_waiting_role, is_held_role}
use Rattle.dover_model.proofs.steps.Roles.{is_running_role, is_privileged_role, is_behind_role, numbers_above}
use Rattle.dover_model.proofs.steps.Roles.{one_number}
use Rattle.dover_model.proofs.steps.Loads.{Fits, demand_is, share, share_le, load}
use Rattle.dover_model.proofs.steps.Moves.{says}
use Rattle.dover_model.proofs.steps.Ticking.{Quiet}
use Rattle.dover_model.proofs.steps.Rooms.{room_fits, room_crowded}
use Rattle.dover_model.proofs.steps.Cases.{Settles, Busy, Free, NoneArrives, Case, Completes, Resumes, Starts, Begins}
use Rattle.dover_model.proofs.steps.Cases.{Preempts, Stays, Arrives, Takes, Abandons, Rests}
use Rattle.dover_model.proofs.lists.Tests.{never}
use Rattle.std.specs.Prelude.{not}
use Rattle.dover_model.specs.Common.{One, Two, Three}
use Rattle.dover_model.specs.declared.events.Version.TheVariants.{Four}
use Rattle.dover_model.specs.Orders.{waiting_order, by_density, is_less_dense}
use Rattle.dover_model.proofs.lists.FirstOfTasks.{first_member}

-- the jobs keep the limits of one job, and no release falls below one before it
pub record Realistic (tasks : List Task) : Type 0 where
  pub each : Each (λ t. IsJob t.job) tasks
  pub in_order : EachTwo (λ t u. t.number ≤ u.number → t.job.release ≤ u.job.release) tasks

-- an amount doesn't fit before some running or held job
pub record Crowded (s : State) (amount : ℕ) : Type 0 where
  pub job : Task
  pub member : IsMember job s.tasks
  pub active : is_privileged job ≡ true
  pub late : job.job.deadline < s.clock + load s.tasks job + amount

-- why the held job p resumes: no waiting job is due before it, or one is that doesn't fit
pub data Passes (s : State) (p : Task) : Type 0 where
  NoneBefore : Each (λ w. w.role ≡ Waiting → p.job.deadline ≤ w.job.deadline) s.tasks → Passes s p
  NoneFits : (o : Task) → IsMember o s.tasks → o.role ≡ Waiting
      → Each (λ t. t.role ≡ Held → o.job.deadline < t.job.deadline) s.tasks
      → Crowded s (left o) → Passes s p

-- the state isn't pressed: then waiting jobs are chosen by deadline
abbrev pub Calm : State → Type 0
Calm s = s.pressed ≡ false

-- Each case of a step, with what holds there; `other` is what is done where none of the first six applies.
pub data Deed (k : Fraction) (s : State) (other : Move) : Move → Type 0 where
  Completed : (r : Task) → IsMember r s.tasks → r.role ≡ Running
      → Deed k s other (Prints (Complete s.clock r.number))
  Resumed : (p : Task) → IsMember p s.tasks → p.role ≡ Held → NoneRuns s.tasks
      → Each (λ t. t.role ≡ Held → p.job.deadline ≤ t.job.deadline) s.tasks → (Calm s → Passes s p)
      → Deed k s other (Prints (Run s.clock p.number))
  Started : (o : Task) → IsMember o s.tasks → o.role ≡ Waiting → NoneRuns s.tasks
      → Each (λ t. t.role ≡ Held → o.job.deadline < t.job.deadline) s.tasks → Fits (left o) s
      → (Calm s → Each (λ w. w.role ≡ Waiting → o.job.deadline ≤ w.job.deadline) s.tasks)
      → Deed k s other (Prints (Run s.clock o.number))
  Began : (f : Task) → IsMember f s.tasks → f.role ≡ Fresh → NoneRuns s.tasks
      → Each (λ t. is_ready_behind t ≡ true → ⊥) s.tasks
      → Deed k s other (Prints (Run s.clock f.number))
  Preempted : (r f : Task) → IsMember r s.tasks → r.role ≡ Running → 1 ≤ left r → IsMember f s.tasks → f.role ≡ Fresh
      → f.job.deadline < r.job.deadline → Fits (left f) s → Deed k s other (Prints (Preempt s.clock r.number f.number))
  Stayed : (r f : Task) → IsMember r s.tasks → r.role ≡ Running → 1 ≤ left r → IsMember f s.tasks → f.role ≡ Fresh
      → (Calm s → (r.job.deadline ≤ f.job.deadline) ⊎ ((f.job.deadline < r.job.deadline) × Crowded s (left f)))
      → Deed k s other (Waits f.number)
  Arrived : (c : Task) → IsMember c s.tasks → c.role ≡ Coming → c.job.release ≡ s.clock
      → Each (λ t. t.role ≡ Coming → c.number ≤ t.number) s.tasks
      → Each (λ t. t.role ≡ Fresh → ⊥) s.tasks
      → Each (λ t. t.role ≡ Running → 1 ≤ left t) s.tasks
      → (NoneRuns s.tasks → Each (λ t. is_ready_behind t ≡ true → ⊥) s.tasks)
      → Deed k s other (Prints (Release c.number c.job))
  Taken : (r x : Task) → IsMember r s.tasks → r.role ≡ Running → 1 ≤ left r → IsMember x s.tasks → x.role ≡ Waiting
      → latest_start x ≡ s.clock
      → Each (λ t. t.role ≡ Fresh → ⊥) s.tasks
      → is_heavy k x.job.value (value_sum (privileged s)) ≡ true
      → Deed k s other (Prints (Take s.clock r.number x.number))
  Abandoned : (r x : Task) → IsMember r s.tasks → r.role ≡ Running → 1 ≤ left r → IsMember x s.tasks → x.role ≡ Waiting
      → latest_start x ≡ s.clock
      → Each (λ t. t.role ≡ Fresh → ⊥) s.tasks
      → is_heavy k x.job.value (value_sum (privileged s)) ≡ false → Deed k s other (Prints (Abandon s.clock x.number))
  Rested : Quiet s → Deed k s other other

-- tasks in the order of a key of their entries
abbrev by_key : (Entry → ℕ) → Version → Task → Task → Bool
by_key key v a b = comes_first_by key v (entry_of a) (entry_of b)

-- of two jobs, the one that comes first in the order of a key has the lesser key
picks : (key : Entry → ℕ) (v : Version) (a t : Task)
    → ((earlier (by_key key v) a t ≡ t) × (key (entry_of t) ≤ key (entry_of a))) ⊎
    ((earlier (by_key key v) a t ≡ a) × (key (entry_of a) ≤ key (entry_of t)))
picks key v a t =
    by_tests (nat_lt (key (entry_of t)) (key (entry_of a))) (key (entry_of t) == key (entry_of a))
    (wins_tie v (entry_of t) (entry_of a)) refl refl where
      by_tests : (less same wins : Bool) → nat_lt (key (entry_of t)) (key (entry_of a)) ≡ less
          → (key (entry_of t) == key (entry_of a)) ≡ same
          → ((cond (less || (same && wins)) t a ≡ t) × (key (entry_of t) ≤ key (entry_of a))) ⊎
          ((cond (less || (same && wins)) t a ≡ a) × (key (entry_of a) ≤ key (entry_of t)))
      by_tests true same wins e e2 = let low : key (entry_of t) < key (entry_of a) = ltb-true _ _ e in
          inl (refl, omega arith)
      by_tests false true true e e2 = let equal : key (entry_of t) ≡ key (entry_of a) = eqb-true _ _ e2 in
          inl (refl, omega arith)
      by_tests false true false e e2 = let equal : key (entry_of t) ≡ key (entry_of a) = eqb-true _ _ e2 in
          inr (refl, omega arith)
      by_tests false false wins e e2 = let above : key (entry_of a) ≤ key (entry_of t) = ltb-false _ _ e in
          inr (refl, above)

module _ (key : Entry → ℕ) (v : Version) (p : Task → Bool) (tasks : List Task) where
  -- what an order puts first is a member of least key
  first_some : (y : Task) → first (by_key key v) (filter p tasks) ≡ Some y
      → IsMember y tasks × (p y ≡ true) × Each (λ t. p t ≡ true → key (entry_of y) ≤ key (entry_of t)) tasks
  first_some y some =
      let least : IsMember y (filter p tasks) × Each (λ t. key (entry_of y) ≤ key (entry_of t)) (filter p tasks) =
      reduce_least (earlier (by_key key v)) (λ t. key (entry_of t)) (picks key v) (filter p tasks) y some in
      let it : IsMember y tasks × (p y ≡ true) = member_filter p tasks y least.0 in
      (it.0, it.1, λ t m is_in. least.1 t (filter_member p tasks t m is_in))

  -- where an order puts none first, none passes
  first_none : first (by_key key v) (filter p tasks) ≡ None → Each (λ t. p t ≡ true → ⊥) tasks
  first_none none t m is_in =
      reduce_none (earlier (by_key key v)) (filter p tasks) none t (filter_member p tasks t m is_in)

-- the first that passes a test is of least number
found_first : (p : Task → Bool) (n : ℕ) (tasks : List Task) (y : Task) → IsNumberedFrom n tasks → find p tasks ≡ Some y
    → Each (λ t. p t ≡ true → y.number ≤ t.number) tasks
found_first p n [] y numbered some t member is_in = absurd member
found_first p n (x ∷ tasks) y numbered some t member is_in =
    by_test (p x) refl some member (λ later m. found_first p _ tasks y numbered.1 later t m is_in) where
      by_test : (b : Bool) → p x ≡ b → cond b (Some x) (find p tasks) ≡ Some y → (t ≡ x) ⊎ IsMember t tasks
          → (find p tasks ≡ Some y → IsMember t tasks → y.number ≤ t.number) → y.number ≤ t.number
      by_test true here same (inl e) more = let e2 : x ≡ y = cc in let e3 : t.number ≡ y.number =
          ap (λ (z : Task). z.number) (e ∙ e2) in omega arith
      by_test true here same (inr m) more = let e2 : x ≡ y = cc in let e3 : x.number ≡ y.number =
          ap (λ (z : Task). z.number) e2 in
          let above : _ ≤ t.number = numbers_above _ tasks numbered.1 t m in omega (arith, numbered.0)
      by_test false out later (inl e) more = never (sym out ∙ subst (λ z. p z ≡ true) e is_in)
      by_test false out later (inr m) more = more later m

-- no version chooses by density while the state isn't pressed
dense_not : (version : Version) → by_density version false ≡ false
dense_not One = refl
dense_not Two = refl
dense_not Three = refl
dense_not Four = refl

-- so it is in a calm state
pub calm_any : (version : Version) (s : State) → Calm s → by_density version s.pressed ≡ false
calm_any version s calm = ap (by_density version) calm ∙ dense_not version

module _ (k : Fraction) (version : Version) (s : State) (other : Move) (sound : IsSound s)
    (real : Realistic s.tasks) where
  -- what the step looks at
  abbrev v : View
  v = view version s

  -- the running job
  it_runs : (r : Task) → running s ≡ Some r → IsMember r s.tasks × (r.role ≡ Running)
  it_runs r some = let it : IsMember r s.tasks × (is_running r ≡ true) = found is_running s.tasks r some in
      (it.0, is_running_role r it.1)

  -- none runs
  none_runs : running s ≡ None → NoneRuns s.tasks
  none_runs none t m = fails is_running t Running refl (not_found is_running s.tasks none t m)

  -- no job passes the test of an order that puts none first
  none_of : (p : Task → Bool) → first (due_first version) (filter p s.tasks) ≡ None → Each (λ t. p t ≡ true → ⊥) s.tasks
  none_of p none = first_none (λ e. e.deadline) version p s.tasks none

  -- none waits
  none_waits : v.first_waiting ≡ None → Each (λ t. is_waiting t ≡ true → ⊥) s.tasks
  none_waits none t m is_in =
      reduce_none (earlier (waiting_order version (by_density version s.pressed))) (filter is_waiting s.tasks) none t
      (filter_member is_waiting s.tasks t m is_in)

  -- none waits or is held
  nobody_behind : v.first_held ≡ None → v.first_waiting ≡ None → Each (λ t. is_ready_behind t ≡ true → ⊥) s.tasks
  nobody_behind no_held no_waiting t m behind = by_role (is_behind_role t behind) where
    by_role : (t.role ≡ Waiting) ⊎ (t.role ≡ Held) → ⊥
    by_role (inl waits) = none_waits no_waiting t m (passes is_waiting t Waiting true waits refl)
    by_role (inr is_h) = none_of is_held no_held t m (passes is_held t Held true is_h refl)

  -- where none runs, the running and held jobs are the held ones
  only_held : NoneRuns s.tasks → Each (λ t. is_privileged t ≡ true → t.role ≡ Held) s.tasks
  only_held none t m is_in = by_active (is_privileged_role t is_in) where
    by_active : (t.role ≡ Running) ⊎ (t.role ≡ Held) → t.role ≡ Held
    by_active (inl e) = absurd (none t m e)
    by_active (inr e) = e

  -- what is not 0 is at least 1
  some_left : (r : Task) → (left r == 0) ≡ false → 1 ≤ left r
  some_left r goes_on = let not_zero : left r ≡ 0 → ⊥ = eqb-false _ _ goes_on in omega arith

  -- past case 3, the running job has some left
  settled_busy : (ro : Option Task) → Settles v ro → Each (λ t. t.role ≡ Running → 1 ≤ left t) s.tasks
  settled_busy ro (Free none no_held no_waiting) t m e = absurd (none_runs none t m e)
  settled_busy ro (Busy r some goes_on) t m e = subst (λ x. 1 ≤ left x) (sym same) (some_left r goes_on) where
    same : t ≡ r
    same = one_number 0 s.tasks sound.numbered t r m (it_runs r some).0
        (sound.one_runs t r m (it_runs r some).0 e (it_runs r some).1)

  -- past case 3, a free processor leaves none waiting or held
  settled_free : (ro : Option Task) → Settles v ro → NoneRuns s.tasks → Each (λ t. is_ready_behind t ≡ true → ⊥) s.tasks
  settled_free ro (Free none no_held no_waiting) _ t m behind = nobody_behind no_held no_waiting t m behind
  settled_free ro (Busy r some goes_on) none t m behind = none r (it_runs r some).0 (it_runs r some).1

  -- past case 3, a job runs or none does
  settled_runs : (ro : Option Task) → Settles v ro → ((r : Task) × IsMember r s.tasks × (r.role ≡ Running))
      ⊎ NoneRuns s.tasks
  settled_runs ro (Free none no_held no_waiting) = inr (none_runs none)
  settled_runs ro (Busy r some goes_on) = inl (r, (it_runs r some).0, (it_runs r some).1)

  -- past case 3, of the running job
  settled_r : (r : Task) → Settles v (Some r) → IsMember r s.tasks × (r.role ≡ Running) × (1 ≤ left r)
  settled_r r (Busy q some goes_on) = ((it_runs r some).0, (it_runs r some).1, some_left r goes_on)

  -- past case 3, with a free processor
  settled_none : Settles v None → NoneRuns s.tasks
  settled_none (Free none no_held no_waiting) = none_runs none

  -- no job is fresh
  is_stale : v.fresh ≡ None → Each (λ t. t.role ≡ Fresh → ⊥) s.tasks
  is_stale none t m = fails is_fresh t Fresh refl (not_found is_fresh s.tasks none t m)

  -- the fresh job
  is_f : (f : Task) → v.fresh ≡ Some f → IsMember f s.tasks × (f.role ≡ Fresh)
  is_f f some = let it : IsMember f s.tasks × (is_fresh f ≡ true) = found is_fresh s.tasks f some in
      (it.0, is_fresh_role f it.1)

  -- the first job to come
  is_c : (c : Task) → v.coming ≡ Some c → IsMember c s.tasks × (c.role ≡ Coming)
      × Each (λ t. t.role ≡ Coming → c.number ≤ t.number) s.tasks
  is_c c some =
      let it : IsMember c s.tasks × (is_coming c ≡ true) = found is_coming s.tasks c some in (
        it.0,
        is_coming_role c it.1,
        λ t m comes. found_first is_coming 0 s.tasks c sound.numbered some t m
            (passes is_coming t Coming true comes refl),
      )

  -- no job to come is due now, so the clock is before each release to come
  ahead : (c : Option Task) → v.coming ≡ c → NoneArrives v c
      → Each (λ t. t.role ≡ Coming → s.clock < t.job.release) s.tasks
  ahead None none _ t m comes = absurd (fails is_coming t Coming refl (not_found is_coming s.tasks none t m) comes)
  ahead (Some c) some later t m comes =
      let it : IsMember c s.tasks × (c.role ≡ Coming) × Each (λ u. u.role ≡ Coming → c.number ≤ u.number) s.tasks =
      is_c c some in
      let apart : c.job.release ≡ s.clock → ⊥ = eqb-false _ _ later in
      let not_past : s.clock ≤ c.job.release = (says s sound c it.0 Coming it.1).1 in
      let order : c.job.release ≤ t.job.release = real.in_order c t it.0 m (it.2 t m comes) in
      omega arith

  -- the waiting job at its latest start
  waits_for_mark : (x : Task) → v.must_start ≡ Some x
      → IsMember x s.tasks × (x.role ≡ Waiting) × (latest_start x ≡ s.clock)
  waits_for_mark x some =
      let it : IsMember x (waiting s) × (is_at_latest_start s x ≡ true) = late_member in
      let is_w : IsMember x s.tasks × (is_waiting x ≡ true) = member_filter is_waiting s.tasks x it.0 in
      (is_w.0, is_waiting_role x is_w.1, eqb-true _ _ it.1) where
        late_member : IsMember x (waiting s) × (is_at_latest_start s x ≡ true)
        late_member = let it : IsMember x (waiting s) × (is_at_latest_start s x ≡ true) × Each
            (λ t. is_at_latest_start s t ≡ true → latest_start x ≤ latest_start t) (waiting s) =
            first_some (λ e. e.latest) version (is_at_latest_start s) (waiting s) x some in (it.0, it.1)

  -- no waiting job is at its latest start
  none_late : (ro : Option Task) → Settles v ro → (v.must_start ≡ None) ⊎ (ro ≡ None)
      → Each (λ t. t.role ≡ Waiting → latest_start t ≡ s.clock → ⊥) s.tasks
  none_late ro settles (inl none) t m waits now =
      first_none (λ e. e.latest) version (is_at_latest_start s) (waiting s) none t
      (filter_member is_waiting s.tasks t m (passes is_waiting t Waiting true waits refl)) (eq-eqb _ _ now)
  none_late None (Free none no_held no_waiting) (inr e) t m waits now =
      none_waits no_waiting t m (passes is_waiting t Waiting true waits refl)
  none_late (Some r) settles (inr e) t m waits now = cc

  -- the room of the held jobs is that of all, where none runs
  fits_held : NoneRuns s.tasks → (o : Task) → 1 ≤ left o → nat_le (left o) (room s.clock (held s)) ≡ true
      → Fits (left o) s
  fits_held none o some low t m is_in =
      let fit : s.clock + demand_up_to (held s) t + left o ≤ t.job.deadline =
      room_fits (left o) s.clock (held s) some (leb-true _ _ low) t
      (filter_member is_held s.tasks t m (passes is_held t Held true (only_held none t m is_in) refl)) in
      let less : sum_by (λ u. share (is_privileged u) t u) s.tasks ≤ sum_by (λ u. share (is_held u) t u) s.tasks =
      sum_le (λ u. share (is_privileged u) t u) (λ u. share (is_held u) t u) s.tasks
      (λ u mu. share_le (is_privileged u) (is_held u) t u
      (λ act. passes is_held u Held true (only_held none u mu act) refl)) in
      omega (arith, demand_is is_held s.tasks t)

  -- what fits the room fits before all running and held jobs
  fits_all : (f : Task) → 1 ≤ left f → left f ≤ room s.clock (privileged s) → Fits (left f) s
  fits_all f some low t m is_in =
      let fit : s.clock + demand_up_to (privileged s) t + left f ≤ t.job.deadline =
      room_fits (left f) s.clock (privileged s) some low t (filter_member is_privileged s.tasks t m is_in) in
      omega (arith, demand_is is_privileged s.tasks t)

  -- the first waiting job
  is_first_waiting : (o : Task) → v.first_waiting ≡ Some o
      → IsMember o s.tasks × (o.role ≡ Waiting)
      × (Calm s → Each (λ w. w.role ≡ Waiting → o.job.deadline ≤ w.job.deadline) s.tasks)
  is_first_waiting o some =
      let it : IsMember o s.tasks × (is_waiting o ≡ true) = member_filter is_waiting s.tasks o
      (first_member (waiting_order version (by_density version s.pressed)) (filter is_waiting s.tasks) o some) in
      (it.0, is_waiting_role o it.1, λ calm w m e. (by_deadline calm).2 w m (passes is_waiting w Waiting true e refl))
    where
      by_deadline : Calm s → IsMember o s.tasks × (is_waiting o ≡ true)
          × Each (λ t. is_waiting t ≡ true → o.job.deadline ≤ t.job.deadline) s.tasks
      by_deadline calm = first_some (λ e. e.deadline) version is_waiting s.tasks o
          (subst (λ b. first (waiting_order version b) (filter is_waiting s.tasks) ≡ Some o) (calm_any version s
          calm) some)

  -- what the held jobs have no room for
  crowded_held : (p : Task) → IsMember p s.tasks → is_held p ≡ true → (o : Task)
      → nat_le (left o) (room s.clock (held s)) ≡ false
      → Crowded s (left o)
  crowded_held p member is_p o low =
      let it : (j : Task) × IsMember j (held s) × (j.job.deadline < s.clock + demand_up_to (held s) j + left o) =
      room_crowded (left o) s.clock p (held s) (filter_member is_held s.tasks p member is_p) (leb-false _ _ low) in
      let is_j : IsMember it.0 s.tasks × (is_held it.0 ≡ true) = member_filter is_held s.tasks it.0 it.1 in
      let less : sum_by (λ u. share (is_held u) it.0 u) s.tasks ≤ sum_by (λ u. share (is_privileged u) it.0 u) s.tasks =
      sum_le (λ u. share (is_held u) it.0 u) (λ u. share (is_privileged u) it.0 u) s.tasks
      (λ u mu. share_le (is_held u) (is_privileged u) it.0 u
      (λ h. passes is_privileged u Held true (is_held_role u h) refl)) in
      let late : it.0.job.deadline < s.clock + demand_up_to (held s) it.0 + left o = it.2 in
      record {
        job = it.0;
        member = is_j.0;
        active = passes is_privileged it.0 Held true (is_held_role it.0 is_j.1) refl;
        late =
            omega (arith, demand_is is_held s.tasks it.0);
      }

  -- what the running and held jobs have no room for
  crowded_all : (r : Task) → IsMember r s.tasks → is_privileged r ≡ true → (amount : ℕ)
      → room s.clock (privileged s) < amount → Crowded s amount
  crowded_all r member is_r amount low =
      let it : (j : Task) × IsMember j (privileged s)
      × (j.job.deadline < s.clock + demand_up_to (privileged s) j + amount) =
      room_crowded amount s.clock r (privileged s) (filter_member is_privileged s.tasks r member is_r) low in
      let is_j : IsMember it.0 s.tasks × (is_privileged it.0 ≡ true) = member_filter is_privileged s.tasks it.0 it.1 in
      let late : it.0.job.deadline < s.clock + demand_up_to (privileged s) it.0 + amount = it.2 in
      record {
        job = it.0;
        member = is_j.0;
        active = is_j.1;
        late =
            omega (arith, demand_is is_privileged s.tasks it.0);
      }

  -- why a fresh job waits
  stays_why : (r f : Task) → Settles v (Some r) → IsMember f s.tasks → f.role ≡ Fresh → preempts v f r ≡ false → Calm s
      → (r.job.deadline ≤ f.job.deadline) ⊎ ((f.job.deadline < r.job.deadline) × Crowded s (left f))
  stays_why r f settles f_member fresh tight calm = by_before (nat_lt f.job.deadline r.job.deadline) refl
      (alone (nat_lt f.job.deadline r.job.deadline && nat_le f.job.work v.privileged_room)
      (subst (λ b. ((nat_lt f.job.deadline r.job.deadline && nat_le f.job.work v.privileged_room)
      && not (b && is_less_dense f r)) ≡ false) (calm_any version s calm) tight)) where
        alone : (x : Bool) → (x && true) ≡ false → x ≡ false
        alone true e = never (sym e)
        alone false e = refl

        all_f : left f ≡ f.job.work
        all_f = let nothing : f.had ≡ 0 = (says s sound f f_member Fresh fresh).0 in omega arith

        it : IsMember r s.tasks × (r.role ≡ Running) × (1 ≤ left r)
        it = settled_r r settles

        by_before : (b : Bool) → nat_lt f.job.deadline r.job.deadline ≡ b
            → (b && nat_le f.job.work v.privileged_room) ≡ false
            → (r.job.deadline ≤ f.job.deadline) ⊎ ((f.job.deadline < r.job.deadline) × Crowded s (left f))
        by_before false later _ = inl (ltb-false _ _ later)
        by_before true before low = inr (
          ltb-true _ _ before,
          crowded_all r it.0 (passes is_privileged r Running true it.1 refl) (left f)
              (let less : room s.clock (privileged s) < f.job.work = leb-false _ _ low in omega (arith, all_f)),
        )

  -- the deed of case 2
  deed_resumes : (p : Task) (o : Option Task) → running s ≡ None → v.first_held ≡ Some p → v.first_waiting ≡ o
      → Deed k s other (runs v (resumed v p o))
  deed_resumes p o none is_p is_o = by_option o is_o where
    facts : IsMember p s.tasks × (is_held p ≡ true)
        × Each (λ t. is_held t ≡ true → p.job.deadline ≤ t.job.deadline) s.tasks
    facts = first_some (λ e. e.deadline) version is_held s.tasks p is_p

    least : Each (λ t. t.role ≡ Held → p.job.deadline ≤ t.job.deadline) s.tasks
    least t m e = facts.2 t m (passes is_held t Held true e refl)

    resumes : (Calm s → Passes s p) → Deed k s other (runs v p)
    resumes why = Resumed p facts.0 (is_held_role p facts.1) (none_runs none) least why

    by_option : (o : Option Task) → v.first_waiting ≡ o → Deed k s other (runs v (resumed v p o))
    by_option None e = resumes (λ _.
        NoneBefore (λ w m waits. absurd (none_waits e w m (passes is_waiting w Waiting true waits refl))))
    by_option (Some o) e = by_tests (nat_lt o.job.deadline p.job.deadline)
        (nat_le (left o) (room s.clock (held s))) refl refl where
          it : IsMember o s.tasks × (o.role ≡ Waiting)
              × (Calm s → Each (λ w. w.role ≡ Waiting → o.job.deadline ≤ w.job.deadline) s.tasks)
          it = is_first_waiting o e

          before_held : nat_lt o.job.deadline p.job.deadline ≡ true
              → Each (λ t. t.role ≡ Held → o.job.deadline < t.job.deadline) s.tasks
          before_held before t m is_h = let first_one : o.job.deadline < p.job.deadline = ltb-true _ _ before in
              let low : p.job.deadline ≤ t.job.deadline = least t m is_h in omega arith

          by_tests : (b c : Bool) → nat_lt o.job.deadline p.job.deadline ≡ b
              → nat_le (left o) (room s.clock (held s)) ≡ c
              → Deed k s other (runs v (cond (b && c) o p))
          by_tests false c later fits = resumes (λ calm.
              NoneBefore (λ w m waits. let low : o.job.deadline ≤ w.job.deadline = it.2 calm w m waits in
              let high : p.job.deadline ≤ o.job.deadline = ltb-false _ _ later in omega arith))
          by_tests true false before tight = resumes (λ _.
              NoneFits o it.0 it.1 (before_held before) (crowded_held p facts.0 facts.1 o tight))
          by_tests true true before fits =
              Started o it.0 it.1 (none_runs none) (before_held before)
              (fits_held (none_runs none) o (says s sound o it.0 Waiting it.1).0 fits) it.2

  -- the deed of each case
  pub deed_of : (m : Move) → Case k v other m → Deed k s other m
  deed_of m (Completes r some done) = Completed r (it_runs r some).0 (it_runs r some).1
  deed_of m (Resumes p none is_p) = deed_resumes p v.first_waiting none is_p refl
  deed_of m (Starts o none no_held is_o) =
      Started o (is_first_waiting o is_o).0 (is_first_waiting o is_o).1 (none_runs none)
      (λ t mt is_h. absurd (none_of is_held no_held t mt (passes is_held t Held true is_h refl)))
      (λ t mt is_in. absurd (none_of is_held no_held t mt
      (passes is_held t Held true (only_held (none_runs none) t mt is_in) refl)))
      (is_first_waiting o is_o).2
  deed_of m (Begins f settles is_fr) = Began f (is_f f is_fr).0 (is_f f is_fr).1 (settled_none settles)
      (settled_free None settles (settled_none settles))
  deed_of m (Preempts r f settles is_fr fits) =
      let it : IsMember f s.tasks × (f.role ≡ Fresh) = is_f f is_fr in
      let low : f.job.work ≤ room s.clock (privileged s) =
      leb-true _ _ (and_parts (nat_lt f.job.deadline r.job.deadline) (nat_le f.job.work v.privileged_room)
      (both fits)).1 in
      Preempted r f (settled_r r settles).0 (settled_r r settles).1 (settled_r r settles).2 it.0 it.1
      (ltb-true _ _ (and_parts (nat_lt f.job.deadline r.job.deadline) (nat_le f.job.work v.privileged_room)
      (both fits)).0)
      (fits_all f (says s sound f it.0 Fresh it.1).1 (omega arith)) where
        both : preempts v f r ≡ true → (nat_lt f.job.deadline r.job.deadline && nat_le f.job.work v.privileged_room)
            ≡ true
        both all = (and_parts (nat_lt f.job.deadline r.job.deadline && nat_le f.job.work v.privileged_room)
            (not (v.yields && is_less_dense f r)) all).0
  deed_of m (Stays r f settles is_fr tight) =
      Stayed r f (settled_r r settles).0 (settled_r r settles).1 (settled_r r settles).2 (is_f f is_fr).0
      (is_f f is_fr).1
      (stays_why r f settles (is_f f is_fr).0 (is_f f is_fr).1 tight)
  deed_of m (Arrives ro c settles stale some now) =
      Arrived c (is_c c some).0 (is_c c some).1 (eqb-true _ _ now) (is_c c some).2 (is_stale stale)
      (settled_busy ro settles)
      (settled_free ro settles)
  deed_of m (Takes r x settles stale none late heavy) =
      Taken r x (settled_r r settles).0 (settled_r r settles).1 (settled_r r settles).2 (waits_for_mark x late).0
      (waits_for_mark x late).1 (waits_for_mark x late).2
      (is_stale stale) heavy
  deed_of m (Abandons r x settles stale none late light) =
      Abandoned r x (settled_r r settles).0 (settled_r r settles).1 (settled_r r settles).2 (waits_for_mark x late).0
      (waits_for_mark x late).1
      (waits_for_mark x late).2 (is_stale stale) light
  deed_of m (Rests ro settles stale none quiet) = Rested (record {
    stale = is_stale stale;
    early = none_late ro settles quiet;
    ahead = ahead v.coming refl none;
    busy = settled_busy ro settles;
    free = settled_free ro settles;
    runs_or_none = settled_runs ro settles;
  })

module _ (k : Fraction) (s : State) (other : Move) where
  -- only a rest can be the end
  pub end_rests : (m : Move) → Deed k s other m → is_end m ≡ true → m ≡ other
  end_rests m (Rested quiet) e = refl
  end_rests m _ e = never e

  -- a silent tick is taken in a quiet state
  pub tick_quiet : (m : Move) → Deed k s other m → m ≡ Ticks → Quiet s
  tick_quiet m (Rested quiet) e = quiet
  tick_quiet m _ e = absurd (cc)

  -- where all jobs are over, nothing is done but a rest
  module _ (over : Each (λ t. is_over t ≡ true) s.tasks) where
    not_over : (t : Task) → IsMember t s.tasks → (role : Role) → is_over (with_role t role) ≡ false → t.role ≡ role → ⊥
    not_over t m role out e = never (sym (passes is_over t role false e out) ∙ over t m)

    pub over_rests : (m : Move) → Deed k s other m → m ≡ other
    over_rests m (Completed r member runs) = absurd (not_over r member Running refl runs)
    over_rests m (Resumed p member held none least why) = absurd (not_over p member Held refl held)
    over_rests m (Started o member waiting none first fits next) = absurd (not_over o member Waiting refl waiting)
    over_rests m (Began f member fresh none free) = absurd (not_over f member Fresh refl fresh)
    over_rests m (Preempted r f member runs some f_member fresh before fits) =
        absurd (not_over r member Running refl runs)
    over_rests m (Stayed r f member runs some f_member fresh why) = absurd (not_over r member Running refl runs)
    over_rests m (Arrived c member comes now first stale busy free) = absurd (not_over c member Coming refl comes)
    over_rests m (Taken r x member runs some x_member waiting now stale heavy) =
        absurd (not_over r member Running refl runs)
    over_rests m (Abandoned r x member runs some x_member waiting now stale light) =
        absurd (not_over r member Running refl runs)
    over_rests m (Rested quiet) = refl
