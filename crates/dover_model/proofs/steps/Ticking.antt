-- A silent tick keeps a sound state sound.
use Rattle.std.proofs.Common.{◌≡◌, ℕ, ◌+◌, ◌-◌, ◌≤◌, ◌<◌, ◌⊎◌, inl, inr, map, refl, sym, subst, Bool, true, false, cond}
use Rattle.std.proofs.Common.{arith, sum_by, lt-ltb}
use Rattle.dover_model.specs.Common.{Role, Coming, Fresh, Waiting, Held, Running, Done, Task, State}
use Rattle.dover_model.specs.Common.{is_privileged, is_running, is_ready_behind, left, latest_start, Ticks, after}
use Rattle.dover_model.specs.Common.{with_role, ticked, IsMember, Each, EachTwo, FitsRole, NoneRuns, IsSound}
use Rattle.dover_model.proofs.lists.Members.{on_map, sum_map, sum_le}
use Rattle.dover_model.proofs.steps.Roles.{one_number, numbered_map, passes, is_running_role, is_privileged_role}
use Rattle.dover_model.proofs.steps.Loads.{Fits, room_of_fits, fits_of_room, share, load, sum_change}
use Rattle.dover_model.proofs.lists.Tests.{never}

-- ---- what a tick does to left

-- a tick more is still at most the work
had_ticked : (b : Bool) (had work : ℕ) → had ≤ work → (b ≡ true → 1 ≤ work - had) → cond b (had + 1) had ≤ work
had_ticked true had work most some = let more : 1 ≤ work - had = some refl in omega arith
had_ticked false had work most some = most

-- a tick leaves no more
left_less : (b : Bool) (had work : ℕ) → work - cond b (had + 1) had ≤ work - had
left_less true had work = omega arith
left_less false had work = omega arith

-- the running job has one less
left_drops : (b : Bool) (had work : ℕ) → b ≡ true → 1 ≤ work - had → work - cond b (had + 1) had + 1 ≤ work - had
left_drops true had work runs some = omega arith
left_drops false had work runs some = never runs

-- the job that runs has one tick less to go
pub running_left : (r : Task) → r.role ≡ Running → 1 ≤ left r → left (ticked r) + 1 ≤ left r
running_left r runs some = left_drops (is_running r) r.had r.job.work (passes is_running r Running true runs refl) some

-- no job has more left
pub no_more_left : (t : Task) → left (ticked t) ≤ left t
no_more_left t = left_less (is_running t) t.had t.job.work

-- less left adds less
share_less : (a c : Bool) (m n : ℕ) → m ≤ n → cond a (cond c m 0) 0 ≤ cond a (cond c n 0) 0
share_less true true m n less = less
share_less true false m n less = omega arith
share_less false c m n less = omega arith

-- one less left adds one less
share_drops : (a c : Bool) (m n : ℕ) → a ≡ true → c ≡ true → m + 1 ≤ n
    → cond a (cond c m 0) 0 + 1 ≤ cond a (cond c n 0) 0 + 0
share_drops false c m n is_in due drops = never is_in
share_drops true false m n is_in due drops = never due
share_drops true true m n is_in due drops = omega arith

-- what a role says is true one tick later
tick_fits : (clock : ℕ) (t : Task) (role : Role) → FitsRole clock role (with_role t role) → (role ≡ Fresh → ⊥)
    → (role ≡ Waiting → latest_start t ≡ clock → ⊥) → (role ≡ Coming → clock < t.job.release)
    → FitsRole (clock + 1) role (ticked (with_role t role))
tick_fits clock t Coming fits stale early ahead = let later : clock < t.job.release = ahead refl in
    (fits.0, omega arith)
tick_fits clock t Fresh fits stale early ahead = absurd (stale refl)
tick_fits clock t Waiting fits stale early ahead =
    let some_left : 1 ≤ left t = fits.0 in
    let released : t.job.release ≤ clock = fits.1 in
    let in_time : clock + left t ≤ t.job.deadline = fits.2 in
    let not_now : latest_start t ≡ clock → ⊥ = early refl in
    (some_left, omega arith, omega arith)
tick_fits clock t Running fits stale early ahead = omega (arith, fits)
tick_fits clock t Done fits stale early ahead = omega (arith, fits)
tick_fits clock t _ fits stale early ahead = let released : t.job.release ≤ clock = fits.1 in (fits.0, omega arith)

-- where a silent tick is taken: none is fresh or at its latest start or due to be released, and the processor isn't
-- free while a job is held
pub record Quiet (s : State) : Type 0 where
  pub stale : Each (λ t. t.role ≡ Fresh → ⊥) s.tasks
  pub early : Each (λ t. t.role ≡ Waiting → latest_start t ≡ s.clock → ⊥) s.tasks
  pub ahead : Each (λ t. t.role ≡ Coming → s.clock < t.job.release) s.tasks
  pub busy : Each (λ t. t.role ≡ Running → 1 ≤ left t) s.tasks
  pub free : NoneRuns s.tasks → Each (λ t. is_ready_behind t ≡ true → ⊥) s.tasks
  pub runs_or_none : ((r : Task) × IsMember r s.tasks × (r.role ≡ Running)) ⊎ NoneRuns s.tasks

module _ (s : State) (sound : IsSound s) (quiet : Quiet s) where
  -- the load of each running or held job falls by one
  module _ (r : Task) (member : IsMember r s.tasks) (runs : r.role ≡ Running) where
    some_left : 1 ≤ left r
    some_left = quiet.busy r member runs

    load_at : (t : Task) → IsMember t s.tasks → (t.role ≡ Running) ⊎ (t.role ≡ Held)
        → load (map ticked s.tasks) (ticked t) + 1 ≤ load s.tasks t
    load_at t m (inl runs_t) = subst (λ x. load (map ticked s.tasks) (ticked x) + 1 ≤ load s.tasks x)
        (sym (one_number 0 s.tasks sound.numbered t r m member (sound.one_runs t r m member runs_t runs)))
        (let less : sum_by (λ u. share (is_privileged u) r u) (map ticked s.tasks) ≤ sum_by
        (λ u. share (is_privileged u) r u) s.tasks =
        rw (sum_map ticked (λ u. share (is_privileged u) r u) s.tasks)
        (sum_le (λ u. share (is_privileged u) r (ticked u)) (λ u. share (is_privileged u) r u) s.tasks
        (λ u mu. share_less (is_privileged u) _ _ _ (no_more_left u))) in
        omega (arith, running_left r runs some_left))
    load_at t m (inr held) =
        let less : sum_by (λ u. share (is_privileged u) t u) (map ticked s.tasks) + 1 ≤ sum_by
        (λ u. share (is_privileged u) t u) s.tasks + 0 =
        rw (sum_map ticked (λ u. share (is_privileged u) t u) s.tasks)
        (sum_change (λ u. share (is_privileged u) t (ticked u))
        (λ u. share (is_privileged u) t u) 1 0 0 s.tasks r sound.numbered member
        (share_drops (is_privileged r) _ _ _ (passes is_privileged r Running true runs refl)
        (lt-ltb _ _ (sound.running_first r t member m runs held)) (running_left r runs some_left))
        (λ u mu _. share_less (is_privileged u) _ _ _ (no_more_left u))) in
        omega (arith, no_more_left t)

  -- there is room after the tick
  fits_after : ((r : Task) × IsMember r s.tasks × (r.role ≡ Running)) ⊎ NoneRuns s.tasks → Fits 0 (after s Ticks)
  fits_after (inl it) = on_map ticked
      (λ t. is_privileged t ≡ true → s.clock + 1 + load (map ticked s.tasks) t + 0 ≤ t.job.deadline) s.tasks
      (λ t m is_in.
      let old : s.clock + load s.tasks t + 0 ≤ t.job.deadline = fits_of_room s sound.room t m is_in in
      let drops : load (map ticked s.tasks) (ticked t) + 1 ≤ load s.tasks t =
      load_at it.0 it.1 it.2 t m (is_privileged_role t is_in) in
      omega arith)
  fits_after (inr none) = on_map ticked
      (λ t. is_privileged t ≡ true → s.clock + 1 + load (map ticked s.tasks) t + 0 ≤ t.job.deadline) s.tasks
      (λ t m is_in. absurd (by_active t m (is_privileged_role t is_in))) where
        by_active : (t : Task) → IsMember t s.tasks → (t.role ≡ Running) ⊎ (t.role ≡ Held) → ⊥
        by_active t m (inl runs) = none t m runs
        by_active t m (inr held) = quiet.free none t m (passes is_ready_behind t Held true held refl)

  -- what does not depend on ticks stays
  still : (R : Task → Task → Type 0) → EachTwo (λ t u. R (ticked t) (ticked u)) s.tasks → EachTwo R (map ticked s.tasks)
  still R old t u mt mu = on_map ticked (λ x. (y : Task) → IsMember y (map ticked s.tasks) → R x y) s.tasks
      (λ x mx. on_map ticked (λ y. R (ticked x) y) s.tasks (λ y my. old x y mx my)) t mt u mu

  -- a silent tick keeps a sound state sound
  pub ticks_sound : IsSound (after s Ticks)
  ticks_sound = record {
    numbered = numbered_map ticked (λ t. refl) 0 s.tasks sound.numbered;
    at_most_work = on_map ticked (λ t. t.had ≤ t.job.work) s.tasks
        (λ t m. had_ticked (is_running t) t.had t.job.work (sound.at_most_work t m)
        (λ runs. quiet.busy t m (is_running_role t runs)));
    roles = on_map ticked (λ t. FitsRole (s.clock + 1) t.role t) s.tasks
        (λ t m. tick_fits s.clock t t.role (sound.roles t m) (quiet.stale t m) (quiet.early t m) (quiet.ahead t m));
    coming_last = still (λ t u. t.role ≡ Coming → t.number ≤ u.number → u.role ≡ Coming) sound.coming_last;
    one_runs = still (λ t u. t.role ≡ Running → u.role ≡ Running → t.number ≡ u.number) sound.one_runs;
    one_fresh = still (λ t u. t.role ≡ Fresh → u.role ≡ Fresh → t.number ≡ u.number) sound.one_fresh;
    distinct = still (λ t u. is_privileged t ≡ true → is_privileged u ≡ true → t.job.deadline ≡ u.job.deadline
        → t.number ≡ u.number)
        sound.distinct;
    running_first = still (λ t u. t.role ≡ Running → u.role ≡ Held → t.job.deadline < u.job.deadline)
        sound.running_first;
    room = room_of_fits (after s Ticks) (fits_after quiet.runs_or_none);
  }
