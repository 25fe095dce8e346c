-- Each change of one job's role that a step makes is allowed.
use Rattle.std.proofs.Common.{◌≡◌, ℕ, ◌+◌, ◌≤◌, ◌<◌, ◌⊎◌, inl, inr, refl, sym, ap, ◌∙◌, subst, true, arith, sum_by}
use Rattle.dover_model.specs.Common.{Role, Coming, Fresh, Waiting, Held, Running, Done, Gone, Task, IsJob, State}
use Rattle.dover_model.specs.Common.{is_privileged, left, latest_start, with_role, displaced, IsMember, Each, FitsRole}
use Rattle.dover_model.specs.Common.{NoneRuns, IsSound}
use Rattle.dover_model.proofs.lists.Members.{by_bool, on_map, sum_map, sum_zero}
use Rattle.dover_model.proofs.steps.Roles.{numbered_map, passes, is_privileged_role}
use Rattle.dover_model.proofs.steps.Loads.{with_roles, state_in, Fits, fits_of_room, fits_fewer, share, load}
use Rattle.dover_model.proofs.steps.Loads.{sum_change, share_later, share_most}
use Rattle.dover_model.proofs.steps.OneChange.{changed, state_with, EachOther, Allows, on_changed, on_changed_role}
use Rattle.dover_model.proofs.lists.Tests.{never}
use Rattle.dover_model.proofs.valid.JobLimits.{job_limits}

module _ (s : State) (sound : IsSound s) (r : Task) (member : IsMember r s.tasks) where
  -- what the role of r says of it
  pub says : (role : Role) → r.role ≡ role → FitsRole s.clock role r
  says role e = subst (λ x. FitsRole s.clock x r) e (sound.roles r member)

  -- a job that is not to come has none to come before it
  none_behind : (role : Role) → r.role ≡ role → (role ≡ Coming → ⊥)
      → EachOther r (λ t. t.role ≡ Coming → t.number ≤ r.number → ⊥) s.tasks
  none_behind role e not_coming t m differs comes before =
      not_coming (sym e ∙ sound.coming_last t r m member comes before)

  -- no job is new in the set where r is not
  fewer : (new : Role) → (is_privileged (with_role r new) ≡ true → is_privileged r ≡ true)
      → Each (λ u. is_privileged (with_role u (changed r new u)) ≡ true → is_privileged u ≡ true) s.tasks
  fewer new less = on_changed_role 0 s.tasks sound.numbered r member new
      (λ t role. is_privileged (with_role t role) ≡ true → is_privileged t ≡ true) less (λ t m _ h. h)

  -- what fitted still fits
  pub still_fits : (amount : ℕ) (new : Role) → (is_privileged (with_role r new) ≡ true → is_privileged r ≡ true)
      → Fits amount s
      → Fits amount (state_with s r new)
  still_fits amount new less = fits_fewer amount (changed r new) s (fewer new less)

  -- there is still room
  still_room : (new : Role) → (is_privileged (with_role r new) ≡ true → is_privileged r ≡ true)
      → Fits 0 (state_with s r new)
  still_room new less = still_fits 0 new less (fits_of_room s sound.room)

  -- the running job is done
  pub completes : r.role ≡ Running → Allows s r Done
  completes runs = record {
    fits = says Running runs;
    not_coming = λ e. absurd (cc);
    coming_behind = none_behind Running runs (λ e. absurd (cc));
    stale = λ e. absurd (cc);
    runs_alone = λ e. absurd (cc);
    distinct = never;
    runs_first = λ e. absurd (cc);
    held_behind = λ e. absurd (cc);
    room = still_room Done never;
  }

  -- the held job of least deadline runs again
  pub resumes : r.role ≡ Held → NoneRuns s.tasks → Each (λ t. t.role ≡ Held
      → r.job.deadline ≤ t.job.deadline) s.tasks → Allows s r Running
  resumes held none least = record {
    fits = (says Held held).1;
    not_coming = λ e. absurd (cc);
    coming_behind = none_behind Held held (λ e. absurd (cc));
    stale = λ e. absurd (cc);
    runs_alone = λ _ t m _ runs. none t m runs;
    distinct = λ _ t m differs is_in same. differs
        (sound.distinct t r m member is_in (passes is_privileged r Held true held refl) same);
    runs_first = λ _ t m differs other.
        let low : r.job.deadline ≤ t.job.deadline = least t m other in
        let apart : t.job.deadline ≡ r.job.deadline → ⊥ =
        λ same. differs (sound.distinct t r m member (passes is_privileged t Held true other refl)
        (passes is_privileged r Held true held refl) same) in omega arith;
    held_behind = λ e. absurd (cc);
    room = still_room Running (λ _. passes is_privileged r Held true held refl);
  }

  -- the fresh job waits
  pub waits : r.role ≡ Fresh → Allows s r Waiting
  waits fresh = record {
    fits = ((says Fresh fresh).1, (says Fresh fresh).2, (says Fresh fresh).3);
    not_coming = λ e. absurd (cc);
    coming_behind = none_behind Fresh fresh (λ e. absurd (cc));
    stale = λ e. absurd (cc);
    runs_alone = λ e. absurd (cc);
    distinct = never;
    runs_first = λ e. absurd (cc);
    held_behind = λ e. absurd (cc);
    room = still_room Waiting never;
  }

  -- the running job is held
  pub holds : r.role ≡ Running → 1 ≤ left r → Allows s r Held
  holds runs some = record {
    fits = (some, says Running runs);
    not_coming = λ e. absurd (cc);
    coming_behind = none_behind Running runs (λ e. absurd (cc));
    stale = λ e. absurd (cc);
    runs_alone = λ e. absurd (cc);
    distinct = λ _ t m differs is_in same. differs
        (sound.distinct t r m member is_in (passes is_privileged r Running true runs refl) same);
    runs_first = λ e. absurd (cc);
    held_behind = λ _ t m differs other. absurd (differs (sound.one_runs t r m member other runs));
    room = still_room Held (λ _. passes is_privileged r Running true runs refl);
  }

  -- a waiting job is given up
  pub abandons : r.role ≡ Waiting → Allows s r Gone
  abandons waiting = record {
    fits = ((says Waiting waiting).0, (says Waiting waiting).1);
    not_coming = λ e. absurd (cc);
    coming_behind = none_behind Waiting waiting (λ e. absurd (cc));
    stale = λ e. absurd (cc);
    runs_alone = λ e. absurd (cc);
    distinct = never;
    runs_first = λ e. absurd (cc);
    held_behind = λ e. absurd (cc);
    room = still_room Gone never;
  }

  -- the first job to come is released
  pub arrives : r.role ≡ Coming → r.job.release ≡ s.clock → IsJob r.job
      → Each (λ t. t.role ≡ Coming → r.number ≤ t.number) s.tasks
      → Each (λ t. t.role ≡ Fresh → ⊥) s.tasks → Allows s r Fresh
  arrives comes now job first stale = record {
    fits =
        let nothing : r.had ≡ 0 = (says Coming comes).0 in
        let work : 1 ≤ r.job.work = (job_limits job).work in
        let window : r.job.release + r.job.work ≤ r.job.deadline = (job_limits job).window in
        (nothing, omega arith, omega arith, omega arith);
    not_coming = λ e. absurd (cc);
    coming_behind = λ t m differs other before. let above : r.number ≤ t.number = first t m other in
        differs (omega arith);
    stale = λ _ t m _ fresh. stale t m fresh;
    runs_alone = λ e. absurd (cc);
    distinct = never;
    runs_first = λ e. absurd (cc);
    held_behind = λ e. absurd (cc);
    room = still_room Fresh never;
  }

  -- where none runs, and r is due before the held jobs, it adds its left to their loads and nothing before its own
  module _ (none : NoneRuns s.tasks) (first : Each (λ t. t.role ≡ Held → r.job.deadline < t.job.deadline) s.tasks) where
    no_share : Each (λ u. share (is_privileged (with_role u (changed r Running u))) r u ≡ 0) s.tasks
    no_share = on_changed_role 0 s.tasks sound.numbered r member Running
        (λ u role. share (is_privileged (with_role u role)) r u ≡ 0)
        (share_later true r r (omega arith))
        (λ u m _. by_bool _ (is_privileged u) (λ is_in. by_active u m (is_privileged_role u is_in))
        (λ out. ap (λ b. share b r u) out)) where
          by_active : (u : Task) → IsMember u s.tasks → (u.role ≡ Running) ⊎ (u.role ≡ Held)
              → share (is_privileged u) r u ≡ 0
          by_active u m (inl runs) = absurd (none u m runs)
          by_active u m (inr held) =
              share_later (is_privileged u) r u
              (let less : r.job.deadline < u.job.deadline = first u m held in omega arith)

    load_alone : load (with_roles (changed r Running) s.tasks) r ≡ left r
    load_alone =
        let zero_sum : sum_by (λ u. share (is_privileged u) r u) (with_roles (changed r Running) s.tasks) ≡ 0 =
        sum_map (λ u. with_role u (changed r Running u)) (λ u. share (is_privileged u) r u) s.tasks
        ∙ sum_zero (λ u. share (is_privileged (with_role u (changed r Running u))) r u) s.tasks no_share in
        omega arith

    load_more : (t : Task) → load (with_roles (changed r Running) s.tasks) t ≤ load s.tasks t + left r
    load_more t =
        let more : sum_by (λ u. share (is_privileged u) t u) (with_roles (changed r Running) s.tasks) + 0 ≤ sum_by
        (λ u. share (is_privileged u) t u) s.tasks + left r =
        rw (sum_map (λ u. with_role u (changed r Running u)) (λ u. share (is_privileged u) t u) s.tasks)
        (sum_change (λ u. share (is_privileged (with_role u (changed r Running u))) t u)
        (λ u. share (is_privileged u) t u) 0
        (left r) 0 s.tasks r sound.numbered member
        (let most : share (is_privileged (with_role r (changed r Running r))) t r ≤ left r =
        share_most (is_privileged (with_role r (changed r Running r))) t r in omega arith)
        (on_changed_role 0 s.tasks sound.numbered r member Running
        (λ u role. (u.number ≡ r.number → ⊥)
        → share (is_privileged (with_role u role)) t u ≤ share (is_privileged u) t u)
        (λ differs. absurd (differs refl)) (λ u m _ _. omega arith))) in
        omega arith

    -- a job that doesn't run or is held starts to run
    pub starts : (r.role ≡ Coming → ⊥) → r.job.release ≤ s.clock
        → s.clock + left r ≤ r.job.deadline → Fits (left r) s → Allows s r Running
    starts not_coming released slack fits = record {
      fits = released;
      not_coming = λ e. absurd (cc);
      coming_behind = none_behind r.role refl not_coming;
      stale = λ e. absurd (cc);
      runs_alone = λ _ t m _ runs. none t m runs;
      distinct = λ _ t m differs is_in same. by_active t m same (is_privileged_role t is_in);
      runs_first = λ _ t m differs held. first t m held;
      held_behind = λ e. absurd (cc);
      room = on_changed 0 s.tasks sound.numbered r member Running
          (λ t. is_privileged t ≡ true → s.clock + load (with_roles (changed r Running) s.tasks) t + 0 ≤ t.job.deadline)
          (λ _. omega (arith, load_alone))
          (λ t m differs is_in. let old : s.clock + load s.tasks t + left r ≤ t.job.deadline = fits t m is_in in
          omega (arith, load_more t));
    } where
      by_active : (t : Task) → IsMember t s.tasks → t.job.deadline ≡ r.job.deadline → (t.role ≡ Running)
          ⊎ (t.role ≡ Held) → ⊥
      by_active t m same (inl runs) = none t m runs
      by_active t m same (inr held) = let less : r.job.deadline < t.job.deadline = first t m held in omega arith

-- ---- a take displaces all running and held jobs

-- what is displaced doesn't run
pub displaced_rests : (role : Role) → displaced role ≡ Running → ⊥
displaced_rests Coming e = cc
displaced_rests _ e = cc

-- no displaced job runs or is held
displaced_active : (t : Task) → is_privileged (with_role t (displaced t.role)) ≡ true → ⊥
displaced_active t = each t.role where
  each : (role : Role) → is_privileged (with_role t (displaced role)) ≡ true → ⊥
  each Coming h = never h
  each _ h = never h

-- the role before, by the role after
pub displaced_role : (role new : Role) → displaced role ≡ new → (role ≡ new)
    ⊎ ((new ≡ Waiting) × ((role ≡ Running) ⊎ (role ≡ Held)))
displaced_role Held new e = inr (sym e, inr refl)
displaced_role Running new e = inr (sym e, inl refl)
displaced_role _ new e = inl e

-- a role but Waiting is not by displacement
displaced_only : (role new : Role) → (new ≡ Waiting → ⊥) → displaced role ≡ new → role ≡ new
displaced_only role new other e = by_case (displaced_role role new e) where
  by_case : (role ≡ new) ⊎ ((new ≡ Waiting) × ((role ≡ Running) ⊎ (role ≡ Held))) → role ≡ new
  by_case (inl same) = same
  by_case (inr was) = absurd (other was.0)

-- what is true of a displaced job
displaced_fits : (clock : ℕ) (t : Task) (role : Role) → FitsRole clock role t → (role ≡ Running → 1 ≤ left t)
    → (is_privileged (with_role t role) ≡ true → clock + left t ≤ t.job.deadline)
    → FitsRole clock (displaced role) (with_role t (displaced role))
displaced_fits clock t Held fits busy slack = (fits.0, fits.1, slack refl)
displaced_fits clock t Running fits busy slack = (busy refl, fits, slack refl)
displaced_fits clock t _ fits busy slack = fits

-- a running or held job is in time
pub active_slack : (s : State) → IsSound s
    → Each (λ t. is_privileged t ≡ true → s.clock + left t ≤ t.job.deadline) s.tasks
active_slack s sound t m is_in = let fit : s.clock + load s.tasks t + 0 ≤ t.job.deadline =
    fits_of_room s sound.room t m is_in in omega arith

module _ (s : State) (sound : IsSound s) (stale : Each (λ t. t.role ≡ Fresh → ⊥) s.tasks)
    (busy : Each (λ t. t.role ≡ Running → 1 ≤ left t) s.tasks) where
  -- a displaced job
  abbrev moved : Task → Task
  moved t = with_role t (displaced t.role)

  -- a role but Waiting that none has before, none has after
  no_longer : (role : Role) → (role ≡ Waiting → ⊥) → ((t : Task) → IsMember t s.tasks → t.role ≡ role → ⊥)
      → Each (λ t. t.role ≡ role → ⊥) (with_roles (λ t. displaced t.role) s.tasks)
  no_longer role other none =
      on_map moved (λ t. t.role ≡ role → ⊥) s.tasks (λ t m e. none t m (displaced_only t.role role other e))

  -- none runs or is held
  none_active : Each (λ t. is_privileged t ≡ true → ⊥) (with_roles (λ t. displaced t.role) s.tasks)
  none_active = on_map moved (λ t. is_privileged t ≡ true → ⊥) s.tasks (λ t m h. displaced_active t h)

  -- a displacement keeps a sound state sound
  pub displaced_sound : IsSound (state_in s (λ t. displaced t.role))
  displaced_sound = record {
    numbered = numbered_map moved (λ t. refl) 0 s.tasks sound.numbered;
    at_most_work = on_map moved (λ t. t.had ≤ t.job.work) s.tasks (λ t m. sound.at_most_work t m);
    roles = on_map moved (λ t. FitsRole s.clock t.role t) s.tasks
        (λ t m. displaced_fits s.clock t t.role (sound.roles t m) (busy t m) (active_slack s sound t m));
    coming_last = λ t u mt mu. on_map moved
        (λ x. (y : Task) → IsMember y (with_roles (λ z. displaced z.role) s.tasks) → x.role ≡ Coming
        → x.number ≤ y.number → y.role ≡ Coming)
        s.tasks
        (λ x mx. on_map moved (λ y. displaced x.role ≡ Coming → x.number ≤ y.number → y.role ≡ Coming) s.tasks
        (λ y my comes before. ap displaced
        (sound.coming_last x y mx my (displaced_only x.role Coming (λ e. absurd (cc)) comes) before))) t mt
        u mu;
    one_runs = λ t u mt mu runs _. absurd (none_active t mt (passes is_privileged t Running true runs refl));
    one_fresh = λ t u mt mu fresh _. absurd (no_longer Fresh (λ e. absurd (cc)) stale t mt fresh);
    distinct = λ t u mt mu is_in _ _. absurd (none_active t mt is_in);
    running_first = λ t u mt mu runs _. absurd (none_active t mt (passes is_privileged t Running true runs refl));
    room = λ t mt is_in. absurd (none_active t mt is_in);
  }

  -- afterwards none runs, none is held and none is fresh
  pub displaced_free : Each (λ t. (t.role ≡ Running) ⊎ (t.role ≡ Held) → ⊥) (with_roles (λ t. displaced t.role) s.tasks)
  displaced_free t m = by_active where
    by_active : (t.role ≡ Running) ⊎ (t.role ≡ Held) → ⊥
    by_active (inl runs) = none_active t m (passes is_privileged t Running true runs refl)
    by_active (inr held) = none_active t m (passes is_privileged t Held true held refl)

-- a waiting job that isn't at its latest start is before it
pub early_waits : (s : State) → IsSound s → Each (λ t. t.role ≡ Waiting → latest_start t ≡ s.clock → ⊥) s.tasks
    → Each (λ t. t.role ≡ Waiting → s.clock < latest_start t) s.tasks
early_waits s sound early t m waits =
    let fits = says s sound t m Waiting waits in
    let other : latest_start t ≡ s.clock → ⊥ = early t m waits in
    omega (arith, fits.2, other)
