-- The running job and the held ones fit their windows together, with all the work that they declare.
use Rattle.std.proofs.Common.{◌≡◌, ℕ, zero, suc, ◌+◌, ◌-◌, ◌≤◌, ◌<◌, ◌⊎◌, inl, inr, List, map, refl, sym, ap, ◌∙◌}
use Rattle.std.proofs.Common.{subst, Bool, true, false, cond, eqb, arith, nat_le, ◌&&◌, sum_by, filter, eqb-true}
use Rattle.std.proofs.Common.{le-leb, leb-true, lt-ltb}
use Rattle.std.specs.Bool.{then_some}
use Rattle.std.specs.List.{list_all}
use Rattle.std.proofs.lemmas.Bool.{and_parts, and_from}
use Rattle.dover_model.specs.Common.{Fraction, JobFacts}
use Rattle.dover_model.specs.declared.events.Event.TheVariants.{Take, End}
use Rattle.dover_model.specs.declared.events.Role.{Role}
use Rattle.dover_model.specs.declared.events.Role.TheVariants.{Coming, Fresh, Waiting, Held, Running, Done}
use Rattle.dover_model.specs.declared.events.Role.TheVariants.{Gone}
use Rattle.dover_model.specs.declared.events.Task.{Task}
use Rattle.dover_model.specs.Common.{Rules, Instance, IsValid, State, opening, is_privileged, is_running}
use Rattle.dover_model.specs.Common.{is_ready_behind, is_over, is_done, left, latest_start, value_sum, Move, Prints}
use Rattle.dover_model.specs.Common.{Ticks, step, after, ending, ◌or_else◌, with_role, displaced, ticked, IsMember}
use Rattle.dover_model.specs.Common.{Each, EachTwo, IsSound, Keeps, NoneRuns}
use Rattle.dover_model.proofs.lists.Members.{on_map, by_bool, sum_map, sum_le, sum_zero, sum_plus, sum_same}
use Rattle.dover_model.proofs.lists.Members.{term_le_sum, cond_le}
use Rattle.dover_model.proofs.steps.Roles.{passes, one_number, is_privileged_role, is_running_role}
use Rattle.dover_model.proofs.steps.Loads.{Fits, with_roles, sum_change, share, load, fits_of_room}
use Rattle.dover_model.proofs.steps.OneChange.{state_with, changed, on_changed, on_changed_role, changed_here}
use Rattle.dover_model.proofs.steps.Moves.{says, displaced_role}
use Rattle.dover_model.proofs.steps.Ticking.{Quiet}
use Rattle.dover_model.proofs.steps.Preempting.{one_waits, one_held, waits_sound, r_there, held_sound, f_there}
use Rattle.dover_model.proofs.steps.Preempting.{none_runs, first, same_tasks}
use Rattle.dover_model.proofs.steps.Deeds.{Deed, Completed, Resumed, Started, Began, Preempted, Stayed, Arrived, Taken}
use Rattle.dover_model.proofs.steps.Deeds.{Abandoned, Rested}
use Rattle.dover_model.proofs.steps.Kept.{step_deed, come_coming, end_same}
use Rattle.dover_model.proofs.lists.Tests.{never}
use Rattle.dover_model.specs.Common.{Waits, is_open_job, finish_or, due_finish, urgent_or}
use Rattle.std.specs.List.{list_any}
use Rattle.dover_model.specs.Orders.{IsByDeadline}
use Rattle.dover_model.specs.Step.{seen_by}
use Rattle.dover_model.proofs.steps.Pressing.{pressing, sound_pressing}

-- a number where the job is running or held, and due by this tick
abbrev pub by_due : (Task → ℕ) → ℕ → Task → ℕ
by_due f due u = cond (is_privileged u && nat_le u.job.deadline due) (f u) 0

-- the ticks that it has had
abbrev had_by : ℕ → Task → ℕ
had_by = by_due (λ u. u.had)

-- The running and held jobs that are due no later than one of them had their ticks since its release; so had a waiting
-- job. Where a job waits that has had some, each running or held one is due no later, or has no laxity.
pub record IsStacked (s : State) : Type 0 where
  pub windows : Each (λ l. is_privileged l ≡ true
      → sum_by (had_by l.job.deadline) s.tasks + l.job.release ≤ s.clock) s.tasks
  pub since : Each (λ x. x.role ≡ Waiting → x.had + x.job.release ≤ s.clock) s.tasks
  pub above : EachTwo (λ x p. x.role ≡ Waiting → 1 ≤ x.had → is_privileged p ≡ true
      → (p.job.deadline ≤ x.job.deadline) ⊎ (p.job.deadline ≤ s.clock + left p)) s.tasks

-- it is so of the state, pressed or not
pub stacked_pressing : (b : Bool) (s : State) → IsStacked s → IsStacked (pressing b s)
stacked_pressing b s stacked = record { windows = stacked.windows; since = stacked.since; above = stacked.above }

-- fewer that pass come to no more
cond_less : (a b c : Bool) (n : ℕ) → (a ≡ true → b ≡ true) → cond (a && c) n 0 ≤ cond (b && c) n 0
cond_less true true c n less = omega arith
cond_less true false c n less = never (less refl)
cond_less false b c n less = omega arith

-- where what is counted is 0, it doesn't matter which pass
cond_none : (a b : Bool) (n : ℕ) → n ≡ 0 → cond a n 0 ≤ cond b n 0
cond_none a b n none = let most : cond a n 0 ≤ n = cond_le a n in omega (arith, most, none)

-- ---- a job leaves those that run or are held, or stays as it is

module _ (s : State) (sound : IsSound s) (stacked : IsStacked s) (r : Task) (member : IsMember r s.tasks) (new : Role)
    (less : is_privileged (with_role r new) ≡ true → is_privileged r ≡ true)
    (waits : new ≡ Waiting → (r.had ≡ 0) × (r.job.release ≤ s.clock)) where
  -- no more was had
  no_more : (due : ℕ) → sum_by (had_by due) (with_roles (changed r new) s.tasks) ≤ sum_by (had_by due) s.tasks
  no_more due = rw (sum_map (λ u. with_role u (changed r new u)) (had_by due) s.tasks)
      (sum_le (λ u. had_by due (with_role u (changed r new u))) (had_by due) s.tasks
      (on_changed_role 0 s.tasks sound.numbered r member new (λ u role. had_by due (with_role u role) ≤ had_by due u)
      (cond_less (is_privileged (with_role r new)) (is_privileged r) (nat_le r.job.deadline due) r.had less)
      (λ u m _. omega arith)))

  -- it stays so
  fewer_stacked : IsStacked (state_with s r new)
  fewer_stacked = record {
    windows = on_changed 0 s.tasks sound.numbered r member new
        (λ l. is_privileged l ≡ true
        → sum_by (had_by l.job.deadline) (with_roles (changed r new) s.tasks) + l.job.release ≤ s.clock)
        (λ is_in. omega (arith, stacked.windows r member (less is_in), no_more r.job.deadline))
        (λ l m _ is_in. omega (arith, stacked.windows l m is_in, no_more l.job.deadline));
    since = on_changed 0 s.tasks sound.numbered r member new
        (λ x. x.role ≡ Waiting → x.had + x.job.release ≤ s.clock)
        (λ e. omega (arith, (waits e).0, (waits e).1))
        (λ x m _. stacked.since x m);
    above = λ x p mx mp. on_changed 0 s.tasks sound.numbered r member new
        (λ y. (q : Task) → IsMember q (with_roles (changed r new) s.tasks) → y.role ≡ Waiting → 1 ≤ y.had
        → is_privileged q ≡ true → (q.job.deadline ≤ y.job.deadline) ⊎ (q.job.deadline ≤ s.clock + left q))
        (λ q mq e some is_in. absurd (omega (arith, (waits e).0, some)))
        (λ y my _. on_changed 0 s.tasks sound.numbered r member new
        (λ q. y.role ≡ Waiting → 1 ≤ y.had → is_privileged q ≡ true
        → (q.job.deadline ≤ y.job.deadline) ⊎ (q.job.deadline ≤ s.clock + left q))
        (λ e some is_in. stacked.above y r my member e some (less is_in))
        (λ q mq _. stacked.above y q my mq))
        x mx p mp;
  }

-- ---- a job starts that is due before those that run or are held

module _ (s : State) (sound : IsSound s) (stacked : IsStacked s) (r : Task) (member : IsMember r s.tasks)
    (later : Each (λ u. is_privileged u ≡ true → r.job.deadline < u.job.deadline) s.tasks)
    (alone : (r.had ≡ 0) ⊎ Each (λ u. is_privileged u ≡ true → ⊥) s.tasks)
    (long : r.had + r.job.release ≤ s.clock)
    (ahead : Each (λ x. (x.number ≡ r.number → ⊥) → x.role ≡ Waiting → 1 ≤ x.had
    → r.job.deadline ≤ x.job.deadline) s.tasks) where
  -- of those due no later only the job itself had ticks
  own : sum_by (had_by r.job.deadline) (with_roles (changed r Running) s.tasks) ≤ r.had
  own =
      let sums : sum_by (had_by r.job.deadline) (with_roles (changed r Running) s.tasks)
      ≡ sum_by (λ u. had_by r.job.deadline (with_role u (changed r Running u))) s.tasks =
      sum_map (λ u. with_role u (changed r Running u)) (had_by r.job.deadline) s.tasks in
      let most : sum_by (λ u. had_by r.job.deadline (with_role u (changed r Running u))) s.tasks + 0
      ≤ sum_by (λ u. 0) s.tasks + r.had =
      sum_change (λ u. had_by r.job.deadline (with_role u (changed r Running u))) (λ u. 0) 0 r.had 0 s.tasks r
      sound.numbered member
      (let here : had_by r.job.deadline (with_role r (changed r Running r)) ≤ r.had = cond_le _ r.had in
      omega (arith, here))
      (on_changed_role 0 s.tasks sound.numbered r member Running
      (λ u role. (u.number ≡ r.number → ⊥) → had_by r.job.deadline (with_role u role) ≤ 0)
      (λ apart. absurd (apart refl)) (λ u m _ _. not_due u m)) in
      let none : sum_by (λ (u : Task). 0) s.tasks ≡ 0 = sum_zero (λ u. 0) s.tasks (λ u m. refl) in
      omega (arith, sums, most, none) where
        not_due : (u : Task) → IsMember u s.tasks → had_by r.job.deadline u ≤ 0
        not_due u m = by_bool (had_by r.job.deadline u ≤ 0) (is_privileged u && nat_le u.job.deadline r.job.deadline)
            (λ passed. let both : (is_privileged u ≡ true) × (nat_le u.job.deadline r.job.deadline ≡ true) =
            and_parts (is_privileged u) (nat_le u.job.deadline r.job.deadline) passed in
            let low : u.job.deadline ≤ r.job.deadline = leb-true _ _ both.1 in
            let high : r.job.deadline < u.job.deadline = later u m both.0 in
            absurd (omega (arith, low, high)))
            (λ failed. let zero : had_by r.job.deadline u ≡ 0 = ap (λ b. cond {A = ℕ} b u.had 0) failed in
            omega (arith, zero))

  -- those of another one had no more, where there is one
  others : (due : ℕ) → r.had ≡ 0
      → sum_by (had_by due) (with_roles (changed r Running) s.tasks) ≤ sum_by (had_by due) s.tasks
  others due none = rw (sum_map (λ u. with_role u (changed r Running u)) (had_by due) s.tasks)
      (sum_le (λ u. had_by due (with_role u (changed r Running u))) (had_by due) s.tasks
      (on_changed_role 0 s.tasks sound.numbered r member Running
      (λ u role. had_by due (with_role u role) ≤ had_by due u)
      (cond_none (is_privileged (with_role r Running) && nat_le r.job.deadline due)
      (is_privileged r && nat_le r.job.deadline due) r.had none)
      (λ u m _. omega arith)))

  -- it stays so
  starts_stacked : IsStacked (state_with s r Running)
  starts_stacked = record {
    windows = on_changed 0 s.tasks sound.numbered r member Running
        (λ l. is_privileged l ≡ true
        → sum_by (had_by l.job.deadline) (with_roles (changed r Running) s.tasks) + l.job.release ≤ s.clock)
        (λ is_in. omega (arith, own, long))
        (λ l m _ is_in. another l m is_in alone);
    since = on_changed 0 s.tasks sound.numbered r member Running
        (λ x. x.role ≡ Waiting → x.had + x.job.release ≤ s.clock)
        (λ e. absurd (cc))
        (λ x m _. stacked.since x m);
    above = λ x p mx mp. on_changed 0 s.tasks sound.numbered r member Running
        (λ y. (q : Task) → IsMember q (with_roles (changed r Running) s.tasks) → y.role ≡ Waiting → 1 ≤ y.had
        → is_privileged q ≡ true → (q.job.deadline ≤ y.job.deadline) ⊎ (q.job.deadline ≤ s.clock + left q))
        (λ q mq e some is_in. absurd (cc))
        (λ y my apart. on_changed 0 s.tasks sound.numbered r member Running
        (λ q. y.role ≡ Waiting → 1 ≤ y.had → is_privileged q ≡ true
        → (q.job.deadline ≤ y.job.deadline) ⊎ (q.job.deadline ≤ s.clock + left q))
        (λ e some is_in. inl (ahead y my apart e some))
        (λ q mq _. stacked.above y q my mq))
        x mx p mp;
  } where
    another : (l : Task) → IsMember l s.tasks → is_privileged l ≡ true
        → (r.had ≡ 0) ⊎ Each (λ u. is_privileged u ≡ true → ⊥) s.tasks
        → sum_by (had_by l.job.deadline) (with_roles (changed r Running) s.tasks) + l.job.release ≤ s.clock
    another l m is_in (inl none) = omega (arith, stacked.windows l m is_in, others l.job.deadline none)
    another l m is_in (inr nobody) = absurd (nobody l m is_in)

-- ---- a take

-- what is displaced neither runs nor is held
displaced_out : (t : Task) (role : Role) → is_privileged (with_role t (displaced role)) ≡ true → ⊥
displaced_out t Coming e = never e
displaced_out t _ e = never e

module _ (s : State) (sound : IsSound s) (stacked : IsStacked s) (r x : Task) (x_member : IsMember x s.tasks)
    (waiting : x.role ≡ Waiting) (now : latest_start x ≡ s.clock) where
  -- the role of a job then
  abbrev then_role : Task → Role
  then_role u = cond (eqb u.number x.number) Running (displaced u.role)

  -- only the taker runs or is held then
  only : (u : Task) → IsMember u s.tasks → is_privileged (with_role u (then_role u)) ≡ true → u ≡ x
  only u m is_in = by_number (eqb u.number x.number) refl is_in where
    by_number : (b : Bool) → eqb u.number x.number ≡ b
        → is_privileged (with_role u (cond b Running (displaced u.role))) ≡ true → u ≡ x
    by_number true same _ = one_number 0 s.tasks sound.numbered u x m x_member (eqb-true _ _ same)
    by_number false _ out = absurd (displaced_out u u.role out)

  -- so only it had ticks
  taker_had : (due : ℕ) → sum_by (had_by due) (with_roles then_role s.tasks) ≤ x.had
  taker_had due =
      let sums : sum_by (had_by due) (with_roles then_role s.tasks)
      ≡ sum_by (λ u. had_by due (with_role u (then_role u))) s.tasks =
      sum_map (λ u. with_role u (then_role u)) (had_by due) s.tasks in
      let most : sum_by (λ u. had_by due (with_role u (then_role u))) s.tasks + 0 ≤ sum_by (λ u. 0) s.tasks + x.had =
      sum_change (λ u. had_by due (with_role u (then_role u))) (λ u. 0) 0 x.had 0 s.tasks x sound.numbered x_member
      (let here : had_by due (with_role x (then_role x)) ≤ x.had = cond_le _ x.had in omega (arith, here))
      (λ u m apart. by_bool (had_by due (with_role u (then_role u)) ≤ 0)
      (is_privileged (with_role u (then_role u)) && nat_le u.job.deadline due)
      (λ passed. absurd (apart (ap (λ (y : Task). y.number) (only u m
      (and_parts (is_privileged (with_role u (then_role u))) (nat_le u.job.deadline due) passed).0))))
      (λ failed. let zero : had_by due (with_role u (then_role u)) ≡ 0 =
      ap (λ b. cond {A = ℕ} b u.had 0) failed in omega (arith, zero))) in
      let none : sum_by (λ (u : Task). 0) s.tasks ≡ 0 = sum_zero (λ u. 0) s.tasks (λ u m. refl) in
      omega (arith, sums, most, none)

  -- a job that waits then
  waits_since : (u : Task) → IsMember u s.tasks → then_role u ≡ Waiting → u.had + u.job.release ≤ s.clock
  waits_since u m = by_number (eqb u.number x.number) where
    privileged_since : is_privileged u ≡ true → u.had + u.job.release ≤ s.clock
    privileged_since is_in =
        let part : had_by u.job.deadline u ≤ sum_by (had_by u.job.deadline) s.tasks =
        term_le_sum (had_by u.job.deadline) s.tasks u m in
        let is : had_by u.job.deadline u ≡ u.had =
        ap (λ b. cond {A = ℕ} b u.had 0) (and_from (is_privileged u) (nat_le u.job.deadline u.job.deadline) is_in
        (le-leb _ _ (let same : u.job.deadline ≤ u.job.deadline = omega arith in same))) in
        omega (arith, part, is, stacked.windows u m is_in)

    by_role : (u.role ≡ Waiting) ⊎ ((Waiting ≡ Waiting) × ((u.role ≡ Running) ⊎ (u.role ≡ Held)))
        → u.had + u.job.release ≤ s.clock
    by_role (inl e) = stacked.since u m e
    by_role (inr (_, inl e)) = privileged_since (passes is_privileged u Running true e refl)
    by_role (inr (_, inr e)) = privileged_since (passes is_privileged u Held true e refl)

    by_number : (b : Bool) → cond b Running (displaced u.role) ≡ Waiting → u.had + u.job.release ≤ s.clock
    by_number true e = absurd (let f : Running ≡ Waiting = e in cc)
    by_number false e = by_role (displaced_role u.role Waiting e)

  -- it stays so
  takes_stacked : IsStacked (after s (Prints (Take s.clock r.number x.number)))
  takes_stacked = record {
    windows = on_map (λ u. with_role u (then_role u))
        (λ l. is_privileged l ≡ true
        → sum_by (had_by l.job.deadline) (with_roles then_role s.tasks) + l.job.release ≤ s.clock) s.tasks
        (λ l m is_in. let is : l ≡ x = only l m is_in in
        let release : l.job.release ≡ x.job.release = ap (λ (y : Task). y.job.release) is in
        omega (arith, taker_had l.job.deadline, stacked.since x x_member waiting, release));
    since = on_map (λ u. with_role u (then_role u)) (λ y. y.role ≡ Waiting → y.had + y.job.release ≤ s.clock) s.tasks
        waits_since;
    above = λ y p my mp. on_map (λ u. with_role u (then_role u))
        (λ q. y.role ≡ Waiting → 1 ≤ y.had → is_privileged q ≡ true
        → (q.job.deadline ≤ y.job.deadline) ⊎ (q.job.deadline ≤ s.clock + left q)) s.tasks
        (λ q mq _ _ is_in. inr (subst (λ (z : Task). z.job.deadline ≤ s.clock + left z) (sym (only q mq is_in))
        (let start : x.job.deadline - left x ≡ s.clock = now in omega (arith, start)))) p mp;
  }

-- ---- a silent tick

-- a tick more for the running job
had_ticked : (b c : Bool) (n : ℕ) → cond b (cond c (n + 1) n) 0 ≤ cond b n 0 + cond c 1 0
had_ticked true true n = omega arith
had_ticked false true n = omega arith
had_ticked _ _ n = omega arith

-- it takes one at most
left_ticked : (b : Bool) (had work : ℕ) → work - had ≤ work - cond b (had + 1) had + 1
left_ticked true had work = omega arith
left_ticked false had work = omega arith

module _ (s : State) (sound : IsSound s) (stacked : IsStacked s) (quiet : Quiet s) where
  -- all together have one tick more at most
  one_more : (due : ℕ) → sum_by (had_by due) (map ticked s.tasks) ≤ sum_by (had_by due) s.tasks + 1
  one_more due = rw (sum_map ticked (had_by due) s.tasks) (by_runner quiet.runs_or_none) where
    rest : (u : Task) → (b : Bool) → is_running u ≡ b → had_by due (ticked u) ≤ had_by due u + cond b 1 0
    rest u b is = subst (λ c. had_by due (ticked u) ≤ had_by due u + cond c 1 0) is
        (had_ticked (is_privileged u && nat_le u.job.deadline due) (is_running u) u.had)

    still : (u : Task) → (u.role ≡ Running → ⊥) → had_by due (ticked u) ≤ had_by due u
    still u stays = by_bool (had_by due (ticked u) ≤ had_by due u) (is_running u)
        (λ runs. absurd (stays (is_running_role u runs)))
        (λ out. let it : had_by due (ticked u) ≤ had_by due u + cond false 1 0 = rest u false out in
        let same : cond {A = ℕ} false 1 0 ≡ 0 = refl in omega (arith, it, same))

    by_runner : ((r : Task) × IsMember r s.tasks × (r.role ≡ Running)) ⊎ NoneRuns s.tasks
        → sum_by (λ u. had_by due (ticked u)) s.tasks ≤ sum_by (had_by due) s.tasks + 1
    by_runner (inl it) =
        let more : sum_by (λ u. had_by due (ticked u)) s.tasks + 0 ≤ sum_by (had_by due) s.tasks + 1 =
        sum_change (λ u. had_by due (ticked u)) (had_by due) 0 1 0 s.tasks it.0 sound.numbered it.1
        (let here : had_by due (ticked it.0) ≤ had_by due it.0 + cond true 1 0 =
        rest it.0 true (passes is_running it.0 Running true it.2 refl) in
        let same : cond {A = ℕ} true 1 0 ≡ 1 = refl in omega (arith, here, same))
        (λ u m apart. still u (λ runs. apart (sound.one_runs u it.0 m it.1 runs it.2))) in
        omega (arith, more)
    by_runner (inr none) =
        let same : sum_by (λ u. had_by due (ticked u)) s.tasks ≤ sum_by (had_by due) s.tasks =
        sum_le (λ u. had_by due (ticked u)) (had_by due) s.tasks (λ u m. still u (none u m)) in
        omega (arith, same)

  -- it stays so
  ticks_stacked : IsStacked (after s Ticks)
  ticks_stacked = record {
    windows = on_map ticked
        (λ l. is_privileged l ≡ true
        → sum_by (had_by l.job.deadline) (map ticked s.tasks) + l.job.release ≤ s.clock + 1) s.tasks
        (λ l m is_in. omega (arith, stacked.windows l m is_in, one_more l.job.deadline));
    since = on_map ticked (λ x. x.role ≡ Waiting → x.had + x.job.release ≤ s.clock + 1) s.tasks
        (λ x m e. let same : (ticked x).had ≡ x.had = waits_same x e in
        omega (arith, same, stacked.since x m e));
    above = λ x p mx mp. on_map ticked
        (λ y. (q : Task) → IsMember q (map ticked s.tasks) → y.role ≡ Waiting → 1 ≤ y.had → is_privileged q ≡ true
        → (q.job.deadline ≤ y.job.deadline) ⊎ (q.job.deadline ≤ s.clock + 1 + left q)) s.tasks
        (λ y my. on_map ticked
        (λ q. y.role ≡ Waiting → 1 ≤ (ticked y).had → is_privileged q ≡ true
        → (q.job.deadline ≤ y.job.deadline) ⊎ (q.job.deadline ≤ s.clock + 1 + left q)) s.tasks
        (λ q mq e some is_in. later y q (stacked.above y q my mq e
        (let same : (ticked y).had ≡ y.had = waits_same y e in omega (arith, same, some)) is_in)))
        x mx p mp;
  } where
    waits_same : (x : Task) → x.role ≡ Waiting → (ticked x).had ≡ x.had
    waits_same x e = ap (λ b. cond b (x.had + 1) x.had) (passes is_running x Waiting false e refl)

    later : (y q : Task) → (q.job.deadline ≤ y.job.deadline) ⊎ (q.job.deadline ≤ s.clock + left q)
        → (q.job.deadline ≤ y.job.deadline) ⊎ (q.job.deadline ≤ s.clock + 1 + left (ticked q))
    later y q (inl early) = inl early
    later y q (inr tight) =
        let one : left q ≤ left (ticked q) + 1 = left_ticked (is_running q) q.had q.job.work in
        inr (omega (arith, tight, one))

-- ---- each step

-- a job with room before another leaves the other some laxity
lax : (s : State) (o u : Task) → Fits (left o) s → IsMember u s.tasks → is_privileged u ≡ true → 1 ≤ left o
    → u.job.deadline ≤ s.clock + left u → ⊥
lax s o u fits m is_in some tight =
    let fit : s.clock + load s.tasks u + left o ≤ u.job.deadline = fits u m is_in in
    let part : left u ≤ load s.tasks u = omega arith in
    omega (arith, fit, part, some, tight)

module _ (k : Fraction) (s : State) (other : Move) (sound : IsSound s) (stacked : IsStacked s)
    (rested : Quiet s → IsStacked (after s other)) (calm : s.pressed ≡ false) where
  -- each deed keeps it
  deed_stacked : (m : Move) → Deed k s other m → IsStacked (after s m)
  deed_stacked m (Completed r member runs) =
      stacked_pressing (s.pressed && list_any is_open_job (with_roles (changed r Done) s.tasks)) (state_with s r Done)
      (fewer_stacked s sound stacked r member Done never (λ e. absurd (cc)))
  deed_stacked m (Resumed p member held none least why) = fewer_stacked s sound stacked p member Running
      (λ _. passes is_privileged p Held true held refl) (λ e. absurd (cc))
  deed_stacked m (Started o member waiting none ahead fits next) =
      starts_stacked s sound stacked o member later (by_had o.had refl) (stacked.since o member waiting)
      (λ x mx _ e _. next calm x mx e) where
        later : Each (λ u. is_privileged u ≡ true → o.job.deadline < u.job.deadline) s.tasks
        later u mu is_in = by_role (is_privileged_role u is_in) where
          by_role : (u.role ≡ Running) ⊎ (u.role ≡ Held) → o.job.deadline < u.job.deadline
          by_role (inl e) = absurd (none u mu e)
          by_role (inr e) = ahead u mu e

        by_had : (n : ℕ) → o.had ≡ n → (o.had ≡ 0) ⊎ Each (λ u. is_privileged u ≡ true → ⊥) s.tasks
        by_had zero nothing = inl nothing
        by_had (suc n) some = inr (λ u mu is_in. by_above u mu is_in
            (stacked.above o u member mu waiting (omega (arith, some)) is_in)) where
              by_above : (u : Task) → IsMember u s.tasks → is_privileged u ≡ true
                  → (u.job.deadline ≤ o.job.deadline) ⊎ (u.job.deadline ≤ s.clock + left u) → ⊥
              by_above u mu is_in (inl early) = let less : o.job.deadline < u.job.deadline = later u mu is_in in
                  omega (arith, early, less)
              by_above u mu is_in (inr tight) =
                  lax s o u fits mu is_in (says s sound o member Waiting waiting).0 tight
  deed_stacked m (Began f member fresh none free) =
      starts_stacked s sound stacked f member (λ u mu is_in. absurd (nobody u mu is_in))
      (inl (says s sound f member Fresh fresh).0)
      (omega (arith, (says s sound f member Fresh fresh).0, (says s sound f member Fresh fresh).2))
      (λ x mx _ e _. absurd (free x mx (passes is_ready_behind x Waiting true e refl))) where
        nobody : Each (λ u. is_privileged u ≡ true → ⊥) s.tasks
        nobody u mu is_in = by_role (is_privileged_role u is_in) where
          by_role : (u.role ≡ Running) ⊎ (u.role ≡ Held) → ⊥
          by_role (inl e) = none u mu e
          by_role (inr e) = free u mu (passes is_ready_behind u Held true e refl)
  deed_stacked m (Preempted r f member runs some f_member fresh before fits) =
      subst (λ (tasks : List Task). IsStacked (record s { tasks = tasks }))
      (same_tasks s sound r f member runs some f_member fresh before fits) three where
        nothing : f.had ≡ 0
        nothing = (says s sound f f_member Fresh fresh).0

        released : f.job.release ≤ s.clock
        released = (says s sound f f_member Fresh fresh).2

        one : IsStacked (one_waits s sound r f member runs some f_member fresh before fits)
        one = fewer_stacked s sound stacked f f_member Waiting never (λ _. (nothing, released))

        two : IsStacked (one_held s sound r f member runs some f_member fresh before fits)
        two = fewer_stacked (one_waits s sound r f member runs some f_member fresh before fits)
            (waits_sound s sound r f member runs some f_member fresh before fits) one r
            (r_there s sound r f member runs some f_member fresh before fits) Held
            (λ _. passes is_privileged r Running true runs refl) (λ e. absurd (cc))

        later : Each (λ u. is_privileged u ≡ true → f.job.deadline < u.job.deadline)
            (one_held s sound r f member runs some f_member fresh before fits).tasks
        later u mu is_in = by_role (is_privileged_role u is_in) where
          by_role : (u.role ≡ Running) ⊎ (u.role ≡ Held) → f.job.deadline < u.job.deadline
          by_role (inl e) = absurd (none_runs s sound r f member runs some f_member fresh before fits u mu e)
          by_role (inr e) = first s sound r f member runs some f_member fresh before fits u mu e

        r_held : IsMember (with_role r Held) (one_held s sound r f member runs some f_member fresh before fits).tasks
        r_held = changed_here 0 (one_waits s sound r f member runs some f_member fresh before fits).tasks
            (waits_sound s sound r f member runs some f_member fresh before fits).numbered r
            (r_there s sound r f member runs some f_member fresh before fits) Held

        three : IsStacked (state_with (one_held s sound r f member runs some f_member fresh before fits)
            (with_role f Waiting) Running)
        three = starts_stacked (one_held s sound r f member runs some f_member fresh before fits)
            (held_sound s sound r f member runs some f_member fresh before fits) two (with_role f Waiting)
            (f_there s sound r f member runs some f_member fresh before fits) later (inl nothing)
            (omega (arith, nothing, released))
            (λ x mx _ e had. by_above x (two.above x (with_role r Held) mx r_held e had refl)) where
              by_above : (x : Task) → (r.job.deadline ≤ x.job.deadline) ⊎ (r.job.deadline ≤ s.clock + left r)
                  → f.job.deadline ≤ x.job.deadline
              by_above x (inl early) = omega (arith, early, before)
              by_above x (inr tight) = absurd (lax s f r fits member (passes is_privileged r Running true runs refl)
                  (says s sound f f_member Fresh fresh).1 tight)
  deed_stacked m (Stayed r f member runs some f_member fresh why) =
      fewer_stacked s sound stacked f f_member Waiting never
      (λ _. ((says s sound f f_member Fresh fresh).0, (says s sound f f_member Fresh fresh).2))
  deed_stacked m (Arrived c member comes now least stale busy free) =
      fewer_stacked s sound stacked c member Fresh never (λ e. absurd (cc))
  deed_stacked m (Taken r x member runs some x_member waiting now stale heavy) =
      takes_stacked s sound stacked r x x_member waiting now
  deed_stacked m (Abandoned r x member runs some x_member waiting now stale light) =
      stacked_pressing true (state_with s x Gone) (fewer_stacked s sound stacked x x_member Gone never (λ e. absurd
      (cc)))
  deed_stacked m (Rested quiet) = rested quiet

-- the opening
pub opening_stacked : (jobs : List JobFacts) → IsStacked (opening jobs)
opening_stacked jobs = record {
  windows = λ l m is_in. never (sym (passes is_privileged l Coming false (come_coming 0 jobs l m).0 refl) ∙ is_in);
  since = λ x m e. absurd (let f : Coming ≡ Waiting = sym (come_coming 0 jobs x m).0 ∙ e in cc);
  above = λ x p mx mp e _ _. absurd (let f : Coming ≡ Waiting = sym (come_coming 0 jobs x mx).0 ∙ e in cc);
}

-- each step keeps it, where waiting jobs are chosen by deadline
pub step_stacked : (J : Instance) → IsValid J → (s : State) → Keeps J s → (rules : Rules)
    → IsByDeadline rules.version → IsStacked s → IsStacked (after s (step rules s))
step_stacked J valid s keeps rules due stacked = subst (λ m. IsStacked (after s m)) same_step
    (stacked_after (step rules calm_s) (deed_stacked rules.ratio calm_s (ending s or_else Ticks)
    (sound_pressing false s keeps.sound) (stacked_pressing false s stacked) (by_end (list_all is_over s.tasks)) refl
    (step rules calm_s) (step_deed J valid calm_s calm_keeps rules))) where
      calm_s : State
      calm_s = pressing false s

      calm_keeps : Keeps J calm_s
      calm_keeps = record { sound = sound_pressing false s keeps.sound; jobs = keeps.jobs; pressed = λ e. never e }

      same_step : step rules calm_s ≡ step rules s
      same_step = ap (λ v. finish_or s.clock (due_finish rules.finishes s)
          (urgent_or rules.ratio v (ending s or_else Ticks)))
          (ap (seen_by rules.version s) (due false ∙ sym (due s.pressed)))

      stacked_after : (m : Move) → IsStacked (after calm_s m) → IsStacked (after s m)
      stacked_after (Prints e) it =
          stacked_pressing (after s (Prints e)).pressed (after calm_s (Prints e)) it
      stacked_after (Waits n) it = stacked_pressing s.pressed (after calm_s (Waits n)) it
      stacked_after Ticks it = stacked_pressing s.pressed (after calm_s Ticks) it

      by_end : (b : Bool) → Quiet calm_s
          → IsStacked (after calm_s (then_some b (Prints (End (value_sum (filter is_done s.tasks)))) or_else Ticks))
      by_end true quiet = subst (λ (tasks : List Task). IsStacked
          (record { clock = s.clock; pressed = false; tasks = tasks }))
          (sym (end_same s (value_sum (filter is_done s.tasks)))) (stacked_pressing false s stacked)
      by_end false quiet = ticks_stacked calm_s (sound_pressing false s keeps.sound)
          (stacked_pressing false s stacked) quiet

-- ---- the windows of those that run or are held

module _ (s : State) (sound : IsSound s) (stacked : IsStacked s) (l : Task) (member : IsMember l s.tasks)
    (is_in : is_privileged l ≡ true) where
  -- what is left of those due no later is its load
  left_load : sum_by (by_due left l.job.deadline) s.tasks ≤ load s.tasks l
  left_load =
      let more : sum_by (by_due left l.job.deadline) s.tasks + 0
      ≤ sum_by (λ u. share (is_privileged u) l u) s.tasks + left l =
      sum_change (by_due left l.job.deadline) (λ u. share (is_privileged u) l u) 0 (left l) 0 s.tasks l sound.numbered
      member (let here : by_due left l.job.deadline l ≤ left l = cond_le _ (left l) in omega (arith, here))
      (λ u m apart. by_tests u m apart (is_privileged u) refl (nat_le u.job.deadline l.job.deadline) refl) in
      omega (arith, more) where
        by_tests : (u : Task) → IsMember u s.tasks → (u.number ≡ l.number → ⊥) → (a : Bool) → is_privileged u ≡ a
            → (b : Bool) → nat_le u.job.deadline l.job.deadline ≡ b → cond (a && b) (left u) 0 ≤ share a l u
        by_tests u m apart false out b e = omega arith
        by_tests u m apart true too false e = omega arith
        by_tests u m apart true too true e =
            let low : u.job.deadline ≤ l.job.deadline = leb-true _ _ e in
            let differs : u.job.deadline ≡ l.job.deadline → ⊥ =
            λ same. apart (sound.distinct u l m member too is_in same) in
            subst (λ c. left u ≤ cond c (left u) 0)
            (sym (lt-ltb u.job.deadline l.job.deadline (omega (arith, low, differs)))) (omega arith)

  -- with all their work they fit its window
  pub works_fit : sum_by (by_due (λ u. u.job.work) l.job.deadline) s.tasks + l.job.release ≤ l.job.deadline
  works_fit =
      let parts : sum_by (by_due (λ u. u.job.work) l.job.deadline) s.tasks
      ≡ sum_by (λ u. had_by l.job.deadline u + by_due left l.job.deadline u) s.tasks =
      sum_same (by_due (λ u. u.job.work) l.job.deadline) (λ u. had_by l.job.deadline u + by_due left l.job.deadline u)
      s.tasks (λ u m. split (is_privileged u && nat_le u.job.deadline l.job.deadline) u.had u.job.work
      (sound.at_most_work u m)) in
      let sums : sum_by (λ u. had_by l.job.deadline u + by_due left l.job.deadline u) s.tasks
      ≡ sum_by (had_by l.job.deadline) s.tasks + sum_by (by_due left l.job.deadline) s.tasks =
      sum_plus (had_by l.job.deadline) (by_due left l.job.deadline) s.tasks in
      let fit : s.clock + load s.tasks l + 0 ≤ l.job.deadline = fits_of_room s sound.room l member is_in in
      omega (arith, parts, sums, fit, stacked.windows l member is_in, left_load) where
        split : (b : Bool) (had work : ℕ) → had ≤ work → cond b work 0 ≡ cond b had 0 + cond b (work - had) 0
        split true had work most = omega (arith, most)
        split false had work most = omega arith
