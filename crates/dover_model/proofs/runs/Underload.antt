-- Where no window is overfull, each step keeps the order by deadlines, and none is a take or an abandonment.
use Rattle.std.proofs.Common.{◌≡◌, ℕ, ◌+◌, ◌≤◌, ◌<◌, ◌⊎◌, inl, inr, List, map, refl, sym, ◌∙◌, subst, Bool, true, false}
use Rattle.std.proofs.Common.{cond, arith, nat_le, sum_by, le-leb}
use Rattle.std.proofs.lemmas.Bool.{and_from, cases_lt}
use Rattle.dover_model.specs.Common.{Fraction, Role, Coming, Fresh, Waiting, Held, Running, Done, Gone, Preempt, Task}
use Rattle.dover_model.specs.Common.{State, is_privileged, is_running, is_ready_behind, left, Move, Prints, Ticks}
use Rattle.dover_model.specs.Common.{after, with_role, ticked, IsMember, Each, NoneRuns, IsSound, takes_or_abandons}
use Rattle.dover_model.specs.Common.{is_inside}
use Rattle.dover_model.proofs.lists.Members.{on_map, sum_map}
use Rattle.dover_model.proofs.steps.Roles.{one_number, passes, is_privileged_role}
use Rattle.dover_model.proofs.steps.Loads.{sum_change, with_roles, Fits}
use Rattle.dover_model.proofs.steps.OneChange.{changed, state_with, EachOther, on_changed}
use Rattle.dover_model.proofs.steps.Ticking.{Quiet}
use Rattle.dover_model.proofs.steps.Deeds.{NoneBefore, NoneFits, Deed, Completed, Resumed, Started, Began, Preempted}
use Rattle.dover_model.proofs.steps.Deeds.{Stayed, Arrived, Taken, Abandoned, Rested}
use Rattle.dover_model.proofs.steps.Preempting.{waits_sound, r_there, held_sound, f_there, none_runs, same_tasks}
use Rattle.dover_model.proofs.runs.Serving.{NoneOverfull}
use Rattle.dover_model.proofs.runs.Orderly.{had_in, Window, NoneGone, ByDeadline, not_crowded, no_alarm}
use Rattle.dover_model.proofs.lists.Tests.{never}
use Rattle.std.proofs.Common.{ap}
use Rattle.std.specs.Prelude.{◌&&◌}
use Rattle.std.specs.List.{list_any}
use Rattle.dover_model.specs.Common.{Run, is_open_job, Waits}
use Rattle.dover_model.proofs.steps.Deeds.{Crowded, Passes}
use Rattle.dover_model.proofs.steps.Pressing.{pressing}

-- ---- one job gets a new role

module _ (s : State) (sound : IsSound s) (r : Task) (member : IsMember r s.tasks) (new : Role)
    (goes : r.role ≡ Done → ⊥) where
  -- a change of a role keeps the windows
  pub window_kept : (b : ℕ) → Window s b → Window (state_with s r new) b
  window_kept b w = record {
    a = w.a;
    past = w.past;
    filled = rw (sum_map (λ t. with_role t (changed r new t)) (λ t. cond (is_inside w.a b t.job) t.had 0) s.tasks)
        w.filled;
    clean = on_changed 0 s.tasks sound.numbered r member new
        (λ t. t.job.release < w.a → t.job.deadline ≤ b → t.role ≡ Done)
        (λ early due. absurd (goes (w.clean r member early due))) (λ t m _. w.clean t m);
  }

  -- and that none is gone
  pub none_gone_kept : (new ≡ Gone → ⊥) → NoneGone s → NoneGone (state_with s r new)
  none_gone_kept stays none =
      on_changed 0 s.tasks sound.numbered r member new (λ t. t.role ≡ Gone → ⊥) stays (λ t m _. none t m)

  -- and the order by deadlines
  pub orderly_kept : ByDeadline s → (new ≡ Gone → ⊥)
      → (new ≡ Running → EachOther r (λ w. w.role ≡ Waiting → r.job.deadline ≤ w.job.deadline) s.tasks)
      → (new ≡ Waiting → EachOther r (λ t. t.role ≡ Running → t.job.deadline ≤ r.job.deadline) s.tasks)
      → ByDeadline (state_with s r new)
  orderly_kept orderly stays first behind = record {
    calm = orderly.calm;
    none_gone = none_gone_kept stays orderly.none_gone;
    running_first = λ t u mt mu. on_changed 0 s.tasks sound.numbered r member new
        (λ x. (y : Task) → IsMember y (with_roles (changed r new) s.tasks) → x.role ≡ Running → y.role ≡ Waiting
        → x.job.deadline ≤ y.job.deadline)
        (on_changed 0 s.tasks sound.numbered r member new
        (λ y. new ≡ Running → y.role ≡ Waiting → r.job.deadline ≤ y.job.deadline)
        (λ _ _. omega arith) (λ y my apart runs waits. first runs y my apart waits))
        (λ x mx apart. on_changed 0 s.tasks sound.numbered r member new
        (λ y. x.role ≡ Running → y.role ≡ Waiting → x.job.deadline ≤ y.job.deadline)
        (λ runs waits. behind waits x mx apart runs)
        (λ y my _. orderly.running_first x y mx my))
        t mt u mu;
    windows = λ b. window_kept b (orderly.windows b);
  }

-- ---- pressed or not

-- the order is kept in the state that isn't pressed
pub orderly_pressing : (b : Bool) (s : State) → b ≡ false → ByDeadline s → ByDeadline (pressing b s)
orderly_pressing b s calm orderly = record {
  none_gone = orderly.none_gone;
  calm = calm;
  running_first = orderly.running_first;
  windows = λ due. let w : Window s due = orderly.windows due in
      record { a = w.a; past = w.past; filled = w.filled; clean = w.clean };
}

-- ---- a preemption

module _ (s : State) (sound : IsSound s) (r f : Task) (member : IsMember r s.tasks) (runs : r.role ≡ Running)
    (some : 1 ≤ left r)
    (f_member : IsMember f s.tasks) (fresh : f.role ≡ Fresh) (before : f.job.deadline < r.job.deadline)
    (fits : Fits (left f) s)
    (orderly : ByDeadline s) where
  -- the fresh job waits
  abbrev one : State
  one = state_with s f Waiting

  -- the running job is held
  abbrev two : State
  two = state_with one r Held

  -- the waiting job
  abbrev f_waits : Task
  f_waits = with_role f Waiting

  -- it runs
  abbrev three : State
  three = state_with two f_waits Running

  -- the first state is sound
  one_sound : IsSound one
  one_sound = waits_sound s sound r f member runs some f_member fresh before fits

  -- r is in it
  r_one : IsMember r one.tasks
  r_one = r_there s sound r f member runs some f_member fresh before fits

  -- the second is sound
  two_sound : IsSound two
  two_sound = held_sound s sound r f member runs some f_member fresh before fits

  -- the waiting job is in it
  f_two : IsMember f_waits two.tasks
  f_two = f_there s sound r f member runs some f_member fresh before fits

  -- the fresh job is not done
  f_goes : f.role ≡ Done → ⊥
  f_goes done = let e : Fresh ≡ Done = sym fresh ∙ done in cc

  -- the running job is not done
  r_goes : r.role ≡ Done → ⊥
  r_goes done = let e : Running ≡ Done = sym runs ∙ done in cc

  -- the waiting jobs, but for f, are due no sooner than r
  waiting_later : Each (λ w. (w.number ≡ f.number → ⊥) → w.role ≡ Waiting → f.job.deadline ≤ w.job.deadline) two.tasks
  waiting_later = on_changed 0 one.tasks one_sound.numbered r r_one Held
      (λ w. (w.number ≡ f.number → ⊥) → w.role ≡ Waiting → f.job.deadline ≤ w.job.deadline)
      (λ _ e. let c : Held ≡ Waiting = e in cc)
      (λ w m _. on_changed 0 s.tasks sound.numbered f f_member Waiting
      (λ u. (u.number ≡ f.number → ⊥) → u.role ≡ Waiting → f.job.deadline ≤ u.job.deadline)
      (λ apart _. absurd (apart refl))
      (λ u mu _ _ waits. let low : r.job.deadline ≤ u.job.deadline = orderly.running_first r u member mu runs waits in
      omega arith) w m)

  -- the third state is in order
  three_orderly : ByDeadline three
  three_orderly = record {
    calm = orderly.calm;
    none_gone = none_gone_kept two two_sound f_waits f_two Running (λ e. cc) (λ e. cc)
        (none_gone_kept one one_sound r r_one Held r_goes (λ e. cc)
        (none_gone_kept s sound f f_member Waiting f_goes (λ e. cc) orderly.none_gone));
    running_first = λ t u mt mu. on_changed 0 two.tasks two_sound.numbered f_waits f_two Running
        (λ x. (y : Task) → IsMember y three.tasks → x.role ≡ Running → y.role ≡ Waiting
        → x.job.deadline ≤ y.job.deadline)
        (on_changed 0 two.tasks two_sound.numbered f_waits f_two Running
        (λ y. Running ≡ Running → y.role ≡ Waiting → f.job.deadline ≤ y.job.deadline) (λ _ _. omega arith)
        (λ y my apart _ waits. waiting_later y my apart waits))
        (λ x mx _ y my x_runs _. absurd (none_runs s sound r f member runs some f_member fresh before fits x mx x_runs))
        t mt u mu;
    windows = λ b. window_kept two two_sound f_waits f_two Running (λ e. cc) b
        (window_kept one one_sound r r_one Held r_goes b
        (window_kept s sound f f_member Waiting f_goes b (orderly.windows b)));
  }

  -- a preemption keeps the order
  pub preempts_orderly : ByDeadline (after s (Prints (Preempt s.clock r.number f.number)))
  preempts_orderly = subst (λ (tasks : List Task). ByDeadline (record s { tasks = tasks }))
      (same_tasks s sound r f member runs some f_member fresh before fits) three_orderly

-- ---- a silent tick

module _ (s : State) (sound : IsSound s) (quiet : Quiet s) (orderly : ByDeadline s) where
  -- a tick more is no less
  had_more : (b : Bool) (n : ℕ) → n ≤ cond b (n + 1) n
  had_more true n = omega arith
  had_more false n = omega arith

  -- more is_inside adds more
  in_more : (x : Bool) (m n : ℕ) → m ≤ n → cond x m 0 ≤ cond x n 0
  in_more true m n less = less
  in_more false m n less = omega arith

  -- a job that must run in the window has run
  tick_runs : (b : ℕ) (r : Task) → IsMember r s.tasks → r.role ≡ Running → r.job.deadline ≤ b → Window (after s Ticks) b
  tick_runs b r member runs due = record {
    a = w.a;
    past = let past : w.a ≤ s.clock = w.past in omega arith;
    filled = filled;
    clean = on_map ticked (λ t. t.job.release < w.a → t.job.deadline ≤ b → t.role ≡ Done) s.tasks (λ t m. w.clean t m);
  } where
    w : Window s b
    w = orderly.windows b

    since : (r.job.release < (orderly.windows b).a) ⊎ ((orderly.windows b).a ≤ r.job.release)
        → (orderly.windows b).a ≤ r.job.release
    since (inl early) = absurd
        (let done : r.role ≡ Done = (orderly.windows b).clean r member early due in let e : Running ≡ Done = sym runs
        ∙ done in cc)
    since (inr low) = low

    is_in : is_inside (orderly.windows b).a b r.job ≡ true
    is_in = and_from (nat_le (orderly.windows b).a r.job.release) (nat_le r.job.deadline b)
        (le-leb _ _ (since (cases_lt r.job.release (orderly.windows b).a))) (le-leb _ _ due)

    had_one : (x y : Bool) → x ≡ true → y ≡ true → cond x r.had 0 + 1 ≤ cond x (cond y (r.had + 1) r.had) 0 + 0
    had_one true true e f = omega arith
    had_one true false e f = never f
    had_one false y e f = never e

    more : had_in (orderly.windows b).a b s.tasks + 1 ≤ sum_by
        (λ t. cond (is_inside (orderly.windows b).a b t.job) (ticked t).had 0) s.tasks + 0
    more = sum_change (λ t. cond (is_inside (orderly.windows b).a b t.job) t.had 0)
        (λ t. cond (is_inside (orderly.windows b).a b t.job) (ticked t).had 0) 1 0 0 s.tasks r sound.numbered member
        (had_one (is_inside (orderly.windows b).a b r.job) (is_running r) is_in
        (passes is_running r Running true runs refl))
        (λ u mu _.
        in_more (is_inside (orderly.windows b).a b u.job) u.had (ticked u).had (had_more (is_running u) u.had))

    filled : s.clock + 1 ≤ (orderly.windows b).a + had_in (orderly.windows b).a b (map ticked s.tasks)
    filled = let old : s.clock ≤ (orderly.windows b).a + had_in (orderly.windows b).a b s.tasks =
        (orderly.windows b).filled in
        rw (sum_map ticked (λ t. cond (is_inside (orderly.windows b).a b t.job) t.had 0) s.tasks) (omega (arith, more))

  -- no job due by b runs, so each that is released and due by b is done
  tick_clears : (b : ℕ) → Each (λ t. t.role ≡ Running → b < t.job.deadline) s.tasks → Window (after s Ticks) b
  tick_clears b late = record {
    a = s.clock + 1;
    past = omega arith;
    filled = omega arith;
    clean = on_map ticked (λ t. t.job.release < s.clock + 1 → t.job.deadline ≤ b → t.role ≡ Done) s.tasks
        (λ t m early due. by_role t m early due t.role refl);
  } where
    behind : (t : Task) → IsMember t s.tasks → is_ready_behind t ≡ true
        → ((r : Task) → IsMember r s.tasks → r.role ≡ Running → r.job.deadline ≤ t.job.deadline) → t.job.deadline ≤ b
        → ⊥
    behind t m is_b first due = by_runner quiet.runs_or_none where
      by_runner : ((r : Task) × IsMember r s.tasks × (r.role ≡ Running)) ⊎ NoneRuns s.tasks → ⊥
      by_runner (inl it) = let above : b < it.0.job.deadline = late it.0 it.1 it.2 in
          let low : it.0.job.deadline ≤ t.job.deadline = first it.0 it.1 it.2 in omega arith
      by_runner (inr none) = quiet.free none t m is_b

    by_role : (t : Task) → IsMember t s.tasks → t.job.release < s.clock + 1 → t.job.deadline ≤ b → (role : Role)
        → t.role ≡ role → t.role ≡ Done
    by_role t m early due Coming e = absurd (let ahead : s.clock < t.job.release = quiet.ahead t m e in omega arith)
    by_role t m early due Fresh e = absurd (quiet.stale t m e)
    by_role t m early due Waiting e =
        absurd (behind t m (passes is_ready_behind t Waiting true e refl)
        (λ r mr runs. orderly.running_first r t mr m runs e) due)
    by_role t m early due Held e =
        absurd (behind t m (passes is_ready_behind t Held true e refl)
        (λ r mr runs. let less : r.job.deadline < t.job.deadline = sound.running_first r t mr m runs e in omega arith)
        due)
    by_role t m early due Running e = absurd (let above : b < t.job.deadline = late t m e in omega arith)
    by_role t m early due Done e = e
    by_role t m early due Gone e = absurd (orderly.none_gone t m e)

  -- a silent tick keeps each window
  tick_window : (b : ℕ) → ((r : Task) × IsMember r s.tasks × (r.role ≡ Running)) ⊎ NoneRuns s.tasks
      → Window (after s Ticks) b
  tick_window b (inr none) = tick_clears b (λ t m runs. absurd (none t m runs))
  tick_window b (inl it) = by_due (cases_lt b it.0.job.deadline) where
    by_due : (b < it.0.job.deadline) ⊎ (it.0.job.deadline ≤ b) → Window (after s Ticks) b
    by_due (inl late) = tick_clears b
        (λ t m runs. subst (λ (x : Task). b < x.job.deadline)
        (sym (one_number 0 s.tasks sound.numbered t it.0 m it.1 (sound.one_runs t it.0 m it.1 runs it.2))) late)
    by_due (inr due) = tick_runs b it.0 it.1 it.2 due

  -- a silent tick keeps the order
  pub ticks_orderly : ByDeadline (after s Ticks)
  ticks_orderly = record {
    calm = orderly.calm;
    none_gone = on_map ticked (λ t. t.role ≡ Gone → ⊥) s.tasks orderly.none_gone;
    running_first = λ t u mt mu. on_map ticked
        (λ x. (y : Task) → IsMember y (map ticked s.tasks) → x.role ≡ Running → y.role ≡ Waiting
        → x.job.deadline ≤ y.job.deadline) s.tasks
        (λ x mx. on_map ticked (λ y. x.role ≡ Running → y.role ≡ Waiting → x.job.deadline ≤ y.job.deadline) s.tasks
        (λ y my. orderly.running_first x y mx my)) t mt u mu;
    windows = λ b. tick_window b quiet.runs_or_none;
  }

-- ---- each deed

-- a take or an abandonment
abbrev pub Loses : Move → Bool
Loses m = takes_or_abandons m

module _ (k : Fraction) (s : State) (other : Move) (sound : IsSound s) (orderly : ByDeadline s)
    (room : NoneOverfull s.tasks)
    (rested : Quiet s → ByDeadline (after s other) × (Loses other ≡ false)) where
  -- due before all running and held jobs
  active_after : (o : Task) → ((t : Task) → IsMember t s.tasks → t.role ≡ Held → o.job.deadline ≤ t.job.deadline)
      → ((t : Task) → IsMember t s.tasks → t.role ≡ Running → o.job.deadline ≤ t.job.deadline)
      → Each (λ t. is_privileged t ≡ true → o.job.deadline ≤ t.job.deadline) s.tasks
  active_after o held runs t m is_in = by_active (is_privileged_role t is_in) where
    by_active : (t.role ≡ Running) ⊎ (t.role ≡ Held) → o.job.deadline ≤ t.job.deadline
    by_active (inl e) = runs t m e
    by_active (inr e) = held t m e

  -- each deed keeps the order, and takes_or_abandons none
  pub deed_orderly : (m : Move) → Deed k s other m → ByDeadline (after s m) × (Loses m ≡ false)
  deed_orderly m (Completed r member runs) = (
    orderly_pressing (s.pressed && list_any is_open_job (with_roles (changed r Done) s.tasks)) (state_with s r Done)
        (ap (λ b. b && list_any is_open_job (with_roles (changed r Done) s.tasks)) orderly.calm)
        (orderly_kept s sound r member Done (λ e. let c : Running ≡ Done = sym runs ∙ e in cc) orderly (λ e. cc)
        (λ e. absurd (cc))
        (λ e. absurd (cc))),
    refl,
  )
  deed_orderly m (Resumed p member held none least why) = by_why (why orderly.calm) where
    by_why : Passes s p → ByDeadline (after s (Prints (Run s.clock p.number))) × (false ≡ false)
    by_why (NoneBefore first) = (
      orderly_kept s sound p member Running (λ e. let c : Held ≡ Done = sym held ∙ e in cc) orderly (λ e. cc)
          (λ _ w mw _ waits. first w mw waits)
          (λ e. absurd (cc)),
      refl,
    )
    by_why (NoneFits o mo waiting before crowd) =
        absurd (not_crowded s sound orderly room o mo Waiting waiting refl (λ e. cc)
        (active_after o (λ t mt e. let less : o.job.deadline < t.job.deadline = before t mt e in omega arith)
        (λ t mt e. absurd (none t mt e))) crowd)
  deed_orderly m (Started o member waiting none first fits next) = (
    orderly_kept s sound o member Running (λ e. let c : Waiting ≡ Done = sym waiting ∙ e in cc) orderly (λ e. cc)
        (λ _ w mw _ waits. next orderly.calm w mw waits) (λ e. absurd (cc)),
    refl,
  )
  deed_orderly m (Began f member fresh none free) = (
    orderly_kept s sound f member Running (λ e. let c : Fresh ≡ Done = sym fresh ∙ e in cc) orderly (λ e. cc)
        (λ _ w mw _ waits. absurd
        (free w mw (passes is_ready_behind w Waiting true waits refl)))
        (λ e. absurd (cc)),
    refl,
  )
  deed_orderly m (Preempted r f member runs some f_member fresh before fits) =
      (preempts_orderly s sound r f member runs some f_member fresh before fits orderly, refl)
  deed_orderly m (Stayed r f member runs some f_member fresh why) = by_why (why orderly.calm) where
    by_why : (r.job.deadline ≤ f.job.deadline) ⊎ ((f.job.deadline < r.job.deadline) × Crowded s (left f))
        → ByDeadline (after s (Waits f.number)) × (false ≡ false)
    by_why (inl later) = (
      orderly_kept s sound f f_member Waiting (λ e. let c : Fresh ≡ Done = sym fresh ∙ e in cc) orderly (λ e. cc)
          (λ e. absurd (cc))
          (λ _ t mt _ other_runs. subst (λ (x : Task). x.job.deadline ≤ f.job.deadline)
          (sym (one_number 0 s.tasks sound.numbered t r mt member (sound.one_runs t r mt member other_runs runs)))
          later),
      refl,
    )
    by_why (inr crowd) =
        absurd (not_crowded s sound orderly room f f_member Fresh fresh refl (λ e. cc)
        (active_after f (λ t mt e. let first : r.job.deadline < t.job.deadline =
        sound.running_first r t member mt runs e in
        let before : f.job.deadline < r.job.deadline = crowd.0 in omega arith)
        (λ t mt e. subst (λ (x : Task). f.job.deadline ≤ x.job.deadline)
        (sym (one_number 0 s.tasks sound.numbered t r mt member (sound.one_runs t r mt member e runs)))
        (let before : f.job.deadline < r.job.deadline = crowd.0 in omega arith))) crowd.1)
  deed_orderly m (Arrived c member comes now first stale busy free) = (
    orderly_kept s sound c member Fresh (λ e. let d : Coming ≡ Done = sym comes ∙ e in cc) orderly (λ e. cc)
        (λ e. absurd (cc))
        (λ e. absurd (cc)),
    refl,
  )
  deed_orderly m (Taken r x member runs some x_member waiting now stale heavy) =
      absurd (no_alarm s sound orderly room r x member runs some x_member waiting now)
  deed_orderly m (Abandoned r x member runs some x_member waiting now stale light) =
      absurd (no_alarm s sound orderly room r x member runs some x_member waiting now)
  deed_orderly m (Rested quiet) = rested quiet
