-- A silent tick keeps what every state keeps; so does every step.
use Rattle.std.proofs.Common.{◌≡◌, ℕ, suc, zero, ◌+◌, ◌≤◌, ◌<◌, ◌⊎◌, inl, inr, List, [], ◌∷◌, map, refl, sym, ap, ◌∙◌}
use Rattle.std.proofs.Common.{subst, Bool, true, false, cond, arith, filter, Some, ◌&&◌, ◌||◌, not, ◌==◌}
use Rattle.std.proofs.Common.{eqb-true}
use Rattle.dover_model.specs.declared.events.Event.TheVariants.{Complete}
use Rattle.dover_model.specs.declared.events.Task.{Task}
use Rattle.dover_model.specs.declared.events.Role.{Role}
use Rattle.dover_model.specs.declared.events.Role.TheVariants.{Coming, Fresh, Waiting, Held, Running, Done, Gone}
use Rattle.dover_model.specs.JobFacts.{JobFacts}
use Rattle.dover_model.specs.Common.{Fraction, Rules, is_held, is_running, is_privileged, is_ready_behind, left}
use Rattle.dover_model.specs.Common.{value_sum, is_done, with_role, running, latest_start, to_come}
use Rattle.dover_model.specs.Common.{IsMember, Each, FitsRole, Instance, IsValid, jobs_of, NoneRuns}
use Rattle.dover_model.specs.State as one
use Rattle.dover_model.specs.Step as single
use Rattle.dover_model.proofs.lists.Tests.{never}
use Rattle.dover_model.proofs.lists.Members.{map_member, map_map, on_map, found}
use Rattle.dover_model.proofs.steps.Roles.{passes, is_privileged_role, is_running_role}
use Rattle.dover_model.proofs.steps.Cases.{Rests}
use Rattle.dover_model.proofs.steps.Ticking.{Quiet}
use Rattle.dover_model.proofs.steps.Deeds.{Deed, Rested, deed_of}
use Rattle.dover_model.proofs.steps.Kept.{come_jobs, come_coming, opening_keeps}
use Rattle.many_processors.specs.State.{Placed, State, tasks_of, seen_by, seen_from}
use Rattle.many_processors.specs.State.{opening, unplaced}
use Rattle.many_processors.specs.Step.{Move, Prints, Ticks, Seen, seen, ticked, with_tick, open_step}
use Rattle.many_processors.specs.Step.{all_seen, numbers_from, after, step}
use Rattle.many_processors.specs.Sound.{Keeps}
use Rattle.many_processors.proofs.steps.Seeing.{each_sees, one_of_all, numbers_below, below_numbers}
use Rattle.many_processors.proofs.steps.Cases as cases
use Rattle.many_processors.proofs.steps.Cases.{IsQuiet, StepCase, step_case, open_case}
use Rattle.many_processors.proofs.steps.Turning.{Turned, turned_sound}
use Rattle.many_processors.proofs.steps.Placing.{seen_same, off_seen, own_seen, seen_own, seen_member, all_left}
use Rattle.many_processors.proofs.steps.Kept.{seen_fits, had_most, job_released}
use Rattle.many_processors.proofs.steps.Keeping.{jobs_stay}
use Rattle.many_processors.proofs.steps.Stepping.{sound_of, real, completes_kept, ends_kept, acts_kept}

-- ---- a tick

-- who runs is on a processor
pub running_on : (p : Placed) → is_running p.task ≡ true → is_privileged p.task ≡ true
running_on p e = ap (λ b. b || is_held p.task) e

-- so is a running job
pub runs_by_role : (p : Placed) → p.task.role ≡ Running → is_running p.task ≡ true
runs_by_role p runs = passes is_running p.task Running true runs refl

-- a held job isn't
held_stands : (p : Placed) → p.task.role ≡ Held → is_running p.task ≡ false
held_stands p held = passes is_running p.task Held false held refl

module _ (processors : ℕ) (J : Instance) (valid : IsValid J) (s : State) (keeps : Keeps processors J s)
    (some_left : Each (λ p. is_privileged p.task ≡ true → 1 ≤ left p.task) s.jobs)
    (quiet : (i : ℕ) → i < processors → Quiet (seen_from i s)) (some : 1 ≤ processors) where
  -- what the tick does to a job
  tick_parts : (p : Placed) → IsMember p s.jobs → ((ticked p).task.number ≡ p.task.number)
      × ((ticked p).task.job ≡ p.task.job) × ((ticked p).task.role ≡ p.task.role) × ((ticked p).owner ≡ p.owner)
      × (p.task.had ≤ (ticked p).task.had)
      × ((ticked p).task.had ≤ p.task.job.work)
  tick_parts p member = by_test (is_running p.task) refl where
    by_test : (b : Bool) → is_running p.task ≡ b → let u = cond b
        (record { task = with_tick p.task; owner = p.owner }) p in
        (u.task.number ≡ p.task.number) × (u.task.job ≡ p.task.job) × (u.task.role ≡ p.task.role)
        × (u.owner ≡ p.owner) × (p.task.had ≤ u.task.had) × (u.task.had ≤ p.task.job.work)
    by_test true e = (
      refl,
      refl,
      refl,
      refl,
      omega arith,
      (let more : 1 ≤ left p.task =
          some_left p member (running_on p e) in omega arith),
    )
    by_test false e = (refl, refl, refl, refl, omega arith, had_most s keeps.sound p member)

  -- who has no processor is unchanged
  tick_same : (p : Placed) → is_running p.task ≡ false → ticked p ≡ p
  tick_same p e = ap (λ b. cond b (record { task = with_tick p.task; owner = p.owner }) p) e

  -- who is on none
  off_stands : (p : Placed) → is_privileged p.task ≡ false → is_running p.task ≡ false
  off_stands p off = by_test (is_running p.task) refl where
    by_test : (b : Bool) → is_running p.task ≡ b → is_running p.task ≡ false
    by_test false e = e
    by_test true e = never (sym off ∙ running_on p e)

  -- the first processor
  first_quiet : Quiet (seen_from 0 s)
  first_quiet = quiet 0 (omega (arith, some))

  -- a job on no processor fits its role a tick later
  off_fits : (p : Placed) → IsMember p s.jobs → is_privileged p.task ≡ false
      → FitsRole (s.clock + 1) p.task.role p.task
  off_fits p member off = by_role p.task.role refl where
    same : seen_by 0 p ≡ p.task
    same = off_seen 0 p off

    p_member : IsMember p.task (map (seen_by 0) s.jobs)
    p_member = subst (λ t. IsMember t (map (seen_by 0) s.jobs)) same (map_member (seen_by 0) s.jobs p member)

    fits : (role : Role) → p.task.role ≡ role → FitsRole s.clock role p.task
    fits role e = subst (λ r. FitsRole s.clock r p.task) e
        (subst (λ t. FitsRole s.clock t.role t) same (seen_fits s keeps.sound 0 p member))

    by_role : (role : Role) → p.task.role ≡ role → FitsRole (s.clock + 1) role p.task
    by_role Coming e = (
      (fits Coming e).0,
      (let later : s.clock < p.task.job.release =
          first_quiet.ahead p.task p_member e in omega arith),
    )
    by_role Fresh e = absurd (first_quiet.stale p.task p_member e)
    by_role Waiting e =
        let it = fits Waiting e in
        let not_now : latest_start p.task ≡ s.clock → ⊥ = first_quiet.early p.task p_member e in
        let in_time : s.clock + left p.task ≤ p.task.job.deadline = it.2 in
        let some_work : 1 ≤ left p.task = it.0 in
        (it.0, omega (arith, it.1), omega (arith, in_time, not_now, some_work))
    by_role Held e = never (sym off ∙ passes is_privileged p.task Held true e refl)
    by_role Running e = never (sym off ∙ passes is_privileged p.task Running true e refl)
    by_role Done e = omega (arith, fits Done e)
    by_role Gone e = ((fits Gone e).0, omega (arith, (fits Gone e).1))

  -- a job on processor q, as it sees it a tick later
  own_ticked : (q : ℕ) (p : Placed) → IsMember p s.jobs → p.owner ≡ q → seen_by q (ticked p) ≡ (ticked p).task
  own_ticked q p member own = own_seen q (ticked p) ((tick_parts p member).3 ∙ own)

  -- ---- each job as processor q sees it

  -- what becomes of a job that it sees
  abbrev Shows : Task → Task → Type 0
  Shows t u = (u.role ≡ t.role) × (u.role ≡ Running → left u + 1 ≤ left t)
      × FitsRole (s.clock + 1) u.role u

  turns : (q : ℕ) → Each (λ p. Turned s.clock (seen_by q p) (seen_by q (ticked p))) s.jobs
  turns q p member = record {
    number = (seen_same q (ticked p)).0 ∙ parts.0 ∙ sym (seen_same q p).0;
    job = (seen_same q (ticked p)).1 ∙ parts.1 ∙ sym (seen_same q p).1;
    had = omega (arith, parts.4, (seen_same q (ticked p)).2, (seen_same q p).2);
    at_most_work = omega (
      arith,
      parts.5,
      (seen_same q (ticked p)).2,
      ap (λ (j : JobFacts). j.work)
          ((seen_same q (ticked p)).1 ∙ parts.1),
    );
    role = new.0;
    runs = new.1;
    fits = new.2;
  } where
    parts : ((ticked p).task.number ≡ p.task.number)
        × ((ticked p).task.job ≡ p.task.job) × ((ticked p).task.role ≡ p.task.role) × ((ticked p).owner ≡ p.owner)
        × (p.task.had ≤ (ticked p).task.had)
        × ((ticked p).task.had ≤ p.task.job.work)
    parts = tick_parts p member

    was_released : (p.task.role ≡ Coming → ⊥) → p.task.job.release ≤ s.clock
    was_released = job_released s keeps.sound p member

    -- of a job that is over for the processor before and after
    over : (t : Task) → t.job ≡ p.task.job → (p.task.role ≡ Coming → ⊥)
        → Shows (with_role p.task Done) (with_role t Done)
    over t same came = (
      refl,
      λ e. absurd (let f : Done ≡ Running = e in cc),
      omega (arith, was_released came, ap (λ (j : JobFacts). j.release) same),
    )

    on_came : is_privileged p.task ≡ true → p.task.role ≡ Coming → ⊥
    on_came on e = never (sym (passes is_privileged p.task Coming false e refl) ∙ on)

    -- of one of its own
    running_ticked : p.task.role ≡ Running → left (ticked p).task + 1 ≤ left p.task
    running_ticked runs = by_test (is_running p.task) (runs_by_role p runs) where
      by_test : (b : Bool) → b ≡ true
          → left (cond b (record { task = with_tick p.task; owner = p.owner }) p).task + 1 ≤ left p.task
      by_test true e = let more : 1 ≤ left p.task =
          some_left p member (passes is_privileged p.task Running true runs refl) in omega arith
      by_test false e = never e

    own : p.owner ≡ q → is_privileged p.task ≡ true → Shows p.task (seen_by q (ticked p))
    own is on = subst (Shows p.task) (sym (own_ticked q p member is)) (by_role (is_privileged_role p.task on)) where
      by_role : (p.task.role ≡ Running) ⊎ (p.task.role ≡ Held) → Shows p.task (ticked p).task
      by_role (inl runs) = (
        parts.2,
        λ e. running_ticked runs,
        subst (λ role. FitsRole (s.clock + 1) role (ticked p).task) (sym (parts.2 ∙ runs))
            (omega (arith, was_released (on_came on), ap (λ (j : JobFacts). j.release) parts.1)),
      )
      by_role (inr held) = (
        parts.2,
        λ e. absurd (let f : Held ≡ Running = sym held ∙ sym parts.2 ∙ e in cc),
        subst (λ role. FitsRole (s.clock + 1) role (ticked p).task) (sym (parts.2 ∙ held))
            (some_work, omega (arith, was_released (on_came on), ap (λ (j : JobFacts). j.release) parts.1)),
      ) where
        some_work : 1 ≤ left (ticked p).task
        some_work = omega (
          arith,
          some_left p member on,
          ap (λ (u : Placed). left u.task) (tick_same p (held_stands p held)),
        )

    -- of a job of another processor
    others : (p.owner == q) ≡ false → is_privileged p.task ≡ true → Shows (seen_by q p) (seen_by q (ticked p))
    others differs on = subst (λ t. Shows t (seen_by q (ticked p))) (sym (gone p on differs))
        (subst (Shows (with_role p.task Done)) (sym (gone (ticked p)
        (passes_role (is_privileged_role p.task on)) (ap (λ n. n == q) parts.3 ∙ differs)))
        (over (ticked p).task parts.1 (on_came on))) where
          passes_role : (p.task.role ≡ Running) ⊎ (p.task.role ≡ Held) → is_privileged (ticked p).task ≡ true
          passes_role (inl e) = passes is_privileged (ticked p).task Running true (parts.2 ∙ e) refl
          passes_role (inr e) = passes is_privileged (ticked p).task Held true (parts.2 ∙ e) refl

          gone : (u : Placed) → is_privileged u.task ≡ true → (u.owner == q) ≡ false
              → seen_by q u ≡ with_role u.task Done
          gone u on differs = ap (λ b. cond b (with_role u.task Done) u.task)
              (first_one (is_privileged u.task) (u.owner == q) on differs) where
                first_one : (a b : Bool) → a ≡ true → b ≡ false → (a && not b) ≡ true
                first_one true false e f = refl
                first_one true true e f = never (sym f)
                first_one false b e f = never e

    new : Shows (seen_by q p) (seen_by q (ticked p))
    new = by_on (is_privileged p.task) (p.owner == q) refl refl where
      by_on : (a b : Bool) → is_privileged p.task ≡ a → (p.owner == q) ≡ b → Shows (seen_by q p) (seen_by q (ticked p))
      by_on true true on is = subst (λ t. Shows t (seen_by q (ticked p)))
          (sym (own_seen q p (eqb-true _ _ is))) (own (eqb-true _ _ is) on)
      by_on true false on differs = others differs on
      by_on false b off e = subst (λ t. Shows t (seen_by q (ticked p))) (sym (off_seen q p off))
          (subst (λ u. Shows p.task (seen_by q u)) (sym (tick_same p (off_stands p off)))
          (subst (Shows p.task) (sym (off_seen q p off)) (
            refl,
            λ runs. never (sym off ∙ passes is_privileged p.task Running true runs refl),
            off_fits p member off,
          )))

  -- where a job is on processor q, one runs there
  runs_or_none : (q : ℕ) → ((p : Placed) × IsMember p s.jobs × ((seen_by q (ticked p)).role ≡ Running))
      ⊎ Each (λ p. is_privileged (seen_by q p) ≡ true → ⊥) s.jobs
  runs_or_none q = by_below (below q processors) where
    below : (a b : ℕ) → (a < b) ⊎ (b ≤ a)
    below a zero = inr (omega arith)
    below zero (suc b) = inl (omega arith)
    below (suc a) (suc b) = elim (below a b)
        [ inl less ↦ inl (omega (arith, less)) | inr low ↦ inr (omega (arith, low)) ]

    by_runs : ((r : Task) × IsMember r (map (seen_by q) s.jobs) × (r.role ≡ Running))
        ⊎ NoneRuns (map (seen_by q) s.jobs)
        → (NoneRuns (map (seen_by q) s.jobs) → Each (λ t. is_ready_behind t ≡ true → ⊥) (map (seen_by q) s.jobs))
        → ((p : Placed) × IsMember p s.jobs × ((seen_by q (ticked p)).role ≡ Running))
        ⊎ Each (λ p. is_privileged (seen_by q p) ≡ true → ⊥) s.jobs
    by_runs (inl it) free =
        let x = seen_member q s.jobs it.0 Running (λ e. cc) it.2 it.1 in
        let runs : x.0.task.role ≡ Running = ap (λ (t : Task). t.role) x.2 ∙ it.2 in
        let own = seen_own q x.0 (ap is_privileged x.3 ∙ passes is_privileged it.0 Running true it.2 refl) in
        inl (x.0, x.1, ap (λ (t : Task). t.role) (own_ticked q x.0 x.1 own.1) ∙ (tick_parts x.0 x.1).2 ∙ runs)
    by_runs (inr none) free = inr (λ p member on. by_role p member (is_privileged_role (seen_by q p) on)) where
      by_role : (p : Placed) → IsMember p s.jobs → ((seen_by q p).role ≡ Running) ⊎ ((seen_by q p).role ≡ Held) → ⊥
      by_role p member (inl e) = none (seen_by q p) (map_member (seen_by q) s.jobs p member) e
      by_role p member (inr e) = free none (seen_by q p) (map_member (seen_by q) s.jobs p member)
          (passes is_ready_behind (seen_by q p) Held true e refl)

    by_below : (q < processors) ⊎ (processors ≤ q) → ((p : Placed) × IsMember p s.jobs
        × ((seen_by q (ticked p)).role ≡ Running)) ⊎ Each (λ p. is_privileged (seen_by q p) ≡ true → ⊥) s.jobs
    by_below (inl less) = by_runs (quiet q less).runs_or_none (quiet q less).free
    by_below (inr high) = inr (λ p member on.
        let own = seen_own q p on in
        let low : p.owner < processors = keeps.placed.owners p member (sym (ap is_privileged own.0) ∙ on) in
        omega (arith, low, high, own.1))

  -- a tick keeps what a state keeps
  pub ticks_kept : Keeps processors J (after s Ticks)
  ticks_kept = record {
    sound = λ q. sound_of (one.state_at (s.clock + 1) (map (λ p. seen_by q (ticked p)) s.jobs))
        (seen_from q (after s Ticks))
        refl (sym (map_map (seen_by q) ticked s.jobs))
        (turned_sound s.clock (seen_by q) (λ p. seen_by q (ticked p)) s.jobs (turns q)
        (sound_of (seen_from q s) (one.state_at s.clock (map (seen_by q) s.jobs)) refl refl (keeps.sound q))
        (runs_or_none q));
    jobs = jobs_stay ticked s.jobs (λ p member. (tick_parts p member).1) ∙ keeps.jobs;
    placed = record {
      owners = on_map ticked (λ p. is_privileged p.task ≡ true → p.owner < processors) s.jobs
          (λ p member on. subst (λ n. n < processors) (sym (tick_parts p member).3)
          (keeps.placed.owners p member (was_on p member on)));
    };
  } where
    was_on : (p : Placed) → IsMember p s.jobs → is_privileged (ticked p).task ≡ true → is_privileged p.task ≡ true
    was_on p member on = by_role (is_privileged_role (ticked p).task on) where
      by_role : ((ticked p).task.role ≡ Running) ⊎ ((ticked p).task.role ≡ Held) → is_privileged p.task ≡ true
      by_role (inl e) = passes is_privileged p.task Running true (sym (tick_parts p member).2 ∙ e) refl
      by_role (inr e) = passes is_privileged p.task Held true (sym (tick_parts p member).2 ∙ e) refl

-- ---- every step

-- where a processor does nothing, it is quiet
quiet_of : (k : Fraction) (s : one.State) → Deed k s single.Ticks single.Ticks → Quiet s
quiet_of k s (Rested quiet) = quiet

-- a task of the list is that of a job
pub of_tasks : (ps : List Placed) (t : Task) → IsMember t (tasks_of ps) → (u : Placed) × IsMember u ps × (u.task ≡ t)
of_tasks [] t m = absurd m
of_tasks (x ∷ ps) t (inl e) = (x, inl refl, sym e)
of_tasks (x ∷ ps) t (inr m) = let it = of_tasks ps t m in (it.0, inr it.1, it.2)

module _ (processors : ℕ) (J : Instance) (valid : IsValid J) (some : 1 ≤ processors) (rules : Rules) (s : State)
    (keeps : Keeps processors J s) where
  -- what all see
  abbrev pub all : List Seen
  all = all_seen processors rules.version s

  -- a processor of these
  pub which : (q : Seen) → IsMember q all → (q ≡ seen rules.version s q.processor) × (q.processor < processors)
  which q member =
      let it = one_of_all rules.version s (numbers_from 0 processors) q member in
      (it.0, omega (arith, (numbers_below q.processor 0 processors it.1).1))

  -- a job that a processor runs
  pub running_job : (i : ℕ) (t : Task) → (seen rules.version s i).view.running ≡ Some t
      → (x : Placed) × IsMember x s.jobs × (x.task ≡ t) × (x.task.role ≡ Running)
  running_job i t runs =
      let it = found is_running (map (seen_by i) s.jobs) t runs in
      let is_run : t.role ≡ Running = is_running_role t it.1 in
      let x = seen_member i s.jobs t Running (λ e. cc) is_run it.0 in
      (x.0, x.1, x.2, ap (λ (u : Task). u.role) x.2 ∙ is_run)

  -- each processor is quiet before a tick
  pub all_quiet : IsQuiet rules s all → (i : ℕ) → i < processors → Quiet (seen_from i s)
  all_quiet quiet i less =
      let member : IsMember (seen rules.version s i) all = map_member (seen rules.version s)
      (numbers_from 0 processors) i
      (below_numbers i 0 processors (omega arith) (omega (arith, less))) in
      quiet_of rules.ratio (seen_from i s)
      (deed_of rules.ratio rules.version (seen_from i s) single.Ticks (keeps.sound i)
      (real processors J valid s keeps i) single.Ticks
      (Rests (running (seen_from i s)) (quiet.settles (seen rules.version s i) member)
      (quiet.stale (seen rules.version s i) member) (quiet.ahead (seen rules.version s i) member)
      (inl (quiet.early (seen rules.version s i) member))))

  -- each case keeps what a state keeps
  case_kept : (may_end : Bool) (m : Move) → StepCase may_end rules s all m → Keeps processors J (after s m)
  case_kept may_end m (cases.Completed q member t served finished) =
      let i = which q member in
      let x = running_job q.processor t (subst (λ (r : Seen). r.view.running ≡ Some t) i.0 served) in
      subst (λ (u : Task). Keeps processors J (after s (Prints q.processor (Complete q.view.clock u.number)))) x.2
      (completes_kept processors J valid s keeps q.processor q.view.clock x.0 x.1
      (λ e. absurd (let f : Coming ≡ Running = sym e ∙ x.3 in cc)))
  case_kept may_end m (cases.Acted q member n acts going decided) =
      let i = which q member in
      acts_kept processors J valid s keeps
      (all_left processors s rules.version keeps.sound keeps.placed going) rules.ratio q.processor i.1
      rules.version false m (subst (λ r. cases.Acts rules.ratio r false m) i.0 acts)
  case_kept may_end m (cases.Abandoned q member n acts it going light) =
      let i = which q member in
      acts_kept processors J valid s keeps
      (all_left processors s rules.version keeps.sound keeps.placed going) rules.ratio q.processor i.1
      rules.version true m (subst (λ r. cases.Acts rules.ratio r true m) i.0 acts)
  case_kept may_end m (cases.Ended may over) = ends_kept processors J valid s keeps 0
      (value_sum (filter is_done (tasks_of s.jobs)))
  case_kept may_end m (cases.Rested quiet unended) = ticks_kept processors J valid s keeps
      (all_left processors s rules.version keeps.sound keeps.placed quiet.going) (all_quiet quiet) some

  -- so does every step
  pub step_kept : Keeps processors J (after s (step processors rules s))
  step_kept = case_kept true (step processors rules s)
      (step_case rules s all (each_sees processors rules.version s))

  -- and every open one
  pub open_kept : Keeps processors J (after s (open_step processors rules s))
  open_kept = case_kept false (open_step processors rules s)
      (open_case rules s all (each_sees processors rules.version s))

-- ---- the opening

-- no job is placed
pub opening_kept : (processors : ℕ) (J : Instance) → Keeps processors J (opening J.jobs)
opening_kept processors J = record {
  sound = λ q. sound_of (one.opening J.jobs) (seen_from q (opening J.jobs)) refl
      (sym (all_off q (to_come 0 J.jobs) (come_coming 0 J.jobs))) (opening_keeps J).sound;
  jobs = tasks_same (to_come 0 J.jobs) ∙ come_jobs 0 J.jobs;
  placed = record {
    owners = λ p member on. absurd (never_on p member on);
  };
} where
  never_on : Each (λ p. is_privileged p.task ≡ true → ⊥) (map unplaced (to_come 0 J.jobs))
  never_on = on_map unplaced (λ p. is_privileged p.task ≡ true → ⊥) (to_come 0 J.jobs)
      (λ t m on. never (sym (passes is_privileged t Coming false (come_coming 0 J.jobs t m).0 refl) ∙ on))

  all_off : (q : ℕ) (ts : List Task) → Each (λ t. (t.role ≡ Coming) × (t.had ≡ 0)) ts
      → map (seen_by q) (map unplaced ts) ≡ ts
  all_off q [] come = refl
  all_off q (t ∷ ts) come = ap (λ u. u ∷ map (seen_by q) (map unplaced ts))
      (off_seen q (unplaced t) (passes is_privileged t Coming false (come t (inl refl)).0 refl))
      ∙ ap (λ us. t ∷ us) (all_off q ts (λ u m. come u (inr m)))

  tasks_same : (ts : List Task) → jobs_of (tasks_of (map unplaced ts)) ≡ jobs_of ts
  tasks_same [] = refl
  tasks_same (t ∷ ts) = ap (λ js. t.job ∷ js) (tasks_same ts)
