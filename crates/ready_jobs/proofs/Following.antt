-- The ready jobs of a whole run, step by step.
use Rattle.std.proofs.Common.{◌≡◌, ℕ, zero, suc, ◌+◌, ◌-◌, ◌^◌, ◌≤◌, ◌<◌, inl, inr, List, [], ◌∷◌, ◌++◌, map, refl, sym}
use Rattle.std.proofs.Common.{ap, ◌∙◌, subst, Bool, true, false, cond, arith, eqb, Option, Some, None, ◌&&◌, nat_le}
use Rattle.std.proofs.Common.{nat_lt, option_to_list, option_map, filter, ltb-true, ltb-false}
use Rattle.std.specs.List.{AllByRecursion}
use Rattle.std.proofs.lemmas.Bool.{lt-leb}
use Rattle.std.proofs.lemmas.List.{map-append}
use Rattle.dover_model.specs.Common.{due_finish, declared_open_step, Fraction, IsJob, Rules, Instance, total_value}
use Rattle.dover_model.specs.Common.{ticked_by, later_by, Step, event_of, waits_for_mark, IsMember, Each, Keeps, State}
use Rattle.dover_model.specs.Common.{is_coming, is_waiting, is_running, is_privileged, is_done, latest_start, value_sum}
use Rattle.dover_model.specs.Common.{Move, Prints, Waits, Ticks, view, open_step, after, with_role, role_after}
use Rattle.dover_model.specs.Common.{displaced, open_at, IsSilent, Settles, is_ready}
use Rattle.dover_model.proofs.finishes.Finishing.{not_complete}
use Rattle.dover_model.specs.declared.events.Event.{Event}
use Rattle.dover_model.specs.declared.events.Role.{Role}
use Rattle.dover_model.specs.declared.events.Role.TheVariants.{Coming, Fresh, Waiting, Held, Running, Done, Gone}
use Rattle.dover_model.specs.declared.events.Event.TheVariants.{Release, Run, Preempt, Take, Complete, Abandon, End}
use Rattle.dover_model.specs.declared.events.Task.{Task}
use Rattle.dover_model.proofs.steps.Jumping.{later_by-zero, after-later_by}
use Rattle.dover_model.proofs.steps.Deeds.{Deed, tick_quiet}
use Rattle.dover_model.proofs.steps.Ticking.{Quiet}
use Rattle.dover_model.proofs.steps.Kept.{open_deed, open_kept, deed_kept, each_job}
use Rattle.dover_model.proofs.steps.Moves.{early_waits, says}
use Rattle.dover_model.proofs.lists.Members.{member_filter, on_map, sum_filter, sum_le, sum_map, member_front}
use Rattle.dover_model.proofs.lists.Members.{member_behind}
use Rattle.dover_model.proofs.steps.Roles.{passes, is_running_role, is_fresh_role}
use Rattle.dover_model.proofs.lists.Tests.{never, none_is_some}
use Rattle.ready_jobs.specs.Dues.{still_ticks}
use Rattle.ready_jobs.proofs.Jumping.{silent as still_silent, due as still_due, within as still_within}
use Rattle.dover_model.specs.Ready.{ready_part}
use Rattle.dover_model.proofs.settled.Leading.{settles_append}
use Rattle.dover_model.specs.Common.{is_open_job}
use Rattle.dover_model.proofs.steps.ReadyParts.{change, after_change, step_ready, ready_then, done_then}
use Rattle.dover_model.proofs.steps.ReadyParts.{pressed_by, after_pressed, pressed_ready}
use Rattle.dover_model.proofs.valid.Limiting.{total_most}
use Rattle.waiting_pool.specs.Reordered.{IsReordered}
use Rattle.ready_jobs.specs.Parts.{Parted, HaveRole, HaveRoles, AreSound, ready_of, state_of}
use Rattle.ready_jobs.specs.Following.{PartOf, SettlesTo}
use Rattle.ready_jobs.specs.Changed.{AreOnce, Leaves}
use Rattle.waiting_pool.proofs.Reordering.{filtered, mapped, further, any_still}
use Rattle.ready_jobs.proofs.Views.{AreApart, step_still}
use Rattle.ready_jobs.proofs.Naming.{waits_says}
use Rattle.ready_jobs.proofs.Seeing.{seen_fresh, waiting_list, privileged_list}
use Rattle.ready_jobs.proofs.Changes.{once_numbered, once_some, once_still, once_own, map_each}
use Rattle.dover_model.proofs.valid.ValidParts.{valid_parts}
use Rattle.dover_model.proofs.valid.JobLimits.{job_limits}

-- ---- a job that isn't to come stays so

pub not_coming : (m : Move) (t : Task) → is_coming t ≡ false → is_coming (change m t) ≡ false
not_coming (Prints e) t h = by_event e where
  by_bool : (b : Bool) (role : Role) → is_coming (with_role t role) ≡ false → is_coming (with_role t t.role) ≡ false
      → is_coming (with_role t (cond b role t.role)) ≡ false
  by_bool true role passed other = passed
  by_bool false role passed other = other

  still_displaced : (role : Role) → is_coming (with_role t role) ≡ false
      → is_coming (with_role t (displaced role)) ≡ false
  still_displaced Coming g = never (sym g)
  still_displaced _ g = refl

  two : (b c : Bool) → is_coming (with_role t (cond b Running (cond c Held t.role))) ≡ false
  two true c = refl
  two false true = refl
  two false false = h

  taken : (b : Bool) → is_coming (with_role t (cond b Running (displaced t.role))) ≡ false
  taken true = refl
  taken false = still_displaced t.role h

  by_event : (e : Event) → is_coming (with_role t (role_after e t.number t.role)) ≡ false
  by_event (Release n job) = by_bool (eqb t.number n) Fresh refl h
  by_event (Run at n) = by_bool (eqb t.number n) Running refl h
  by_event (Preempt at stops starts) = two (eqb t.number starts) (eqb t.number stops)
  by_event (Take at stops starts) = taken (eqb t.number starts)
  by_event (Complete at n) = by_bool (eqb t.number n) Done refl h
  by_event (Abandon at n) = by_bool (eqb t.number n) Gone refl h
  by_event (End value) = h
not_coming (Waits n) t h = by_bool (eqb t.number n) where
  by_bool : (b : Bool) → is_coming (with_role t (cond b Waiting t.role)) ≡ false
  by_bool true = refl
  by_bool false = h
not_coming Ticks t h = h

-- ---- that the state is pressed

-- it is told by the ready jobs in any order
pressed_still : (m : Move) (b : Bool) (xs ys : List Task) → IsReordered xs ys → pressed_by m b ys ≡ pressed_by m b xs
pressed_still (Prints (Complete at n)) b xs ys same = ap (λ c. b && c) (any_still xs ys same is_open_job)
pressed_still (Prints _) b xs ys same = refl
pressed_still _ b xs ys same = refl

-- ---- what is known of the jobs

module _ (p : Parted) (J : Instance) (z : State) (part : PartOf p J z) where
  -- the jobs of the whole that aren't over
  abbrev whole : List Task
  whole = filter is_ready z.tasks

  -- a ready job is one of the whole
  pub there : (t : Task) → IsMember t (ready_of p) → IsMember t z.tasks
  there t m = (member_filter is_ready z.tasks t (part.ready.back t m)).0

  pub whole_once : AreOnce whole
  whole_once = once_some is_ready z.tasks (once_numbered 0 z.tasks part.keeps.sound.numbered)

  pub ready_once : AreOnce (ready_of p)
  ready_once = once_still whole (ready_of p) part.ready whole_once

  -- each is a job within the limits
  whole_job : Each (λ t. IsJob t.job) z.tasks
  whole_job t m = each_job IsJob z.tasks (subst (AllByRecursion IsJob) (sym part.keeps.jobs)
      (valid_parts part.valid).each) t m

  whole_apart : AreApart whole
  whole_apart = record {
    own = once_own whole whole_once;
    one_runs = λ t u mt mu runs other. once_own whole whole_once t u mt mu
        (part.keeps.sound.one_runs t u (member_filter is_ready z.tasks t mt).0 (member_filter is_ready z.tasks u mu).0
        (is_running_role t runs) (is_running_role u other));
    one_fresh = λ t u mt mu fresh other. once_own whole whole_once t u mt mu
        (part.keeps.sound.one_fresh t u (member_filter is_ready z.tasks t mt).0 (member_filter is_ready z.tasks u mu).0
        (is_fresh_role t fresh) (is_fresh_role u other));
    none_comes = λ t m. part.released t (member_filter is_ready z.tasks t m).0;
    works = λ t m. (job_limits (whole_job t (member_filter is_ready z.tasks t m).0)).work;
  }

  -- the open step is that of the ready jobs
  pub part_step : open_step J.rules (state_of p) ≡ open_step J.rules z
  part_step =
      step_still J.rules p.clock p.pressed whole (ready_of p) part.ready whole_apart
      ∙ ap (λ n. open_step J.rules (record { clock = n; tasks = whole; pressed = p.pressed })) (sym part.clock)
      ∙ ap (λ b. open_step J.rules (record { clock = z.clock; tasks = whole; pressed = b })) (sym part.pressed)
      ∙ step_ready J.rules z

  -- each is a job within the limits
  pub part_job : Each (λ t. IsJob t.job) (ready_of p)
  part_job t m = whole_job t (there t m)

  -- they aren't worth too much
  part_total : (test : Task → Bool) → value_sum (filter test (ready_of p)) < 10 ^ 18
  part_total test = let modest : total_value J.jobs < 10 ^ 18 =
      omega (arith, (valid_parts part.valid).total, total_most J.rules.version) in
      let all : value_sum z.tasks ≡ total_value J.jobs = sym (sum_map (λ (t : Task). t.job) (λ j. j.value) z.tasks)
      ∙ ap total_value part.keeps.jobs in
      omega (
        arith,
        part.ready.weighs (λ t. t.job.value),
        sum_filter test (λ t. t.job.value) (ready_of p),
        sum_le (λ t. cond (test t) t.job.value 0) (λ t. t.job.value) (ready_of p) (λ t m. at_most (test t) t.job.value),
        sum_filter is_ready (λ t. t.job.value) z.tasks,
        sum_le (λ t. cond (is_ready t) t.job.value 0) (λ t. t.job.value) z.tasks
            (λ t m. at_most (is_ready t) t.job.value),
      ) where
        at_most : (b : Bool) (n : ℕ) → cond b n 0 ≤ n
        at_most true n = omega arith
        at_most false n = omega arith

  module _ (roles : HaveRoles p) where
    pub waits_there : (t : Task) → IsMember t p.waiting → IsMember t (ready_of p)
    waits_there t m = (member_filter is_waiting (ready_of p) t (subst (IsMember t) (sym (waiting_list p roles)) m)).0

    busy_there : (t : Task) → IsMember t (option_to_list p.running ++ p.held) → IsMember t (ready_of p)
    busy_there t m = (member_filter _ _ _ (subst (IsMember t) (sym (privileged_list p roles)) m)).0

    -- what the machine has to know of them
    pub part_sound : AreSound p
    part_sound = record {
      own = once_own p.waiting (subst AreOnce (waiting_list p roles) (once_some is_waiting (ready_of p) ready_once));
      modest = λ t m. part_job t (waits_there t m);
      total = subst (λ l. value_sum l < 10 ^ 18) (privileged_list p roles) (part_total is_privileged);
      first = λ r mr h mh. part.keeps.sound.running_first r h (there r (busy_there r
          (member_front (option_to_list p.running) p.held r mr)))
          (there h (busy_there h (member_behind (option_to_list p.running) p.held h mh)))
          (roles.running r mr) (roles.held h mh);
      early = λ t m.
          let fits = says z part.keeps.sound t (there t (waits_there t m)) Waiting (roles.waiting t m) in
          omega (arith, fits.2, part.clock);
    }

  -- ---- a step that isn't a tick

  -- the ready jobs after a deed
  pub part_does : (k : Fraction) (q : Parted) (m : Move) (worth : ℕ) → Deed k z Ticks m → q.version ≡ p.version
      → (after z m).clock ≡ q.clock → q.pressed ≡ pressed_by m p.pressed (ready_of q)
      → Leaves (change m) (ready_of p) (ready_of q) worth
      → PartOf q J (after z m)
      × (value_sum (filter is_done (after z m).tasks) ≡ value_sum (filter is_done z.tasks) + worth)
  part_does k q m worth deed version clock pressed leaves = (
    record {
      valid = part.valid;
      keeps = deed_kept J part.valid z part.keeps k m deed;
      version = part.version ∙ sym version;
      clock = clock;
      pressed = after_pressed z m ∙ sym (pressed_ready m z.pressed (after z m).tasks)
          ∙ sym (pressed_still m z.pressed (filter is_ready (after z m).tasks) (ready_of q) ready_then_is)
          ∙ ap (λ b. pressed_by m b (ready_of q)) part.pressed ∙ sym pressed;
      ready = ready_then_is;
      released = subst (Each (λ t. is_coming t ≡ false)) (sym (after_change z m))
          (on_map (change m) (λ t. is_coming t ≡ false) z.tasks (λ t k. not_coming m t (part.released t k)));
    },
    done_is ∙ ap (λ n. value_sum (filter is_done z.tasks) + n)
        (sym ((filtered (map (change m) whole) (map (change m) (ready_of p)) moved is_done).weighs (λ t. t.job.value))
        ∙ leaves.done),
  ) where
    moved : IsReordered (map (change m) whole) (map (change m) (ready_of p))
    moved = mapped whole (ready_of p) part.ready (change m)

    ready_is : filter is_ready (after z m).tasks ≡ filter is_ready (map (change m) whole)
    ready_is = ready_then k z part.keeps.sound m deed ∙ ap (filter is_ready) (after_change (ready_part z) m)

    ready_then_is : IsReordered (filter is_ready (after z m).tasks) (ready_of q)
    ready_then_is = subst (λ l. IsReordered l (ready_of q)) (sym ready_is)
        (further _ _ _ (filtered (map (change m) whole) (map (change m) (ready_of p)) moved is_ready) leaves.ready)

    done_is : value_sum (filter is_done (after z m).tasks) ≡ value_sum (filter is_done z.tasks) + value_sum
        (filter is_done (map (change m) whole))
    done_is = done_then k z part.keeps.sound m deed
        ∙ ap (λ l. value_sum (filter is_done z.tasks) + value_sum (filter is_done l)) (after_change (ready_part z) m)

  -- so after a step
  pub part_moves : (q : Parted) (m : Move) (worth : ℕ) → open_step J.rules z ≡ m → q.version ≡ p.version
      → (after z m).clock ≡ q.clock → q.pressed ≡ pressed_by m p.pressed (ready_of q)
      → Leaves (change m) (ready_of p) (ready_of q) worth
      → PartOf q J (after z m)
      × (value_sum (filter is_done (after z m).tasks) ≡ value_sum (filter is_done z.tasks) + worth)
  part_moves q m worth is = part_does J.rules.ratio q m worth
      (subst (Deed J.rules.ratio z Ticks) is (open_deed J part.valid z part.keeps J.rules))

-- ---- silent ticks

-- the parts after ticks
abbrev pub parts_later : ℕ → Parted → Parted
parts_later n p = record p { clock = p.clock + n; running = option_map (ticked_by n) p.running }

-- a job that doesn't run has none
ticked_idle : (n : ℕ) (t : Task) → is_running t ≡ false → ticked_by n t ≡ t
ticked_idle n t idle = ap
    (λ b. record { number = t.number; job = t.job; role = t.role; had = cond b (t.had + n) t.had }) idle

-- they are those of the state after ticks
pub later_parts : (n : ℕ) (p : Parted) → HaveRoles p → state_of (parts_later n p) ≡ later_by n (state_of p)
later_parts n p roles = ap (λ l. record { clock = p.clock + n; tasks = l; pressed = p.pressed }) (sym lists) where
  idle : (role : Role) (ts : List Task) → Each (λ t. t.role ≡ role) ts
      → ((t : Task) → is_running (with_role t role) ≡ false) → map (ticked_by n) ts ≡ ts
  idle role ts have test =
      map_each (ticked_by n) ts (λ t m. ticked_idle n t (passes is_running t role false (have t m) (test t)))

  one : (o : Option Task) → map (ticked_by n) (option_to_list o) ≡ option_to_list (option_map (ticked_by n) o)
  one None = refl
  one (Some t) = refl

  lists : map (ticked_by n) (ready_of p) ≡ ready_of (parts_later n p)
  lists =
      map-append (ticked_by n) (option_to_list p.running) (option_to_list p.fresh ++ (p.held ++ p.waiting))
      ∙ ap (λ l. l ++ map (ticked_by n) (option_to_list p.fresh ++ (p.held ++ p.waiting))) (one p.running)
      ∙ ap (λ l. option_to_list (option_map (ticked_by n) p.running) ++ l)
      (map-append (ticked_by n) (option_to_list p.fresh) (p.held ++ p.waiting)
      ∙ ap (λ l. l ++ map (ticked_by n) (p.held ++ p.waiting))
      (idle Fresh (option_to_list p.fresh) roles.fresh (λ t. refl))
      ∙ ap (λ l. option_to_list p.fresh ++ l) (map-append (ticked_by n) p.held p.waiting
      ∙ ap (λ l. l ++ map (ticked_by n) p.waiting) (idle Held p.held roles.held (λ t. refl))
      ∙ ap (λ l. p.held ++ l) (idle Waiting p.waiting roles.waiting (λ t. refl))))

-- ticks leave a test of roles
filter_later : (test : Task → Bool) (n : ℕ) → ((t : Task) → test (ticked_by n t) ≡ test t) → (ts : List Task)
    → filter test (map (ticked_by n) ts) ≡ map (ticked_by n) (filter test ts)
filter_later test n same [] = refl
filter_later test n same (t ∷ ts) =
    ap (λ b. cond b (ticked_by n t ∷ filter test (map (ticked_by n) ts)) (filter test (map (ticked_by n) ts))) (same t)
    ∙ by_test (test t) (filter_later test n same ts) where
      by_test : (b : Bool) → filter test (map (ticked_by n) ts) ≡ map (ticked_by n) (filter test ts)
          → cond b (ticked_by n t ∷ filter test (map (ticked_by n) ts)) (filter test (map (ticked_by n) ts))
          ≡ map (ticked_by n) (cond b (t ∷ filter test ts) (filter test ts))
      by_test true rest = ap (λ l. ticked_by n t ∷ l) rest
      by_test false rest = rest

module _ (p : Parted) (roles : HaveRoles p) (J : Instance) (z : State) (part : PartOf p J z) where
  -- the ready jobs after ticks that keep the whole sound
  part_later : (n : ℕ) → Keeps J (later_by n z) → PartOf (parts_later n p) J (later_by n z)
  part_later n keeps = record {
    valid = part.valid;
    keeps = keeps;
    version = part.version;
    clock = ap (λ k. k + n) part.clock;
    pressed = part.pressed;
    ready = subst (λ l. IsReordered l (ready_of (parts_later n p))) (sym (filter_later is_ready n (λ t. refl) z.tasks))
        (subst (IsReordered (map (ticked_by n) (filter is_ready z.tasks)))
        (sym (ap (λ (s : State). s.tasks) (later_parts n p roles)))
        (mapped (filter is_ready z.tasks) (ready_of p) part.ready (ticked_by n)));
    released = on_map (ticked_by n) (λ t. is_coming t ≡ false) z.tasks part.released;
  }

  -- no job is done by them
  done_later : (n : ℕ) → value_sum (filter is_done (later_by n z).tasks) ≡ value_sum (filter is_done z.tasks)
  done_later n = ap value_sum (filter_later is_done n (λ t. refl) z.tasks)
      ∙ sum_map (ticked_by n) (λ t. t.job.value) (filter is_done z.tasks)

  module _ (n mark : ℕ) (silent : (k : ℕ) → k < n → open_step J.rules (later_by k (state_of p)) ≡ Ticks)
      (low : p.clock + n ≤ mark) where
    -- the step after some of them
    step_later : (k : ℕ) → k < n → Keeps J (later_by k z) → open_step J.rules (later_by k z) ≡ Ticks
    step_later k less keeps =
        sym (part_step (parts_later k p) J (later_by k z) (part_later k keeps))
        ∙ ap (open_step J.rules) (later_parts k p roles) ∙ silent k less

    keeps_later : (k : ℕ) → k ≤ n → Keeps J (later_by k z)
    keeps_later zero few = subst (Keeps J) (sym (later_by-zero z)) part.keeps
    keeps_later (suc k) few =
        let before : Keeps J (later_by k z) = keeps_later k (omega arith) in
        let one : k + 1 ≡ suc k = omega arith in
        subst (λ i. Keeps J (later_by i z)) one
        (subst (Keeps J) (ap (after (later_by k z)) (step_later k (omega arith) before) ∙ after-later_by k z)
        (open_kept J part.valid (later_by k z) before J.rules))

    -- the silent ticks from one of them on
    ticks_from : (d k : ℕ) → k + d ≡ n → (xs : List Step) × Settles J.rules mark (later_by k z) xs (later_by n z)
    ticks_from zero k all = ([], ap (λ i. later_by i z) (omega arith))
    ticks_from (suc d) k all =
        let ticks : open_step J.rules (later_by k z) ≡ Ticks =
        step_later k (omega arith) (keeps_later k (omega arith)) in
        let rest : (xs : List Step) × Settles J.rules mark (later_by (suc k) z) xs (later_by n z) =
        ticks_from d (suc k) (omega arith) in
        let more : after (later_by k z) Ticks ≡ later_by (suc k) z = after-later_by k z
        ∙ ap (λ i. later_by i z) (omega arith) in
        let clock : z.clock ≡ p.clock = part.clock in (
          open_at J.rules (later_by k z) ∷ rest.0,
          (
            refl,
            ap (λ m. waits_for_mark m && nat_le mark (z.clock + k)) ticks ∙ lt-leb mark (z.clock + k) (omega arith),
            ap event_of ticks,
            subst (λ u. Settles J.rules mark u rest.0 (later_by n z))
                (sym (ap (after (later_by k z)) ticks ∙ more)) rest.1,
          ),
        )

    -- a jump
    pub jumps : SettlesTo (parts_later n p) J z mark
    jumps =
        let it = ticks_from n 0 (omega arith) in
        record {
          state = later_by n z;
          steps = it.0;
          settles = subst (λ u. Settles J.rules mark u it.0 (later_by n z)) (later_by-zero z) it.1;
          part = part_later n (keeps_later n (omega arith));
          done = done_later n;
        }

-- ---- steps one after another

pub settles_none : (p : Parted) (J : Instance) (z : State) (mark : ℕ) → PartOf p J z → SettlesTo p J z mark
settles_none p J z mark part = record { state = z; steps = []; settles = refl; part = part; done = refl }

-- a silent step that isn't a tick
pub settles_one : (p q : Parted) (J : Instance) (z : State) (mark : ℕ) (m : Move) → PartOf p J z
    → open_step J.rules z ≡ m → waits_for_mark m ≡ false → IsSilent m
    → q.version ≡ p.version → (after z m).clock ≡ q.clock → q.pressed ≡ pressed_by m p.pressed (ready_of q)
    → Leaves (change m) (ready_of p) (ready_of q) 0
    → SettlesTo q J z mark
settles_one p q J z mark m part is early silent version clock pressed leaves =
    let it = part_moves p J z part q m 0 is version clock pressed leaves in
    record {
      state = after z m;
      steps = open_at J.rules z ∷ [];
      settles = (
        refl,
        ap (λ n. waits_for_mark n && nat_le mark z.clock) is ∙ ap (λ b. b && nat_le mark z.clock) early,
        ap event_of is ∙ silent,
        ap (after z) is,
      );
      part = it.0;
      done = omega (arith, it.1);
    }

-- and further ones
pub settles_on : (p q : Parted) (J : Instance) (z : State) (mark : ℕ) (one : SettlesTo p J z mark)
    → SettlesTo q J one.state mark → SettlesTo q J z mark
settles_on p q J z mark one next = record {
  state = next.state;
  steps = one.steps ++ next.steps;
  settles = settles_append J.rules mark one.steps next.steps z one.state next.state one.settles next.settles;
  part = next.part;
  done = next.done ∙ one.done;
}

-- ---- where a silent tick is next, and where the fresh job waits

module _ (p : Parted) (roles : HaveRoles p) (J : Instance) (z : State) (part : PartOf p J z) where
  -- where a silent tick is next, no job is fresh, and none that waits is at its latest start
  module _ (ticks : open_step J.rules (state_of p) ≡ Ticks) where
    quiet : Quiet z
    quiet = tick_quiet _ _ _ _ (open_deed J part.valid z part.keeps J.rules) (sym (part_step p J z part) ∙ ticks)

    pub ticks_early : Each (λ t. p.clock < latest_start t) p.waiting
    ticks_early t m =
        let here : IsMember t z.tasks = there p J z part t (waits_there p J z part roles t m) in
        let later : z.clock < latest_start t = early_waits z part.keeps.sound quiet.early t here (roles.waiting t m) in
        omega (arith, later, part.clock)

  -- the running job can have so many ticks more
  pub had_fits : (n : ℕ) → n ≤ 10_000_000_000_000_000
      → Each (λ t. t.had + n < 18_446_744_073_709_551_616) (option_to_list p.running)
  had_fits n fits t m =
      let here : IsMember t z.tasks =
      there p J z part t (member_front _ _ _ m) in
      let job : IsJob t.job = part_job p J z part t
      (member_front (option_to_list p.running) (option_to_list p.fresh ++ (p.held ++ p.waiting)) t m) in
      let window : t.job.release + t.job.work ≤ t.job.deadline = (job_limits job).window in
      let due : t.job.deadline ≤ 10_000_000_000_000_000 = (job_limits job).due in
      let had : t.had ≤ t.job.work = part.keeps.sound.at_most_work t here in
      omega (arith, fits)

-- the roles after ticks
pub roles_later : (n : ℕ) (p : Parted) → HaveRoles p → HaveRoles (parts_later n p)
roles_later n p roles = record {
  running = by_running p.running roles.running;
  fresh = roles.fresh;
  held = roles.held;
  waiting =
      roles.waiting;
} where
  by_running : (o : Option Task) → HaveRole Running (option_to_list o)
      → HaveRole Running (option_to_list (option_map (ticked_by n) o))
  by_running None have t m = absurd m
  by_running (Some u) have t (inl e) = ap (λ (x : Task). x.role) e ∙ have u (inl refl)
  by_running (Some u) have t (inr m) = absurd m

-- ---- where silent ticks stop

module _ (p : Parted) (roles : HaveRoles p) where
  -- where no job is fresh, no step is a wait
  pub stale_no_wait : (rules : Rules) → p.fresh ≡ None → (n : ℕ) → open_step rules (state_of p) ≡ Waits n → ⊥
  stale_no_wait rules stale n is =
      let it = waits_says rules.ratio (view rules.version (state_of p)) n
      (not_complete p.clock (due_finish rules.finishes (state_of p)) _ (Waits n) is refl) in
      none_is_some (sym (seen_fresh p roles ∙ stale) ∙ it.1)

  -- so a silent step is a tick
  pub stale_ticks : (rules : Rules) → p.fresh ≡ None → (m : Move) → open_step rules (state_of p) ≡ m → IsSilent m
      → m ≡ Ticks
  stale_ticks rules stale (Prints e) is silent = absurd (let clash : Some e ≡ None = silent in cc)
  stale_ticks rules stale (Waits n) is silent = absurd (stale_no_wait rules stale n is)
  stale_ticks rules stale Ticks is silent = refl

-- a jump that ends where a tick is next again has reached the mark
module _ (p : Parted) (roles : HaveRoles p) (rules : Rules) (mark n : ℕ) (low : p.clock ≤ mark)
    (is : n ≡ still_ticks (mark - p.clock) (state_of p)) where
  pub jump_low : p.clock + n ≤ mark
  jump_low = let most : still_ticks (mark - p.clock) (state_of p) ≤ mark - p.clock =
      still_within (state_of p) (mark - p.clock) in omega (arith, low, is, most)

  pub jump_silent : declared_open_step rules (state_of p) ≡ Ticks → (k : ℕ) → k < n
      → declared_open_step rules (later_by k (state_of p)) ≡ Ticks
  jump_silent ticks k less = still_silent rules (state_of p) (mark - p.clock) ticks k (omega (arith, less, is))

  pub jump_reaches : declared_open_step rules (state_of (parts_later n p)) ≡ Ticks → mark ≤ p.clock + n
  jump_reaches again = by_test (nat_lt n (mark - p.clock)) refl where
    by_test : (b : Bool) → nat_lt n (mark - p.clock) ≡ b → mark ≤ p.clock + n
    by_test true below = absurd
        (still_due rules (state_of p) (mark - p.clock) (subst (λ m. m < mark - p.clock) is (ltb-true _ _ below))
        (subst (λ m. declared_open_step rules (later_by m (state_of p)) ≡ Ticks) is
        (ap (declared_open_step rules) (sym (later_parts n p roles)) ∙ again)))
    by_test false above = let far : mark - p.clock ≤ n = ltb-false _ _ above in omega arith
