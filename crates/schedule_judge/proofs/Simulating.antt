-- The schedule that a run's printed steps make so far tells what the run's state is, so each step may come.
use Rattle.std.proofs.Common.{◌≡◌, ◌≢◌, ◌≤◌, ◌<◌, ◌+◌, ◌-◌, ◌⊎◌, inl, inr, ℕ, zero, suc, List, ◌∷◌, ◌++◌, [], length}
use Rattle.std.proofs.Common.{map, refl}
use Rattle.std.proofs.Common.{sym, ap, ◌∙◌, subst, Bool, true, false, cond, Option, Some, None, arith, nat_le}
use Rattle.std.proofs.Common.{nat_lt}
use Rattle.std.proofs.Common.{◌==◌, eqb, get_or, slice_get, le-leb, leb-true, le-ltb, ltb-true, ltb-false}
use Rattle.std.proofs.Common.{eqb-true, eq-eqb, ne_eqb}
use Rattle.std.proofs.Common.{length-append}
use Rattle.std.specs.Option.{option_map_or}
use Rattle.std.proofs.lemmas.Bool.{eqb-false, leb-false, lt-leb}
use Rattle.std.proofs.lemmas.List.{get_or_append_left, length-map}
use Rattle.std.proofs.lemmas.Option.{slice_get-get_or}
use Rattle.std.proofs.Math.Seq.{get_or-append_seam}
use Rattle.dover_model.specs.JobFacts.{JobFacts}
use Rattle.dover_model.specs.declared.events.Event.{Event}
use Rattle.dover_model.specs.declared.events.Event.TheVariants.{Run, Preempt, Take}
use Rattle.dover_model.specs.declared.events.Role.{Role}
use Rattle.dover_model.specs.declared.events.Role.TheVariants.{Coming, Fresh, Waiting, Held, Running, Done, Gone}
use Rattle.dover_model.specs.declared.events.Task.{Task}
use Rattle.dover_model.specs.Common.{State, is_coming, is_running, is_privileged, running, left}
use Rattle.dover_model.specs.Common.{displaced, role_after, with_role, ticked, IsMember, Each, IsSound}
use Rattle.dover_model.specs.Common.{NoneRuns}
use Rattle.dover_model.specs.Common.{IsNumberedFrom}
use Rattle.dover_model.proofs.lists.Members.{on_map, map_member, found, not_found}
use Rattle.dover_model.proofs.lists.Tests.{never}
use Rattle.dover_model.proofs.steps.Moves.{says, active_slack, displaced_rests}
use Rattle.dover_model.proofs.runs.Honest.{numbers_low}
use Rattle.dover_model.proofs.steps.Roles.{is_running_role, is_coming_role, one_number, passes, fails}
use Rattle.schedule_judge.specs.declared.book.Turn.{Turn}
use Rattle.schedule_judge.specs.declared.causes.Cause.TheVariants as cause
use Rattle.schedule_judge.specs.declared.jobs.JobState.{JobState}
use Rattle.schedule_judge.specs.declared.jobs.JobState.TheVariants.{Open, Completed, Abandoned}
use Rattle.schedule_judge.specs.declared.jobs.ToldJob.{ToldJob}
use Rattle.schedule_judge.specs.Jobs.{fresh, nobody, ran, settled, told_of, is_open, is_open_state, may_run}
use Rattle.schedule_judge.specs.Legal.{Schedule, ran_cause, turn_cause, tick_cause, runs}
use Rattle.schedule_judge.specs.Legal.{jobs_stopped}
use Rattle.schedule_judge.proofs.Worth.{told_same, told_other, told_count}

-- ---- what a schedule tells of a state

-- what became of a job of this role
abbrev pub state_of : Role → JobState
state_of Done = Completed
state_of Gone = Abandoned
state_of _ = Open

-- it is the job, and what became of it
pub record Tells (t : Task) (told : ToldJob) : Type 0 where
  pub job : told.job ≡ t.job
  pub state : told.state ≡ state_of t.role

-- of each that is released
abbrev pub AreTold : List ToldJob → List Task → Type 0
AreTold jobs tasks = Each (λ t. t.number < length jobs → Tells t (get_or jobs t.number nobody)) tasks

-- the job has the processor since a tick, and had so much left then
pub record HasSince (clock : ℕ) (jobs : List ToldJob) (turn : Option Turn) (t : Task) : Type 0 where
  pub from : ℕ
  pub is : turn ≡ Some (record { number = t.number; from = from })
  pub past : from ≤ clock
  pub left : (get_or jobs t.number nobody).left ≡ left t + (clock - from)

-- the schedule, whose last step is of this tick, tells of these tasks at a clock
pub record ShowsIn (clock last : ℕ) (tasks : List Task) (jobs : List ToldJob) (turn : Option Turn) : Type 0 where
  pub past : last ≤ clock
  pub count : length jobs ≤ length tasks
  pub known : Each (λ t. is_coming t ≡ nat_le (length jobs) t.number) tasks
  pub told : AreTold jobs tasks
  pub rests : Each (λ t. t.number < length jobs → (t.role ≡ Running → ⊥)
      → (get_or jobs t.number nobody).left ≡ left t) tasks
  pub busy : Each (λ t. t.role ≡ Running → HasSince clock jobs turn t) tasks
  pub idle : NoneRuns tasks → turn ≡ None

-- it tells of the state
abbrev pub Shows : State → Schedule → Type 0
Shows s st = ShowsIn s.clock st.clock s.tasks st.jobs st.turn

-- then each has told what is left
pub record Stopped (jobs : List ToldJob) (tasks : List Task) : Type 0 where
  pub told : AreTold jobs tasks
  pub left : Each (λ t. t.number < length jobs → (get_or jobs t.number nobody).left ≡ left t) tasks

-- ---- jobs of a state

-- a job that isn't to come is known
known_of : (jobs : List ToldJob) (t : Task) → is_coming t ≡ nat_le (length jobs) t.number → is_coming t ≡ false
    → t.number < length jobs
known_of jobs t is out = leb-false _ _ (sym is ∙ out)

-- some job has each number
member_at : (n k : ℕ) (tasks : List Task) → IsNumberedFrom n tasks → k < length tasks
    → (u : Task) × IsMember u tasks × (u.number ≡ n + k)
member_at n k [] all low = absurd (omega arith)
member_at n zero (t ∷ tasks) all low = (t, inl refl, all.0 ∙ omega arith)
member_at n (suc k) (t ∷ tasks) all low = let u = member_at (suc n) k tasks all.1 (omega arith) in
    (u.0, inr u.1, u.2 ∙ omega arith)

module _ (s : State) (sound : IsSound s) (st : Schedule) (it : Shows s st) where
  -- a job of a role but Coming is known
  pub role_known : (t : Task) → IsMember t s.tasks → (role : Role) → t.role ≡ role
      → is_coming (with_role t role) ≡ false → t.number < length st.jobs
  role_known t m role is out = known_of st.jobs t (it.known t m) (passes is_coming t role false is out)

  -- one of an open role may run
  pub may : (t : Task) → IsMember t s.tasks → (role : Role) → t.role ≡ role → is_coming (with_role t role) ≡ false
      → state_of role ≡ Open → may_run st.jobs t.number ≡ true
  may t m role is out still = let known = role_known t m role is out in
      ap (λ o. option_map_or is_open o false) (slice_get-get_or st.jobs t.number nobody known)
      ∙ ap is_open_state ((it.told t m known).state ∙ ap state_of is ∙ still)

  -- the runner, or none
  pub by_runner : ((r : Task) × IsMember r s.tasks × (r.role ≡ Running)) ⊎ NoneRuns s.tasks
  by_runner = by (running s) refl where
    by : (o : Option Task) → running s ≡ o → ((r : Task) × IsMember r s.tasks × (r.role ≡ Running)) ⊎ NoneRuns s.tasks
    by None none = inr (λ t m. fails is_running t Running refl (not_found is_running s.tasks none t m))
    by (Some r) some = let member = found is_running s.tasks r some in
        inl (r, member.0, is_running_role r member.1)

  -- it is in time
  pub runner_in_time : (r : Task) → IsMember r s.tasks → r.role ≡ Running → s.clock + left r ≤ r.job.deadline
  runner_in_time r m is = active_slack s sound r m (passes is_privileged r Running true is refl)

  -- it runs
  pub runs_it : (r : Task) → IsMember r s.tasks → r.role ≡ Running → runs st r.number ≡ true
  runs_it r m is = ap (λ o. option_map_or (λ turn. turn.number == r.number) o false) (it.busy r m is).is
      ∙ eq-eqb r.number r.number refl

  -- no tick cause
  pub on_tick : tick_cause st s.clock ≡ None
  on_tick = ap (λ b. cond b (Some cause.Order) (turn_cause st s.clock)) (le-ltb s.clock st.clock it.past)
      ∙ by by_runner where
        by : ((r : Task) × IsMember r s.tasks × (r.role ≡ Running)) ⊎ NoneRuns s.tasks → turn_cause st s.clock ≡ None
        by (inr none) = ap (λ o. option_map_or (λ turn. option_map_or (λ told. ran_cause told turn.from s.clock)
            (slice_get st.jobs turn.number) None) o None) (it.idle none)
        by (inl some) =
            let r : Task = some.0 in let m = some.1 in let is = some.2 in
            let since = it.busy r m is in
            let known = role_known r m Running is refl in
            let told : ToldJob = get_or st.jobs r.number nobody in
            ap (λ o. option_map_or (λ turn. option_map_or (λ told. ran_cause told turn.from s.clock)
            (slice_get st.jobs turn.number) None) o None) since.is
            ∙ ap (λ o. option_map_or (λ told. ran_cause told since.from s.clock) o None)
            (slice_get-get_or st.jobs r.number nobody known)
            ∙ ap (λ b. cond b (Some cause.Late) (cond (nat_lt told.left (s.clock - since.from)) (Some cause.Work) None))
            (le-ltb told.job.deadline s.clock (let due = runner_in_time r m is in
            let same = ap (λ (j : JobFacts). j.deadline) (it.told r m known).job in omega (arith, same)))
            ∙ ap (λ b. cond b (Some cause.Work) None)
            (le-ltb told.left (s.clock - since.from) (let same = since.left in omega arith))

  -- ---- the runner stops

  abbrev pub stopped_jobs : List ToldJob
  stopped_jobs = jobs_stopped st.jobs st.turn s.clock

  pub stopped_count : length stopped_jobs ≡ length st.jobs
  stopped_count = by st.turn where
    by : (o : Option Turn) → length (jobs_stopped st.jobs o s.clock) ≡ length st.jobs
    by None = refl
    by (Some t) = told_count (ran (s.clock - t.from)) st.jobs t.number

  pub stops : Stopped stopped_jobs s.tasks
  stops = by by_runner where
    by : ((r : Task) × IsMember r s.tasks × (r.role ≡ Running)) ⊎ NoneRuns s.tasks → Stopped stopped_jobs s.tasks
    by (inr none) = subst (λ o. Stopped (jobs_stopped st.jobs o s.clock) s.tasks) (sym (it.idle none))
        (record { told = it.told; left = λ t m low. it.rests t m low (none t m) })
    by (inl some) = subst (λ o. Stopped (jobs_stopped st.jobs o s.clock) s.tasks) (sym since.is)
        (record { told = told; left = rest }) where
          r : Task
          r = some.0

          m : IsMember r s.tasks
          m = some.1

          is : r.role ≡ Running
          is = some.2

          since : HasSince s.clock st.jobs st.turn r
          since = it.busy r m is

          known : r.number < length st.jobs
          known = role_known r m Running is refl

          f : ToldJob → ToldJob
          f = ran (s.clock - since.from)

          jobs : List ToldJob
          jobs = told_of f st.jobs r.number

          low_before : (n : ℕ) → n < length jobs → n < length st.jobs
          low_before n low = omega (arith, told_count f st.jobs r.number)

          told : AreTold jobs s.tasks
          told t mt low = by_same (eqb t.number r.number) refl where
            old : Tells t (get_or st.jobs t.number nobody)
            old = it.told t mt (low_before t.number low)

            by_same : (b : Bool) → eqb t.number r.number ≡ b → Tells t (get_or jobs t.number nobody)
            by_same true e = let same = eqb-true t.number r.number e in
                subst (Tells t) (sym (ap (λ n. get_or jobs n nobody) same ∙ told_same f st.jobs r.number known
                ∙ ap (λ n. f (get_or st.jobs n nobody)) (sym same)))
                (record { job = old.job; state = old.state })
            by_same false e = subst (Tells t) (sym (told_other f st.jobs r.number t.number (eqb-false _ _ e))) old

          rest : Each (λ t. t.number < length jobs → (get_or jobs t.number nobody).left ≡ left t) s.tasks
          rest t mt low = by_same (eqb t.number r.number) refl where
            by_same : (b : Bool) → eqb t.number r.number ≡ b → (get_or jobs t.number nobody).left ≡ left t
            by_same true e = let same = eqb-true t.number r.number e in
                let one : t ≡ r = one_number 0 s.tasks sound.numbered t r mt m same in
                let had = since.left in
                ap (λ n. (get_or jobs n nobody).left) same
                ∙ ap (λ (told : ToldJob). told.left) (told_same f st.jobs r.number known)
                ∙ omega (arith, ap left one)
            by_same false e = let other = eqb-false t.number r.number e in
                ap (λ (told : ToldJob). told.left) (told_other f st.jobs r.number t.number other)
                ∙ it.rests t mt (low_before t.number low)
                (λ runs. other (sound.one_runs t r mt m runs is))

  -- ---- a step that gives the processor to a job

  -- a job is known by its number
  same_job : (t o : Task) → IsMember t s.tasks → IsMember o s.tasks → eqb t.number o.number ≡ true → t ≡ o
  same_job t o mt mo e = one_number 0 s.tasks sound.numbered t o mt mo (eqb-true t.number o.number e)

  -- the job in its role after an event
  abbrev pub moved : Event → Task → Task
  moved e t = with_role t (role_after e t.number t.role)

  -- no job comes or ends, and this one runs alone
  pub record Turns (e : Event) (o : Task) : Type 0 where
    pub still : Each (λ t. state_of (role_after e t.number t.role) ≡ state_of t.role) s.tasks
    pub stays : Each (λ t. is_coming (moved e t) ≡ is_coming t) s.tasks
    pub only : Each (λ t. role_after e t.number t.role ≡ Running → t.number ≡ o.number) s.tasks
    pub runs : role_after e o.number o.role ≡ Running

  pub turned : (e : Event) (o : Task) → IsMember o s.tasks → o.number < length st.jobs → Turns e o
      → ShowsIn s.clock s.clock (map (moved e) s.tasks) stopped_jobs
      (Some (record { number = o.number; from = s.clock }))
  turned e o m low turns = record {
    past = omega arith;
    count = omega (arith, stopped_count, length-map s.tasks (moved e), it.count);
    known = on_map (moved e) (λ t. is_coming t ≡ nat_le (length stopped_jobs) t.number) s.tasks
        (λ t mt. turns.stays t mt ∙ it.known t mt ∙ ap (λ n. nat_le n t.number) (sym stopped_count));
    told = on_map (moved e)
        (λ t. t.number < length stopped_jobs → Tells t (get_or stopped_jobs t.number nobody)) s.tasks
        (λ t mt known. let old = stops.told t mt known in
        record { job = old.job; state = old.state ∙ sym (turns.still t mt) });
    rests = on_map (moved e) (λ t. t.number < length stopped_jobs → (t.role ≡ Running → ⊥)
        → (get_or stopped_jobs t.number nobody).left ≡ left t) s.tasks (λ t mt known rests. stops.left t mt known);
    busy = on_map (moved e) (λ t. t.role ≡ Running
        → HasSince s.clock stopped_jobs (Some (record { number = o.number; from = s.clock })) t) s.tasks
        (λ t mt runs. let same = turns.only t mt runs in record {
          from = s.clock;
          is = ap (λ n. let turn : Turn = record { number = n; from = s.clock } in Some turn) (sym same);
          past = omega arith;
          left = let all = stops.left t mt (omega (arith, stopped_count)) in omega (arith, all);
        });
    idle = λ none. absurd (none (moved e o) (map_member (moved e) s.tasks o m) turns.runs);
  }

  module _ (o : Task) (m : IsMember o s.tasks) (still : state_of o.role ≡ Open) (out : is_coming o ≡ false) where
    gets_still : (t : Task) → IsMember t s.tasks → (role : Role) → state_of role ≡ state_of t.role
        → state_of (cond (eqb t.number o.number) Running role) ≡ state_of t.role
    gets_still t mt role same = by (eqb t.number o.number) refl where
      by : (b : Bool) → eqb t.number o.number ≡ b → state_of (cond b Running role) ≡ state_of t.role
      by true e = sym (ap (λ (x : Task). state_of x.role) (same_job t o mt m e) ∙ still)
      by false e = same

    gets_stays : (t : Task) → IsMember t s.tasks → (role : Role) → is_coming (with_role t role) ≡ is_coming t
        → is_coming (with_role t (cond (eqb t.number o.number) Running role)) ≡ is_coming t
    gets_stays t mt role same = by (eqb t.number o.number) refl where
      by : (b : Bool) → eqb t.number o.number ≡ b → is_coming (with_role t (cond b Running role)) ≡ is_coming t
      by true e = sym (ap is_coming (same_job t o mt m e) ∙ out)
      by false e = same

    gets_only : (t : Task) (role : Role) → (eqb t.number o.number ≡ false → role ≡ Running → ⊥)
        → cond (eqb t.number o.number) Running role ≡ Running → t.number ≡ o.number
    gets_only t role other = by (eqb t.number o.number) refl where
      by : (b : Bool) → eqb t.number o.number ≡ b → cond b Running role ≡ Running → t.number ≡ o.number
      by true e runs = eqb-true t.number o.number e
      by false e runs = absurd (other e runs)

    pub run_turns : NoneRuns s.tasks → Turns (Run s.clock o.number) o
    run_turns none = record {
      still = λ t mt. gets_still t mt t.role refl;
      stays = λ t mt. gets_stays t mt t.role refl;
      only = λ t mt. gets_only t t.role (λ e runs. none t mt runs);
      runs = ap (λ b. cond b Running o.role) (eq-eqb o.number o.number refl);
    }

    module _ (r : Task) (mr : IsMember r s.tasks) (is : r.role ≡ Running) where
      pub preempt_turns : Turns (Preempt s.clock r.number o.number) o
      preempt_turns = record {
        still = λ t mt. gets_still t mt (cond (eqb t.number r.number) Held t.role) (held_still t mt);
        stays = λ t mt. gets_stays t mt (cond (eqb t.number r.number) Held t.role) (held_stays t mt);
        only = λ t mt. gets_only t (cond (eqb t.number r.number) Held t.role)
            (λ e runs. held_only t mt (eqb t.number r.number) refl runs);
        runs = ap (λ b. cond b Running (cond (eqb o.number r.number) Held o.role)) (eq-eqb o.number o.number refl);
      } where
        held_still : (t : Task) → IsMember t s.tasks
            → state_of (cond (eqb t.number r.number) Held t.role) ≡ state_of t.role
        held_still t mt = by (eqb t.number r.number) refl where
          by : (b : Bool) → eqb t.number r.number ≡ b → state_of (cond b Held t.role) ≡ state_of t.role
          by true e = sym (ap (λ (x : Task). state_of x.role) (same_job t r mt mr e) ∙ ap state_of is)
          by false e = refl

        held_stays : (t : Task) → IsMember t s.tasks
            → is_coming (with_role t (cond (eqb t.number r.number) Held t.role)) ≡ is_coming t
        held_stays t mt = by (eqb t.number r.number) refl where
          by : (b : Bool) → eqb t.number r.number ≡ b → is_coming (with_role t (cond b Held t.role)) ≡ is_coming t
          by true e = sym (ap is_coming (same_job t r mt mr e) ∙ passes is_coming r Running false is refl)
          by false e = refl

        held_only : (t : Task) → IsMember t s.tasks → (b : Bool) → eqb t.number r.number ≡ b
            → cond b Held t.role ≡ Running → ⊥
        held_only t mt true e runs = absurd (cc)
        held_only t mt false e runs = eqb-false t.number r.number e (sound.one_runs t r mt mr runs is)

      pub take_turns : Turns (Take s.clock r.number o.number) o
      take_turns = record {
        still = λ t mt. gets_still t mt (displaced t.role) (displaced_still t.role);
        stays = λ t mt. gets_stays t mt (displaced t.role) (displaced_stays t t.role);
        only = λ t mt. gets_only t (displaced t.role) (λ e runs. displaced_rests t.role runs);
        runs = ap (λ b. cond b Running (displaced o.role)) (eq-eqb o.number o.number refl);
      } where
        displaced_still : (role : Role) → state_of (displaced role) ≡ state_of role
        displaced_still Coming = refl
        displaced_still _ = refl

        displaced_stays : (t : Task) (role : Role)
            → is_coming (with_role t (displaced role)) ≡ is_coming (with_role t role)
        displaced_stays t Coming = refl
        displaced_stays t _ = refl

  -- ---- a step that ends a job

  -- the job of o in another role
  abbrev pub in_role : Task → Role → Task → Task
  in_role o role t = with_role t (cond (eqb t.number o.number) role t.role)

  -- told of, it keeps what is left
  left_stays : (state : JobState) (jobs : List ToldJob) (n k : ℕ) → n < length jobs
      → (get_or (told_of (settled state) jobs n) k nobody).left ≡ (get_or jobs k nobody).left
  left_stays state jobs n k low = by (eqb k n) refl where
    by : (b : Bool) → eqb k n ≡ b
        → (get_or (told_of (settled state) jobs n) k nobody).left ≡ (get_or jobs k nobody).left
    by true e = subst (λ i. (get_or (told_of (settled state) jobs n) i nobody).left ≡ (get_or jobs i nobody).left)
        (sym (eqb-true k n e)) (ap (λ (told : ToldJob). told.left) (told_same (settled state) jobs n low))
    by false e = ap (λ (told : ToldJob). told.left) (told_other (settled state) jobs n k (eqb-false k n e))

  module _ (o : Task) (m : IsMember o s.tasks) (out : is_coming o ≡ false) (role : Role)
      (over : is_coming (with_role o role) ≡ false) (jobs : List ToldJob) (told : AreTold jobs s.tasks)
      (low : o.number < length jobs) where
    ended_told : AreTold (told_of (settled (state_of role)) jobs o.number) (map (in_role o role) s.tasks)
    ended_told = on_map (in_role o role) (λ t. t.number < length (told_of (settled (state_of role)) jobs o.number)
        → Tells t (get_or (told_of (settled (state_of role)) jobs o.number) t.number nobody)) s.tasks
        (λ t mt known. by t mt (omega (arith, told_count (settled (state_of role)) jobs o.number))
        (eqb t.number o.number) refl) where
          by : (t : Task) → IsMember t s.tasks → t.number < length jobs → (b : Bool) → eqb t.number o.number ≡ b
              → Tells (with_role t (cond b role t.role))
              (get_or (told_of (settled (state_of role)) jobs o.number) t.number nobody)
          by t mt known true e = subst (Tells (with_role t role))
              (sym (ap (λ n. get_or (told_of (settled (state_of role)) jobs o.number) n nobody)
              (eqb-true t.number o.number e) ∙ told_same (settled (state_of role)) jobs o.number low
              ∙ ap (λ n. settled (state_of role) (get_or jobs n nobody)) (sym (eqb-true t.number o.number e))))
              (record { job = (told t mt known).job; state = refl })
          by t mt known false e = let old = told t mt known in subst (Tells (with_role t t.role))
              (sym (told_other (settled (state_of role)) jobs o.number t.number (eqb-false t.number o.number e)))
              (record { job = old.job; state = old.state })

    ended_stays : Each (λ t. is_coming (in_role o role t) ≡ is_coming t) s.tasks
    ended_stays t mt = by (eqb t.number o.number) refl where
      by : (b : Bool) → eqb t.number o.number ≡ b → is_coming (with_role t (cond b role t.role)) ≡ is_coming t
      by true e = over ∙ sym (ap is_coming (same_job t o mt m e) ∙ out)
      by false e = refl

  -- the runner is done
  pub completed_shows : (r : Task) → IsMember r s.tasks → r.role ≡ Running
      → ShowsIn s.clock s.clock (map (in_role r Done) s.tasks) (told_of (settled Completed) stopped_jobs r.number) None
  completed_shows r m is = record {
    past = omega arith;
    count = omega (
      arith,
      stopped_count,
      length-map s.tasks (in_role r Done),
      it.count,
      told_count (settled Completed) stopped_jobs r.number,
    );
    known = on_map (in_role r Done) (λ t. is_coming t
        ≡ nat_le (length (told_of (settled Completed) stopped_jobs r.number)) t.number) s.tasks
        (λ t mt. ended_stays r m out Done refl stopped_jobs stops.told low t mt ∙ it.known t mt
        ∙ ap (λ n. nat_le n t.number) (sym (told_count (settled Completed) stopped_jobs r.number ∙ stopped_count)));
    told = ended_told r m out Done refl stopped_jobs stops.told low;
    rests = on_map (in_role r Done) (λ t. t.number < length (told_of (settled Completed) stopped_jobs r.number)
        → (t.role ≡ Running → ⊥)
        → (get_or (told_of (settled Completed) stopped_jobs r.number) t.number nobody).left ≡ left t) s.tasks
        (λ t mt known rests. left_stays Completed stopped_jobs r.number t.number low
        ∙ stops.left t mt (omega (arith, told_count (settled Completed) stopped_jobs r.number)));
    busy = on_map (in_role r Done) (λ t. t.role ≡ Running
        → HasSince s.clock (told_of (settled Completed) stopped_jobs r.number) None t) s.tasks
        (λ t mt runs. absurd (none t mt (eqb t.number r.number) refl runs));
    idle = λ none. refl;
  } where
    out : is_coming r ≡ false
    out = passes is_coming r Running false is refl

    low : r.number < length stopped_jobs
    low = let known = role_known r m Running is refl in omega (arith, stopped_count)

    none : (t : Task) → IsMember t s.tasks → (b : Bool) → eqb t.number r.number ≡ b → cond b Done t.role ≡ Running → ⊥
    none t mt true e runs = absurd (cc)
    none t mt false e runs = eqb-false t.number r.number e (sound.one_runs t r mt m runs is)

  -- a waiting job is given up, while another one runs
  pub given_up_shows : (r x : Task) → IsMember r s.tasks → r.role ≡ Running → IsMember x s.tasks → x.role ≡ Waiting
      → ShowsIn s.clock s.clock (map (in_role x Gone) s.tasks) (told_of (settled Abandoned) st.jobs x.number) st.turn
  given_up_shows r x mr is m waits = record {
    past = omega arith;
    count = omega (
      arith,
      length-map s.tasks (in_role x Gone),
      it.count,
      told_count (settled Abandoned) st.jobs x.number,
    );
    known = on_map (in_role x Gone) (λ t. is_coming t
        ≡ nat_le (length (told_of (settled Abandoned) st.jobs x.number)) t.number) s.tasks
        (λ t mt. ended_stays x m out Gone refl st.jobs it.told low t mt ∙ it.known t mt
        ∙ ap (λ n. nat_le n t.number) (sym (told_count (settled Abandoned) st.jobs x.number)));
    told = ended_told x m out Gone refl st.jobs it.told low;
    rests = on_map (in_role x Gone) (λ t. t.number < length (told_of (settled Abandoned) st.jobs x.number)
        → (t.role ≡ Running → ⊥)
        → (get_or (told_of (settled Abandoned) st.jobs x.number) t.number nobody).left ≡ left t) s.tasks
        (λ t mt known rests. left_stays Abandoned st.jobs x.number t.number low
        ∙ it.rests t mt (omega (arith, told_count (settled Abandoned) st.jobs x.number))
        (still_rests t mt (eqb t.number x.number) refl rests));
    busy = on_map (in_role x Gone) (λ t. t.role ≡ Running
        → HasSince s.clock (told_of (settled Abandoned) st.jobs x.number) st.turn t) s.tasks
        (λ t mt runs. let old = it.busy t mt (still_runs t mt (eqb t.number x.number) refl runs) in record {
          from = old.from;
          is = old.is;
          past = old.past;
          left = left_stays Abandoned st.jobs x.number t.number low ∙ old.left;
        });
    idle = λ none. absurd (none (in_role x Gone r) (map_member (in_role x Gone) s.tasks r mr)
        (ap (λ b. cond b Gone r.role) (ne_eqb r.number x.number apart) ∙ is));
  } where
    out : is_coming x ≡ false
    out = passes is_coming x Waiting false waits refl

    low : x.number < length st.jobs
    low = role_known x m Waiting waits refl

    apart : r.number ≢ x.number
    apart same = absurd (let clash : Running ≡ Waiting = sym is
        ∙ ap (λ (t : Task). t.role) (one_number 0 s.tasks sound.numbered r x mr m same) ∙ waits in cc)

    still_runs : (t : Task) → IsMember t s.tasks → (b : Bool) → eqb t.number x.number ≡ b
        → cond b Gone t.role ≡ Running → t.role ≡ Running
    still_runs t mt true e runs = absurd (cc)
    still_runs t mt false e runs = runs

    still_rests : (t : Task) → IsMember t s.tasks → (b : Bool) → eqb t.number x.number ≡ b
        → (cond b Gone t.role ≡ Running → ⊥) → t.role ≡ Running → ⊥
    still_rests t mt true e rests runs = let clash : Running ≡ Waiting = sym runs
        ∙ ap (λ (y : Task). y.role) (same_job t x mt m e) ∙ waits in absurd (cc)
    still_rests t mt false e rests runs = rests runs

  -- ---- a job is released

  -- the first job to come has the next number
  pub next_number : (c : Task) → IsMember c s.tasks → c.role ≡ Coming
      → Each (λ t. t.role ≡ Coming → c.number ≤ t.number) s.tasks → c.number ≡ length st.jobs
  next_number c m comes least = by (nat_lt (length st.jobs) c.number) refl where
    low : length st.jobs ≤ c.number
    low = leb-true _ _ (sym (it.known c m) ∙ passes is_coming c Coming true comes refl)

    by : (b : Bool) → nat_lt (length st.jobs) c.number ≡ b → c.number ≡ length st.jobs
    by false e = let high : c.number ≤ length st.jobs = ltb-false _ _ e in omega (arith, low)
    by true e =
        let less : length st.jobs < c.number = ltb-true _ _ e in
        let few : c.number < 0 + length s.tasks = numbers_low 0 s.tasks sound.numbered c m in
        let u = member_at 0 (length st.jobs) s.tasks sound.numbered (omega arith) in
        let comes : is_coming u.0 ≡ true = it.known u.0 u.1 ∙ le-leb _ _ (let at = u.2 in omega arith) in
        let above : c.number ≤ u.0.number = least u.0 u.1 (is_coming_role u.0 comes) in
        absurd (let at = u.2 in omega arith)

  pub released_shows : (c : Task) → IsMember c s.tasks → c.role ≡ Coming → c.number ≡ length st.jobs
      → (last : ℕ) → last ≤ s.clock
      → ShowsIn s.clock last (map (in_role c Fresh) s.tasks) (st.jobs ++ fresh c.job ∷ []) st.turn
  released_shows c m comes number last past = record {
    past = past;
    count = let few : c.number < 0 + length s.tasks = numbers_low 0 s.tasks sound.numbered c m in
        omega (arith, more, length-map s.tasks (in_role c Fresh), it.count);
    known = on_map (in_role c Fresh) (λ t. is_coming t ≡ nat_le (length jobs) t.number) s.tasks
        (λ t mt. known t mt (eqb t.number c.number) refl);
    told = on_map (in_role c Fresh) (λ t. t.number < length jobs → Tells t (get_or jobs t.number nobody)) s.tasks
        (λ t mt low. told t mt low (eqb t.number c.number) refl);
    rests = on_map (in_role c Fresh) (λ t. t.number < length jobs → (t.role ≡ Running → ⊥)
        → (get_or jobs t.number nobody).left ≡ left t) s.tasks
        (λ t mt low rests. rested t mt low (eqb t.number c.number) refl rests);
    busy = on_map (in_role c Fresh) (λ t. t.role ≡ Running → HasSince s.clock jobs st.turn t) s.tasks
        (λ t mt runs. let running = still_runs t (eqb t.number c.number) runs in let old = it.busy t mt running in
        record {
          from = old.from;
          is = old.is;
          past = old.past;
          left = ap (λ (told : ToldJob). told.left) (get_or_append_left st.jobs (fresh c.job ∷ []) nobody t.number
              (role_known t mt Running running refl)) ∙ old.left;
        });
    idle = λ none. it.idle (λ t mt runs. none (in_role c Fresh t) (map_member (in_role c Fresh) s.tasks t mt)
        (ap (λ b. cond b Fresh t.role) (ne_eqb t.number c.number (λ same. absurd (let clash : Running ≡ Coming =
        sym runs ∙ ap (λ (y : Task). y.role) (one_number 0 s.tasks sound.numbered t c mt m same) ∙ comes in cc)))
        ∙ runs));
  } where
    jobs : List ToldJob
    jobs = st.jobs ++ fresh c.job ∷ []

    more : length jobs ≡ length st.jobs + 1
    more = length-append st.jobs (fresh c.job ∷ [])

    still_runs : (t : Task) → (b : Bool) → cond b Fresh t.role ≡ Running → t.role ≡ Running
    still_runs t true runs = absurd (cc)
    still_runs t false runs = runs

    known : (t : Task) → IsMember t s.tasks → (b : Bool) → eqb t.number c.number ≡ b
        → is_coming (with_role t (cond b Fresh t.role)) ≡ nat_le (length jobs) t.number
    known t mt true e = let same = eqb-true t.number c.number e in
        sym (lt-leb (length jobs) t.number (omega (arith, more)))
    known t mt false e = let other = eqb-false t.number c.number e in
        it.known t mt ∙ by other (nat_le (length st.jobs) t.number) refl where
          by : t.number ≢ c.number → (b : Bool) → nat_le (length st.jobs) t.number ≡ b
              → b ≡ nat_le (length jobs) t.number
          by other true f = let low : length st.jobs ≤ t.number = leb-true _ _ f in
              sym (le-leb (length jobs) t.number (omega (arith, more)))
          by other false f = let low : t.number < length st.jobs = leb-false _ _ f in
              sym (lt-leb (length jobs) t.number (omega (arith, more)))

    seam : (t : Task) → t.number ≡ c.number → get_or jobs t.number nobody ≡ fresh c.job
    seam t same = ap (λ n. get_or jobs n nobody) (same ∙ number) ∙ get_or-append_seam st.jobs (fresh c.job) [] nobody

    before : (t : Task) → t.number < length jobs → t.number ≢ c.number → t.number < length st.jobs
    before t low other = omega (arith, more)

    told : (t : Task) → IsMember t s.tasks → t.number < length jobs → (b : Bool) → eqb t.number c.number ≡ b
        → Tells (with_role t (cond b Fresh t.role)) (get_or jobs t.number nobody)
    told t mt low true e = subst (Tells (with_role t Fresh)) (sym (seam t (eqb-true t.number c.number e)))
        (record { job = sym (ap (λ (y : Task). y.job) (same_job t c mt m e)); state = refl })
    told t mt low false e = let known = before t low (eqb-false t.number c.number e) in let old = it.told t mt known in
        subst (Tells (with_role t t.role)) (sym (get_or_append_left st.jobs (fresh c.job ∷ []) nobody t.number known))
        (record { job = old.job; state = old.state })

    rested : (t : Task) → IsMember t s.tasks → t.number < length jobs → (b : Bool) → eqb t.number c.number ≡ b
        → (cond b Fresh t.role ≡ Running → ⊥) → (get_or jobs t.number nobody).left ≡ left t
    rested t mt low true e rests =
        let none : c.had ≡ 0 = (says s sound c m Coming comes).0 in
        let all : c.job.work ≡ left c = omega arith in
        ap (λ (told : ToldJob). told.left) (seam t (eqb-true t.number c.number e)) ∙ all
        ∙ sym (ap left (same_job t c mt m e))
    rested t mt low false e rests = let known = before t low (eqb-false t.number c.number e) in
        ap (λ (told : ToldJob). told.left) (get_or_append_left st.jobs (fresh c.job ∷ []) nobody t.number known)
        ∙ it.rests t mt known rests

  -- ---- silent steps

  -- a tick
  pub ticked_shows : Each (λ t. t.role ≡ Running → 1 ≤ left t) s.tasks
      → ShowsIn (s.clock + 1) st.clock (map ticked s.tasks) st.jobs st.turn
  ticked_shows some = record {
    past = let past = it.past in omega arith;
    count = omega (arith, length-map s.tasks ticked, it.count);
    known = on_map ticked (λ t. is_coming t ≡ nat_le (length st.jobs) t.number) s.tasks (λ t mt. it.known t mt);
    told = on_map ticked (λ t. t.number < length st.jobs → Tells t (get_or st.jobs t.number nobody)) s.tasks
        (λ t mt low. let old = it.told t mt low in record { job = old.job; state = old.state });
    rests = on_map ticked (λ t. t.number < length st.jobs → (t.role ≡ Running → ⊥)
        → (get_or st.jobs t.number nobody).left ≡ left t) s.tasks
        (λ t mt low rests. it.rests t mt low rests ∙ sym (rested t (is_running t) refl rests));
    busy = on_map ticked (λ t. t.role ≡ Running → HasSince (s.clock + 1) st.jobs st.turn t) s.tasks
        (λ t mt runs. let old = it.busy t mt runs in let past = old.past in record {
          from = old.from;
          is = old.is;
          past = omega arith;
          left = let had = old.left in let less = drops t (some t mt runs) (is_running t)
              (passes is_running t Running true runs refl) in omega (arith, had, less);
        });
    idle = λ none. it.idle (λ t mt runs. none (ticked t) (map_member ticked s.tasks t mt) runs);
  } where
    rested : (t : Task) (b : Bool) → is_running t ≡ b → (t.role ≡ Running → ⊥)
        → t.job.work - cond b (t.had + 1) t.had ≡ left t
    rested t true e rests = absurd (rests (is_running_role t e))
    rested t false e rests = refl

    drops : (t : Task) → 1 ≤ left t → (b : Bool) → b ≡ true → (t.job.work - cond b (t.had + 1) t.had) + 1 ≡ left t
    drops t some true e = omega arith
    drops t some false e = never e

  -- a fresh job waits
  pub waited_shows : (f : Task) → IsMember f s.tasks → f.role ≡ Fresh
      → ShowsIn s.clock st.clock (map (in_role f Waiting) s.tasks) st.jobs st.turn
  waited_shows f m is = record {
    past = it.past;
    count = omega (arith, length-map s.tasks (in_role f Waiting), it.count);
    known = on_map (in_role f Waiting) (λ t. is_coming t ≡ nat_le (length st.jobs) t.number) s.tasks
        (λ t mt. ended_stays f m out Waiting refl st.jobs it.told low t mt ∙ it.known t mt);
    told = on_map (in_role f Waiting)
        (λ t. t.number < length st.jobs → Tells t (get_or st.jobs t.number nobody)) s.tasks
        (λ t mt known. let old = it.told t mt known in
        record { job = old.job; state = old.state ∙ sym (still t mt (eqb t.number f.number) refl) });
    rests = on_map (in_role f Waiting) (λ t. t.number < length st.jobs → (t.role ≡ Running → ⊥)
        → (get_or st.jobs t.number nobody).left ≡ left t) s.tasks
        (λ t mt known rests. it.rests t mt known (still_rests t mt (eqb t.number f.number) refl rests));
    busy = on_map (in_role f Waiting) (λ t. t.role ≡ Running → HasSince s.clock st.jobs st.turn t) s.tasks
        (λ t mt runs. let old = it.busy t mt (still_runs t (eqb t.number f.number) runs) in
        record { from = old.from; is = old.is; past = old.past; left = old.left });
    idle = λ none. it.idle (λ t mt runs. none (in_role f Waiting t) (map_member (in_role f Waiting) s.tasks t mt)
        (ap (λ b. cond b Waiting t.role) (ne_eqb t.number f.number (λ same. absurd (let clash : Running ≡ Fresh =
        sym runs ∙ ap (λ (y : Task). y.role) (one_number 0 s.tasks sound.numbered t f mt m same) ∙ is in cc)))
        ∙ runs));
  } where
    out : is_coming f ≡ false
    out = passes is_coming f Fresh false is refl

    low : f.number < length st.jobs
    low = role_known f m Fresh is refl

    still : (t : Task) → IsMember t s.tasks → (b : Bool) → eqb t.number f.number ≡ b
        → state_of (cond b Waiting t.role) ≡ state_of t.role
    still t mt true e = sym (ap (λ (x : Task). state_of x.role) (same_job t f mt m e) ∙ ap state_of is)
    still t mt false e = refl

    still_runs : (t : Task) → (b : Bool) → cond b Waiting t.role ≡ Running → t.role ≡ Running
    still_runs t true runs = absurd (cc)
    still_runs t false runs = runs

    still_rests : (t : Task) → IsMember t s.tasks → (b : Bool) → eqb t.number f.number ≡ b
        → (cond b Waiting t.role ≡ Running → ⊥) → t.role ≡ Running → ⊥
    still_rests t mt true e rests runs = let clash : Running ≡ Fresh = sym runs
        ∙ ap (λ (y : Task). y.role) (same_job t f mt m e) ∙ is in absurd (cc)
    still_rests t mt false e rests runs = rests runs
