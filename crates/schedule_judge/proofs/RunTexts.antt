-- The printed steps of a run, behind the first line of a schedule, are the text of a legal schedule.
use Rattle.std.proofs.Common.{◌≡◌, ◌≢◌, ◌≤◌, ◌<◌, ◌+◌, ◌-◌, ◌⊎◌, inl, inr, ℕ, suc, List, ◌∷◌, ◌++◌, [], length, map}
use Rattle.std.proofs.Common.{refl}
use Rattle.std.proofs.Common.{sym, ap, ◌∙◌, subst, Bool, true, false, not, cond, Some, None, MatchBool, arith}
use Rattle.std.proofs.Common.{nat_le}
use Rattle.std.proofs.Common.{◌==◌, eqb, get_or, slice_get, le-leb, le-ltb, eq-eqb, ne_eqb, sum_by, fold, codes}
use Rattle.std.proofs.Common.{bytes_eq, nat_lt, ◌&&◌, append_assoc}
use Rattle.std.proofs.Common.{append-nil, length-append, filter}
use Rattle.std.specs.Bool.{then_some}
use Rattle.std.specs.List.{AllByRecursion, list_all, cons_option}
use Rattle.std.specs.Option.{option_or, option_map_or}
use Rattle.std.proofs.lemmas.Bool.{lt-leb}
use Rattle.std.proofs.lemmas.List.Sums.{sum_by-cons}
use Rattle.std.proofs.lemmas.Option.{slice_get-get_or}
use Rattle.std.proofs.Math.Seq.{get_or-append_seam}
use Rattle.dover_model.specs.JobFacts.{JobFacts}
use Rattle.dover_model.specs.declared.events.Event.{Event}
use Rattle.dover_model.specs.declared.events.Event.TheVariants.{Release, Run, Preempt, Take, Complete, Abandon, End}
use Rattle.dover_model.specs.declared.events.Role.{Role}
use Rattle.dover_model.specs.declared.events.Role.TheVariants.{Coming, Fresh, Waiting, Held, Running, Done, Gone}
use Rattle.dover_model.specs.declared.events.Task.{Task}
use Rattle.dover_model.specs.declared.events.Version.TheVariants.{Two}
use Rattle.dover_model.specs.Instance.{IsListable}
use Rattle.dover_model.specs.Trace as lines
use Rattle.dover_model.specs.Common.{Instance, IsValid, State, opening, is_coming, is_over, is_done, left}
use Rattle.dover_model.specs.Common.{value_sum, Move, Prints, Waits, Ticks, step, after, ending}
use Rattle.dover_model.specs.Common.{◌or_else◌}
use Rattle.dover_model.specs.Common.{with_role, Step, is_end, run, printed, printed_of, event_of, IsWholeRun}
use Rattle.dover_model.specs.Common.{IsMember, Each, NoneRuns, IsNumberedFrom, Keeps, text_of, step_numbers, fields_of}
use Rattle.dover_model.specs.Common.{in_lines}
use Rattle.dover_model.specs.Common.{lines_of, is_too_long, most_lines, most_jobs}
use Rattle.dover_model.proofs.finishes.Needing.{AllServed, step_served, opening_served}
use Rattle.dover_model.proofs.finishes.Readiness.{IsReady, step_ready, opening_ready}
use Rattle.dover_model.proofs.lists.Members.{map_member, all_each, sum_filter}
use Rattle.dover_model.proofs.lists.Tests.{never}
use Rattle.dover_model.proofs.runs.Ending.{run_is_whole, due_by}
use Rattle.dover_model.proofs.runs.Honest.{numbers_low, count_jobs}
use Rattle.dover_model.proofs.steps.Deeds.{Deed, Completed, Resumed, Started, Began, Preempted, Stayed, Arrived, Taken}
use Rattle.dover_model.proofs.steps.Deeds.{Abandoned, Rested}
use Rattle.dover_model.proofs.steps.Kept.{step_deed, step_kept, opening_keeps, come_coming}
use Rattle.dover_model.proofs.steps.Moves.{says}
use Rattle.dover_model.proofs.steps.Roles.{one_number, passes, is_over_role}
use Rattle.dover_model.proofs.steps.Ticking.{Quiet}
use Rattle.dover_model.proofs.texts.Cuts.{CutText, HasNoFeed, cut_in_lines}
use Rattle.dover_model.proofs.texts.Fields.{length-with_numbers}
use Rattle.dover_model.proofs.texts.NoFeeds.{feedless_text}
use Rattle.line_text.specs.declared.traces.lines.TraceLine.TheVariants as line
use Rattle.line_text.specs.traces.Form.{HasForm}
use Rattle.line_text.specs.traces.Reading.{line_of_fields}
use Rattle.line_text.proofs.traces.Named.{HaveForm, printed_form}
use Rattle.line_text.proofs.traces.Spelled.{text_read}
use Rattle.schedule_judge.specs.declared.causes.Cause.TheVariants as cause
use Rattle.schedule_judge.specs.declared.intake.Standing.TheVariants as standing
use Rattle.schedule_judge.specs.declared.jobs.JobState.TheVariants as state
use Rattle.schedule_judge.specs.declared.jobs.ToldJob.{ToldJob}
use Rattle.schedule_judge.specs.Jobs.{nobody, settled, told_of, may_run, value_by, value_done, is_open_state}
use Rattle.schedule_judge.specs.Jobs as jobs
use Rattle.schedule_judge.specs.Legal as legal
use Rattle.schedule_judge.specs.Legal.{Schedule, unless, tick_cause, runs, is_idle, is_served, run_cause, switch_cause}
use Rattle.schedule_judge.specs.Legal.{complete_cause, is_past, abandon_cause, cause_of}
use Rattle.schedule_judge.specs.Legal.{stopped}
use Rattle.schedule_judge.specs.Account.{Account, is_due_in_two, step_of_read, step_in, is_too_many, standing_after}
use Rattle.schedule_judge.specs.Account.{no_lines, goes_on, next_line, account, with_step, standing_so}
use Rattle.schedule_judge.proofs.Accounts.{after_line}
use Rattle.schedule_judge.proofs.Simulating.{state_of, Tells, HasSince, ShowsIn, Shows, on_tick, may}
use Rattle.schedule_judge.proofs.Simulating.{role_known}
use Rattle.schedule_judge.proofs.Simulating.{runs_it, turned, run_turns}
use Rattle.schedule_judge.proofs.Simulating.{preempt_turns}
use Rattle.schedule_judge.proofs.Simulating.{take_turns, completed_shows, given_up_shows, next_number, released_shows}
use Rattle.schedule_judge.proofs.Simulating.{ticked_shows, waited_shows}

-- ---- which step may come

-- the step may come next
record CanCome (st : Schedule) (e : Event) : Type 0 where
  few : is_too_many st e ≡ false
  none : cause_of st e ≡ None
  due : is_due_in_two e ≡ true

-- it may, and the schedule with it tells of the state behind it, if it isn't the last; so does the same schedule
-- behind a silent step
abbrev Next : State → Schedule → Move → Type 0
Next s st (Prints e) = CanCome st e × (is_end (Prints e) ≡ false → Shows (after s (Prints e)) (legal.after st e))
Next s st m = Shows (after s m) st

module _ (J : Instance) (valid : IsValid J) (listable : IsListable J) (s : State) (keeps : Keeps J s) (st : Schedule)
    (it : Shows s st) where
  ticks : tick_cause st s.clock ≡ None
  ticks = on_tick s keeps.sound st it

  -- two numbers of jobs in different roles differ
  apart : (t u : Task) → IsMember t s.tasks → IsMember u s.tasks → (t ≡ u → ⊥) → t.number ≢ u.number
  apart t u mt mu differ same = differ (one_number 0 s.tasks keeps.sound.numbered t u mt mu same)

  -- a job runs
  starts : (o : Task) → IsMember o s.tasks → (role : Role) → o.role ≡ role → is_coming (with_role o role) ≡ false
      → state_of role ≡ state.Open → NoneRuns s.tasks → Next s st (Prints (Run s.clock o.number))
  starts o m role is out still none = (
    record {
      few = refl;
      none = ap (λ x. option_or x (run_cause st o.number)) ticks
          ∙ ap (λ b. option_or (unless b cause.Busy) (unless (may_run st.jobs o.number) cause.Job)) idle
          ∙ ap (λ b. unless b cause.Job) (may s keeps.sound st it o m role is out still);
      due = refl;
    },
    λ on. turned s keeps.sound st it (Run s.clock o.number) o m (role_known s keeps.sound st it o m role is out)
        (run_turns s keeps.sound st it o m (ap state_of is ∙ still) (passes is_coming o role false is out) none),
  ) where
    idle : is_idle st ≡ true
    idle = ap (λ x. option_map_or (λ turn. false) x true) (it.idle none)

  -- a job takes the processor from another one
  switches : (r o : Task) → IsMember r s.tasks → r.role ≡ Running → IsMember o s.tasks → (role : Role) → o.role ≡ role
      → is_coming (with_role o role) ≡ false → state_of role ≡ state.Open → (Running ≡ role → ⊥)
      → option_or (tick_cause st s.clock) (switch_cause st r.number o.number) ≡ None
  switches r o mr is m role o_is out still differ =
      ap (λ x. option_or x (switch_cause st r.number o.number)) ticks
      ∙ ap (λ b. option_or (unless b cause.Turn) (option_or (unless (may_run st.jobs o.number) cause.Job)
      (unless (not (r.number == o.number)) cause.Job))) (runs_it s keeps.sound st it r mr is)
      ∙ ap (λ b. option_or (unless b cause.Job) (unless (not (r.number == o.number)) cause.Job))
      (may s keeps.sound st it o m role o_is out still)
      ∙ ap (λ b. unless (not b) cause.Job) (ne_eqb r.number o.number
      (apart r o mr m (λ same. differ (sym is ∙ ap (λ (t : Task). t.role) same ∙ o_is))))

  -- the runner is done
  completes : (r : Task) → IsMember r s.tasks → r.role ≡ Running → left r ≡ 0
      → Next s st (Prints (Complete s.clock r.number))
  completes r m is all = (
    record {
      few = refl;
      none = ap (λ x. option_or x (complete_cause st s.clock r.number)) ticks
          ∙ ap (λ b. option_or (unless b cause.Turn) (unless (is_served st s.clock r.number) cause.Early))
          (runs_it s keeps.sound st it r m is)
          ∙ ap (λ b. unless b cause.Early) served;
      due = refl;
    },
    λ on. completed_shows s keeps.sound st it r m is,
  ) where
    since : HasSince s.clock st.jobs st.turn r
    since = it.busy r m is

    served : is_served st s.clock r.number ≡ true
    served = ap (λ x. option_map_or (λ turn. option_map_or (λ told. nat_le told.left (s.clock - turn.from))
        (slice_get st.jobs r.number) false) x false) since.is
        ∙ ap (λ x. option_map_or (λ told. nat_le told.left (s.clock - since.from)) x false)
        (slice_get-get_or st.jobs r.number nobody (role_known s keeps.sound st it r m Running is refl))
        ∙ le-leb _ _ (let had = since.left in omega (arith, had, all))

  -- a waiting job is given up
  gives_up : (r x : Task) → IsMember r s.tasks → r.role ≡ Running → IsMember x s.tasks → x.role ≡ Waiting
      → Next s st (Prints (Abandon s.clock x.number))
  gives_up r x mr is m waits = (
    record {
      few = refl;
      none = ap (λ y. option_or y (abandon_cause st s.clock x.number)) ticks
          ∙ ap (λ b. option_or (unless (not b) cause.Late) (unless (may_run st.jobs x.number) cause.Job)) in_time
          ∙ ap (λ b. unless b cause.Job) (may s keeps.sound st it x m Waiting waits refl refl);
      due = refl;
    },
    λ on. subst (λ b. ShowsIn s.clock s.clock (after s (Prints (Abandon s.clock x.number))).tasks
        (told_of (settled state.Abandoned) (cond b (stopped more s.clock) more).jobs x.number)
        (cond b (stopped more s.clock) more).turn) (sym other)
        (given_up_shows s keeps.sound st it r x mr is m waits),
  ) where
    more : Schedule
    more = record st { steps = st.steps ++ Abandon s.clock x.number ∷ [] }

    other : runs more x.number ≡ false
    other = ap (λ y. option_map_or (λ turn. turn.number == x.number) y false) (it.busy r mr is).is
        ∙ ne_eqb r.number x.number (apart r x mr m (λ same. absurd (let clash : Running ≡ Waiting =
        sym is ∙ ap (λ (t : Task). t.role) same ∙ waits in cc)))

    known : x.number < length st.jobs
    known = role_known s keeps.sound st it x m Waiting waits refl

    in_time : is_past st.jobs s.clock x.number ≡ false
    in_time = ap (λ y. option_map_or (λ told. nat_lt told.job.deadline s.clock) y false)
        (slice_get-get_or st.jobs x.number nobody known)
        ∙ le-ltb _ _ (let fits = (says s keeps.sound x m Waiting waits).2 in
        let same = ap (λ (j : JobFacts). j.deadline) (it.told x m known).job in omega (arith, same))

  -- a job is released
  releases : (c : Task) → IsMember c s.tasks → c.role ≡ Coming → c.job.release ≡ s.clock
      → Each (λ t. t.role ≡ Coming → c.number ≤ t.number) s.tasks → Next s st (Prints (Release c.number c.job))
  releases c m comes now least = (
    record {
      few = lt-leb (most_jobs Two) (length st.jobs) (let high : c.number < 0 + length s.tasks =
          numbers_low 0 s.tasks keeps.sound.numbered c m in
          omega (arith, number, count_jobs s.tasks, ap length keeps.jobs, listable.count));
      none = ap (λ x. option_or x (unless (c.number == length st.jobs) cause.Number))
          (ap (tick_cause st) now ∙ ticks)
          ∙ ap (λ b. unless b cause.Number) (eq-eqb c.number (length st.jobs) number);
      due = le-leb _ _ (let due : c.job.deadline ≤ _ = due_by J valid s keeps c m in omega (arith, listable.due));
    },
    λ on. released_shows s keeps.sound st it c m comes number c.job.release (omega (arith, now)),
  ) where
    number : c.number ≡ length st.jobs
    number = next_number s keeps.sound st it c m comes least

  -- ---- the end

  -- what the jobs behind so many others tell, where all are over
  ends_all : (front rest : List ToldJob) (tasks : List Task) → IsNumberedFrom (length front) tasks
      → length rest ≡ length tasks → Each (λ t. Tells t (get_or (front ++ rest) t.number nobody)) tasks
      → Each (λ t. is_over t ≡ true) tasks
      → (list_all jobs.is_over rest ≡ true)
      × (sum_by value_done rest ≡ sum_by (λ t. cond (is_done t) t.job.value 0) tasks)
  ends_all front [] [] numbered same told over = (refl, refl)
  ends_all front [] (t ∷ tasks) numbered same told over = absurd (omega arith)
  ends_all front (j ∷ rest) [] numbered same told over = absurd (omega arith)
  ends_all front (j ∷ rest) (t ∷ tasks) numbered same told over =
      let first : Tells t j = subst (Tells t) (ap (λ n. get_or (front ++ j ∷ rest) n nobody) numbered.0
      ∙ get_or-append_seam front j rest nobody) (told t (inl refl)) in
      let more = ends_all (front ++ j ∷ []) rest tasks
      (subst (λ n. IsNumberedFrom n tasks) (omega (arith, length-append front (j ∷ []))) numbered.1) (omega arith)
      (λ u mu. subst (λ xs. Tells u (get_or xs u.number nobody)) (sym (append_assoc front (j ∷ []) rest))
      (told u (inr mu))) (λ u mu. over u (inr mu)) in
      let here = by_role (is_over_role t (over t (inl refl))) first in (
        ap (λ b. b && list_all jobs.is_over rest) here.0 ∙ more.0,
        omega (
          arith,
          sum_by-cons value_done j rest,
          sum_by-cons (λ t. cond (is_done t) t.job.value 0) t tasks,
          here.1,
          more.1,
        ),
      ) where
        by_role : (t.role ≡ Done) ⊎ (t.role ≡ Gone) → Tells t j
            → (jobs.is_over j ≡ true) × (value_done j ≡ cond (is_done t) t.job.value 0)
        by_role (inl e) tells = (
          ap (λ x. not (is_open_state x)) (tells.state ∙ ap state_of e),
          ap (λ x. value_by x j.job.value) (tells.state ∙ ap state_of e)
              ∙ ap (λ (k : JobFacts). k.value) tells.job
              ∙ ap (λ b. cond b t.job.value 0) (sym (passes is_done t Done true e refl)),
        )
        by_role (inr e) tells = (
          ap (λ x. not (is_open_state x)) (tells.state ∙ ap state_of e),
          ap (λ x. value_by x j.job.value) (tells.state ∙ ap state_of e)
              ∙ ap (λ b. cond b t.job.value 0) (sym (passes is_done t Gone false e refl)),
        )

  -- a job that is over is known
  over_known : Each (λ t. is_over t ≡ true) s.tasks → Each (λ t. t.number < length st.jobs) s.tasks
  over_known over t m = by (is_over_role t (over t m)) where
    by : (t.role ≡ Done) ⊎ (t.role ≡ Gone) → t.number < length st.jobs
    by (inl e) = role_known s keeps.sound st it t m Done e refl
    by (inr e) = role_known s keeps.sound st it t m Gone e refl

  -- so all are
  all_known : (n : ℕ) (tasks : List Task) → IsNumberedFrom n tasks → Each (λ t. t.number < length st.jobs) tasks
      → (length tasks ≡ 0) ⊎ (n + length tasks ≤ length st.jobs)
  all_known n [] numbered low = inl refl
  all_known n (t ∷ tasks) numbered low = inr (by (all_known (suc n) tasks numbered.1 (λ u mu. low u (inr mu)))) where
    by : (length tasks ≡ 0) ⊎ (suc n + length tasks ≤ length st.jobs) → n + length (t ∷ tasks) ≤ length st.jobs
    by (inl none) = let first : t.number < length st.jobs = low t (inl refl) in
        let number : t.number ≡ n = numbered.0 in omega arith
    by (inr more) = omega arith

  ends : Each (λ t. is_over t ≡ true) s.tasks → CanCome st (End (value_sum (filter is_done s.tasks)))
  ends over = record {
    few = refl;
    none = ap (λ b. option_or (unless b cause.Open)
        (unless (sum_by value_done st.jobs == value_sum (filter is_done s.tasks)) cause.Value)) all.0
        ∙ ap (λ b. unless b cause.Value) (eq-eqb _ _ (all.1 ∙ sym (sum_filter is_done (λ t. t.job.value) s.tasks)));
    due = refl;
  } where
    same : length st.jobs ≡ length s.tasks
    same = by (all_known 0 s.tasks keeps.sound.numbered (over_known over)) where
      by : (length s.tasks ≡ 0) ⊎ (0 + length s.tasks ≤ length st.jobs) → length st.jobs ≡ length s.tasks
      by (inl none) = let count = it.count in omega arith
      by (inr most) = let count = it.count in omega arith

    all : (list_all jobs.is_over st.jobs ≡ true)
        × (sum_by value_done st.jobs ≡ sum_by (λ t. cond (is_done t) t.job.value 0) s.tasks)
    all = ends_all [] st.jobs s.tasks keeps.sound.numbered same (λ t m. it.told t m (over_known over t m)) over

  -- ---- each step

  deed_next : (rules_step : Move) → (other : Move) → (Quiet s → Next s st other)
      → ((r : Task) → IsMember r s.tasks → r.role ≡ Running → rules_step ≡ Prints (Complete s.clock r.number)
      → left r ≡ 0)
      → (m : Move) → rules_step ≡ m → Deed J.rules.ratio s other m → Next s st m
  deed_next taken other rests all m same (Completed r member runs) =
      completes r member runs (all r member runs same)
  deed_next taken other rests all m same (Resumed p member held none least why) =
      starts p member Held held refl refl none
  deed_next taken other rests all m same (Started o member waiting none first fits next) =
      starts o member Waiting waiting refl refl none
  deed_next taken other rests all m same (Began f member fresh none free) = starts f member Fresh fresh refl refl none
  deed_next taken other rests all m same (Preempted r f member runs some f_member fresh before fits) = (
    record {
      few = refl;
      none = switches r f member runs f_member Fresh fresh refl refl (λ e. absurd (cc));
      due = refl;
    },
    λ on. turned s keeps.sound st it (Preempt s.clock r.number f.number) f f_member
        (role_known s keeps.sound st it f f_member Fresh fresh refl)
        (preempt_turns s keeps.sound st it f f_member (ap state_of fresh) (passes is_coming f Fresh false fresh refl) r
        member runs),
  )
  deed_next taken other rests all m same (Stayed r f member runs some f_member fresh why) =
      waited_shows s keeps.sound st it f f_member fresh
  deed_next taken other rests all m same (Arrived c member comes now least stale busy free) =
      releases c member comes now least
  deed_next taken other rests all m same (Taken r x member runs some x_member waiting now stale heavy) = (
    record {
      few = refl;
      none = switches r x member runs x_member Waiting waiting refl refl (λ e. absurd (cc));
      due = refl;
    },
    λ on. turned s keeps.sound st it (Take s.clock r.number x.number) x x_member
        (role_known s keeps.sound st it x x_member Waiting waiting refl)
        (take_turns s keeps.sound st it x x_member (ap state_of waiting)
        (passes is_coming x Waiting false waiting refl) r member runs),
  )
  deed_next taken other rests all m same (Abandoned r x member runs some x_member waiting now stale light) =
      gives_up r x member runs x_member waiting
  deed_next taken other rests all m same (Rested quiet) = rests quiet

  -- where no job finishes early
  step_next : J.rules.finishes ≡ [] → IsReady J.rules.finishes s → AllServed J.rules.finishes s
      → Next s st (step J.rules s)
  step_next bare ready served = deed_next (step J.rules s) (ending s or_else Ticks)
      (λ quiet. by_over quiet (list_all is_over s.tasks) refl) all_had (step J.rules s) refl
      (step_deed J valid s keeps J.rules) where
        by_over : Quiet s → (b : Bool) → list_all is_over s.tasks ≡ b
            → Next s st (then_some b (Prints (End (value_sum (filter is_done s.tasks)))) or_else Ticks)
        by_over quiet true e = (ends (all_each is_over s.tasks e), λ on. never (sym on))
        by_over quiet false e = ticked_shows s keeps.sound st it quiet.busy

        all_had : (r : Task) → IsMember r s.tasks → r.role ≡ Running
            → step J.rules s ≡ Prints (Complete s.clock r.number) → left r ≡ 0
        all_had r m is e =
            let behind : AllServed [] (after s (Prints (Complete s.clock r.number))) =
            subst (λ fs. AllServed fs (after s (Prints (Complete s.clock r.number)))) bare
            (subst (λ m. AllServed J.rules.finishes (after s m)) e
            (step_served J valid s keeps J.rules ready served)) in
            let f : Task → Task = λ t. with_role t (cond (eqb t.number r.number) Done t.role) in
            let had : r.had ≡ r.job.work = (behind (f r) (map_member f s.tasks r m)).done
            (ap (λ b. cond b Done r.role) (eq-eqb r.number r.number refl)) in omega arith

-- ---- the text

-- the text of a step is no longer than a line may be
text_brief : (e : Event) → HasForm (line.Step e) → is_too_long (text_of e) ≡ false
text_brief e form = le-ltb 128 (length (text_of e)) (by e form) where
  by : (e : Event) → HasForm (line.Step e) → length (text_of e) ≤ 128
  by (Release n j) form = omega (arith, length-with_numbers (codes "job") (step_numbers (Release n j)) form.0)
  by (Run at n) form = omega (arith, length-with_numbers (codes "run") (at ∷ n ∷ []) form.0)
  by (Preempt at a b) form = omega (arith, length-with_numbers (codes "preempt") (at ∷ a ∷ b ∷ []) form.0)
  by (Take at a b) form = omega (arith, length-with_numbers (codes "take") (at ∷ a ∷ b ∷ []) form.0)
  by (Complete at n) form = omega (arith, length-with_numbers (codes "complete") (at ∷ n ∷ []) form.0)
  by (Abandon at n) form = omega (arith, length-with_numbers (codes "abandon") (at ∷ n ∷ []) form.0)
  by (End value) form = omega (arith, length-with_numbers (codes "end") (value ∷ []) form.0)

-- it is read as the step
step_back : (e : Event) → HasForm (line.Step e) → is_due_in_two e ≡ true → step_in (text_of e) ≡ Some e
step_back e form due =
    ap (λ b. cond b None (step_of_read (line_of_fields (fields_of (text_of e))))) (text_brief e form)
    ∙ ap step_of_read (text_read (line.Step e) form) ∙ ap (λ b. cond b (Some e) None) due

-- an account that goes on, behind the first line, takes it
takes : (a : Account) (e : Event) → a.standing ≡ standing.Open → 1 ≤ a.lines → a.lines < most_lines Two
    → HasForm (line.Step e) → CanCome a.schedule e
    → next_line a (text_of e)
    ≡ record { lines = suc a.lines; schedule = legal.after a.schedule e; standing = standing_after e }
takes a e opened some few form can =
    ap (λ x. cond (goes_on x) (cond (nat_le (most_lines Two) a.lines)
    (standing_so a standing.TooMany) (after_line counted_a (suc a.lines == 1) header (step_in (text_of e)))) a) opened
    ∙ ap (λ b. cond b (standing_so a standing.TooMany) (after_line counted_a (suc a.lines == 1) header
    (step_in (text_of e)))) (lt-leb (most_lines Two) a.lines few)
    ∙ ap (λ b. after_line counted_a b header (step_in (text_of e))) (ne_eqb (suc a.lines) 1 (λ one. omega arith))
    ∙ ap (after_line counted_a false header) (step_back e form can.due)
    ∙ ap (λ b. cond b (standing_so counted_a standing.TooMany) (with_step counted_a e (cause_of a.schedule e))) can.few
    ∙ ap (with_step counted_a e) can.none where
      counted_a : Account
      counted_a = record a { lines = suc a.lines }

      header : Bool
      header = bytes_eq (text_of e) (codes "schedule")

-- how the text stands behind a step
ended_by : (e : Event) → is_end (Prints e) ≡ true → standing_after e ≡ standing.Ended
ended_by (End value) last = refl
ended_by _ last = never last

open_by : (e : Event) → is_end (Prints e) ≡ false → standing_after e ≡ standing.Open
open_by (End value) on = never (sym on)
open_by _ on = refl

module _ (J : Instance) (valid : IsValid J) (listable : IsListable J) (bare : J.rules.finishes ≡ []) where
  -- what the rest of a run goes on with
  abbrev GoesOn : List Step → State → Type 0
  GoesOn xs t = (b : Account) → Shows t b.schedule → b.standing ≡ standing.Open → 1 ≤ b.lines
      → b.lines + length (printed_of xs) ≤ most_lines Two → HaveForm (printed_of xs) → IsWholeRun J.rules t xs
      → (fold next_line b (map text_of (printed_of xs))).standing ≡ standing.Ended

  -- a step, and the rest of a run
  one_step : (s : State) (xs : List Step) (a : Account) → a.standing ≡ standing.Open → 1 ≤ a.lines → (m : Move)
      → Next s a.schedule m → a.lines + length (cons_option (event_of m) (printed_of xs)) ≤ most_lines Two
      → HaveForm (cons_option (event_of m) (printed_of xs))
      → MatchBool (is_end m) (xs ≡ []) (IsWholeRun J.rules (after s m) xs) → GoesOn xs (after s m)
      → (fold next_line a (map text_of (cons_option (event_of m) (printed_of xs)))).standing ≡ standing.Ended
  one_step s xs a opened some (Waits n) next few form whole goes = goes a next opened some few form whole
  one_step s xs a opened some Ticks next few form whole goes = goes a next opened some few form whole
  one_step s xs a opened some (Prints e) next few form whole goes =
      subst (λ b. (fold next_line b (map text_of (printed_of xs))).standing ≡ standing.Ended)
      (sym (takes a e opened some (omega (arith, few)) form.0 next.0)) (by (is_end (Prints e)) refl whole) where
        more : Account
        more = record { lines = suc a.lines; schedule = legal.after a.schedule e; standing = standing_after e }

        by : (b : Bool) → is_end (Prints e) ≡ b → MatchBool b (xs ≡ []) (IsWholeRun J.rules (after s (Prints e)) xs)
            → (fold next_line more (map text_of (printed_of xs))).standing ≡ standing.Ended
        by true last none = subst (λ ys. (fold next_line more (map text_of (printed_of ys))).standing ≡ standing.Ended)
            (sym none) (ended_by e last)
        by false on rest = goes more (next.1 on) (open_by e on) (omega arith) (omega (arith, few)) form.1 rest

  -- the lines of the steps of a whole run
  walk : (xs : List Step) (s : State) → Keeps J s → IsReady J.rules.finishes s → AllServed J.rules.finishes s
      → GoesOn xs s
  walk [] s keeps ready served a shows opened some few form whole = absurd whole
  walk (x ∷ xs) s keeps ready served a shows opened some few form whole =
      let is : x.move ≡ step J.rules s = ap (λ (y : Step). y.move) whole.0 in
      subst (λ m. (fold next_line a (map text_of (cons_option (event_of m) (printed_of xs)))).standing ≡ standing.Ended)
      (sym is) (one_step s xs a opened some (step J.rules s)
      (step_next J valid listable s keeps a.schedule shows bare ready served)
      (subst (λ m. a.lines + length (cons_option (event_of m) (printed_of xs)) ≤ most_lines Two) is few)
      (subst (λ m. HaveForm (cons_option (event_of m) (printed_of xs))) is form) whole.1
      (walk xs (after s (step J.rules s)) (step_kept J valid s keeps J.rules)
      (step_ready J valid s keeps J.rules ready) (step_served J valid s keeps J.rules ready served)))

  -- the first line
  abbrev begun : Account
  begun = record { lines = 1; schedule = legal.blank; standing = standing.Open }

  -- no job has come at the opening
  opening_shows : Shows (opening J.jobs) legal.blank
  opening_shows = record {
    past = omega arith;
    count = omega arith;
    known = λ t m. passes is_coming t Coming true (come_coming 0 J.jobs t m).0 refl
        ∙ sym (le-leb 0 t.number (omega arith));
    told = λ t m low. absurd (omega arith);
    rests = λ t m low rests. absurd (omega arith);
    busy = λ t m runs. absurd (let clash : Coming ≡ Running = sym (come_coming 0 J.jobs t m).0 ∙ runs in cc);
    idle = λ none. refl;
  }

  -- no line has a line feed within
  feedless : (es : List Event) → AllByRecursion HasNoFeed (map text_of es)
  feedless [] = tt
  feedless (e ∷ es) = (feedless_text (lines.Printed e), feedless es)

  pub run_is_legal : length (printed J) < most_lines Two
      → (account (in_lines (codes "schedule" ∷ map text_of (printed J)))).standing ≡ standing.Ended
  run_is_legal few =
      let all : List (List ℕ) = codes "schedule" ∷ map text_of (printed J) in
      let cut_so = cut_in_lines all (refl, feedless (printed J)) in
      let same : lines_of (in_lines all) ≡ all =
      ap (λ (c : CutText). c.0 ++ cond (is_too_long c.1) (c.1 ∷ []) []) cut_so ∙ append-nil all in
      ap (λ ls. (fold next_line no_lines ls).standing) same
      ∙ walk (run J) (opening J.jobs) (opening_keeps J) (opening_ready J.rules.finishes J.jobs)
      (opening_served J.rules.finishes J.jobs) begun opening_shows refl (omega arith) (omega arith)
      (printed_form J valid) (run_is_whole J valid)
