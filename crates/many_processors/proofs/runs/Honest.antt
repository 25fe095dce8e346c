-- The ticks of a run: those of one job lie in its window, no tick names a job twice, and what the run completes is what
-- its own schedule is worth.
use Rattle.std.proofs.Common.{◌≡◌, ℕ, suc, ◌+◌, ◌≤◌, ◌<◌, ◌⊎◌, inl, inr, List, [], ◌∷◌, ◌++◌, length, map, refl, sym}
use Rattle.std.proofs.Common.{ap, ◌∙◌, subst, Bool, true, false, cond, arith, eqb, eqb-true, eq-eqb, ne_eqb, add-one}
use Rattle.std.proofs.Common.{sum_by, filter, filter_map, le-leb, nat_le, ◌||◌, ◌==◌, Some, take, drop}
use Rattle.std.specs.List.{count_by, enumerate_from}
use Rattle.std.proofs.lemmas.Bool.{cases_lt, lt-leb}
use Rattle.std.proofs.lemmas.List.Sums.{sum_by-cons}
use Rattle.dover_model.specs.declared.events.Event.{Event}
use Rattle.dover_model.specs.declared.events.Event.TheVariants.{Complete, Abandon, End}
use Rattle.dover_model.specs.declared.events.Task.{Task}
use Rattle.dover_model.specs.declared.events.Role.{Role}
use Rattle.dover_model.specs.declared.events.Role.TheVariants.{Coming, Waiting, Running, Done, Gone}
use Rattle.dover_model.specs.JobFacts.{JobFacts}
use Rattle.dover_model.specs.Finishes.{Finish, is_due}
use Rattle.dover_model.specs.Common.{Instance, IsValid, is_running, is_privileged, is_done, is_over, left, with_role}
use Rattle.dover_model.specs.Common.{IsMember, Each, IsNumberedFrom, jobs_of, numbered, observing, value_sum}
use Rattle.dover_model.specs.Common.{is_complete, to_come}
use Rattle.dover_model.specs.Step as single
use Rattle.dover_model.proofs.lists.Tests.{never}
use Rattle.dover_model.proofs.lists.Members.{on_map, member_filter, all_each, map_same, sum_same, sum_filter, each_cons}
use Rattle.dover_model.proofs.runs.Honest.{sum_observing}
use Rattle.dover_model.proofs.steps.Kept.{come_coming}
use Rattle.dover_model.proofs.steps.Roles.{passes, is_running_role, is_over_role, is_done_role}
use Rattle.many_processors.specs.State.{Placed, State, tasks_of, seen_by, opening, unplaced}
use Rattle.many_processors.specs.Step.{Move, Prints, Waits, Ticks, on, Seen, all_seen, step, after, placed_after}
use Rattle.many_processors.specs.Step.{in_role}
use Rattle.many_processors.specs.Step.{ticked, with_tick}
use Rattle.many_processors.specs.Run as many
use Rattle.many_processors.specs.Run.{run, ran, tick_of, enough, completed_value, numbers_running}
use Rattle.many_processors.specs.Schedules.{is_named, ticks_given, earned, worth}
use Rattle.many_processors.specs.Sound.{Keeps}
use Rattle.many_processors.specs.Ticks.{AreDifferent}
use Rattle.many_processors.specs.Observed.{observed, end_state}
use Rattle.many_processors.specs.Books.{given_at}
use Rattle.many_processors.proofs.bound.Ticks.{given_front, given_last, given_behind, length_last, given_hit}
use Rattle.many_processors.proofs.bound.Ticks.{given_miss, given_nil}
use Rattle.many_processors.proofs.books.TickSteps.{running_member}
use Rattle.many_processors.proofs.steps.Seeing.{each_sees}
use Rattle.many_processors.proofs.steps.Beside.{numbers_stay}
use Rattle.many_processors.proofs.steps.Cases as cases
use Rattle.many_processors.proofs.steps.Cases.{StepCase, step_case, IsQuiet, is_finished}
use Rattle.many_processors.proofs.steps.Kept.{job_released, had_most}
use Rattle.many_processors.proofs.steps.Placing.{seen_same, all_left}
use Rattle.many_processors.proofs.steps.Stepping.{event_task, role_stays, gives_done, same_job}
use Rattle.many_processors.proofs.steps.Turns.{which, running_job, of_tasks, opening_kept}
use Rattle.many_processors.proofs.runs.EachStep.{each_step, is_tick, no_tick, no_completion}
use Rattle.many_processors.proofs.runs.Outcomes.{ran_after, Outcome, outcome}
use Rattle.many_processors.proofs.runs.RunEnds.{run_ends}
use Rattle.many_processors.proofs.runs.Weighing.{fits_in, on_slack}

-- ---- the numbers of a tick

-- the tasks are numbered as what is seen of them is
pub tasks_numbered : (processors : ℕ) (J : Instance) (s : State) → Keeps processors J s
    → IsNumberedFrom 0 (tasks_of s.jobs)
tasks_numbered processors J s keeps = numbers_stay (seen_by 0) (λ (p : Placed). p.task) 0 s.jobs
    (λ p member. sym (seen_same 0 p).0) (keeps.sound 0).numbered

-- how often the running ones have the number n
abbrev times : ℕ → List Task → ℕ
times n tasks = count_by (λ m. n == m) (map (λ t. t.number) (filter is_running tasks))

-- a number below all has none
never_named : (n k : ℕ) (tasks : List Task) → IsNumberedFrom k tasks → n < k → times n tasks ≡ 0
never_named n k [] all less = refl
never_named n k (t ∷ tasks) all less =
    by_test (is_running t) (never_named n (suc k) tasks all.1 (omega (arith, less))) where
      by_test : (b : Bool) → times n tasks ≡ 0
          → count_by (λ m. n == m) (map (λ (u : Task). u.number) (cond b (t ∷ filter is_running tasks)
          (filter is_running tasks))) ≡ 0
      by_test true rest = omega (
        arith,
        rest,
        sum_by-cons (λ m. cond (n == m) 1 0) t.number (map (λ (u : Task). u.number) (filter is_running tasks)),
        ap {B = ℕ} (λ b. cond b 1 0) (ne_eqb n t.number (λ same. omega (arith, same, all.0, less))),
      )
      by_test false rest = rest

-- none has one twice
named_once : (n k : ℕ) (tasks : List Task) → IsNumberedFrom k tasks → times n tasks ≤ 1
named_once n k [] all = omega arith
named_once n k (t ∷ tasks) all = by_test (is_running t) (named_once n (suc k) tasks all.1) where
  by_number : (b : Bool) → (n == t.number) ≡ b → times n tasks ≤ 1 → cond b 1 0 + times n tasks ≤ 1
  by_number true same rest =
      let at_n : n ≡ t.number = eqb-true _ _ same in
      omega (arith, never_named n (suc k) tasks all.1 (omega (arith, at_n, all.0)))
  by_number false other rest = omega (arith, rest)

  by_test : (b : Bool) → times n tasks ≤ 1
      → count_by (λ m. n == m) (map (λ (u : Task). u.number) (cond b (t ∷ filter is_running tasks)
      (filter is_running tasks))) ≤ 1
  by_test true rest = omega (
    arith,
    sum_by-cons (λ m. cond (n == m) 1 0) t.number (map (λ (u : Task). u.number) (filter is_running tasks)),
    by_number (n == t.number) refl rest,
  )
  by_test false rest = rest

-- a member is named
named_there : (n : ℕ) (numbers : List ℕ) → IsMember n numbers → is_named n numbers ≡ true
named_there n [] member = absurd member
named_there n (k ∷ numbers) (inl e) = ap (λ b. b || is_named n numbers) (eq-eqb k n (sym e))
named_there n (k ∷ numbers) (inr member) = either (k == n) (named_there n numbers member) where
  either : (b : Bool) → is_named n numbers ≡ true → (b || is_named n numbers) ≡ true
  either true e = refl
  either false e = e

-- a named one is a member
there_named : (n : ℕ) (numbers : List ℕ) → is_named n numbers ≡ true → IsMember n numbers
there_named n [] named = never named
there_named n (k ∷ numbers) named = by_first (k == n) refl named (there_named n numbers) where
  by_first : (b : Bool) → (k == n) ≡ b → (b || is_named n numbers) ≡ true
      → (is_named n numbers ≡ true → IsMember n numbers) → IsMember n (k ∷ numbers)
  by_first true same named rest = inl (sym (eqb-true k n same))
  by_first false other named rest = inr (rest named)

-- ---- the ticks so far

-- they are those that the job had, all in its window
pub record JobGave (past : List (List ℕ)) (t : Task) : Type 0 where
  pub had : ticks_given past t.number t.job ≡ t.had
  pub window : (τ : ℕ) → is_named t.number (given_at past τ) ≡ true → (t.job.release ≤ τ) × (τ < t.job.deadline)

-- so have all jobs, and those that are done had what they needed
pub record Gave (finishes : List Finish) (past : List (List ℕ)) (s : State) : Type 0 where
  pub clock : length past ≡ s.clock
  pub each : Each (λ p. JobGave past p.task) s.jobs
  pub done : Each (λ p. p.task.role ≡ Done → is_finished finishes p.task ≡ true) s.jobs

-- whatever its role is
gave_role : (past : List (List ℕ)) (t : Task) (role : Role) → JobGave past t → JobGave past (with_role t role)
gave_role past t role it = record { had = it.had; window = it.window }

module _ (processors : ℕ) (some : 1 ≤ processors) (J : Instance) (valid : IsValid J) (past : List (List ℕ)) (s : State)
    (keeps : Keeps processors J s) (gave : Gave J.rules.finishes past s) where
  abbrev numbers : List ℕ
  numbers = numbers_running s

  -- a job is named where it runs
  named_running : (p : Placed) → IsMember p s.jobs → is_named p.task.number numbers ≡ is_running p.task
  named_running p member = by_test (is_running p.task) refl where
    only : Each (λ n. n ≡ p.task.number → is_running p.task ≡ true) numbers
    only = on_map (λ (t : Task). t.number) (λ n. n ≡ p.task.number → is_running p.task ≡ true)
        (filter is_running (tasks_of s.jobs))
        (λ t t_member same. let it = member_filter is_running (tasks_of s.jobs) t t_member in
        let u = of_tasks s.jobs t it.0 in
        let is_p : u.0 ≡ p = same_job processors J valid s keeps u.0 p u.1 member
        (ap (λ (x : Task). x.number) u.2 ∙ same) in
        sym (ap (λ (x : Placed). is_running x.task) is_p) ∙ ap is_running u.2 ∙ it.1)

    by_named : (b : Bool) → is_named p.task.number numbers ≡ b → is_running p.task ≡ false → b ≡ false
    by_named false e stands = refl
    by_named true e stands =
        never (sym stands ∙ only p.task.number (there_named p.task.number numbers e) refl)

    by_test : (b : Bool) → is_running p.task ≡ b → is_named p.task.number numbers ≡ is_running p.task
    by_test true runs = named_there p.task.number numbers (running_member s p member runs) ∙ sym runs
    by_test false stands = by_named (is_named p.task.number numbers) refl stands ∙ sym stands

  -- ---- what an event leaves

  each_event : (q : ℕ) (e : Event) → Each (λ p. JobGave past p.task) (map (placed_after q e) s.jobs)
  each_event q e = on_map (placed_after q e) (λ p. JobGave past p.task) s.jobs
      (λ p member. let it = event_task q e p in
      subst (JobGave past) (sym it.1) (gave_role past p.task it.0 (gave.each p member)))

  printed : (q : ℕ) (e : Event) → is_complete (single.Prints e) ≡ false
      → Gave J.rules.finishes past (after s (Prints q e))
  printed q e calm = record {
    clock = gave.clock;
    each = each_event q e;
    done = on_map (placed_after q e) (λ p. p.task.role ≡ Done → is_finished J.rules.finishes p.task ≡ true) s.jobs
        (λ p member is. ap (is_finished J.rules.finishes) (event_task q e p).1
        ∙ gave.done p member (role_stays e p.task (placed_after q e p).task Done (event_task q e p)
        (gives_done e p.task calm) is));
  }

  waits : (n : ℕ) → Gave J.rules.finishes past (after s (Waits n))
  waits n = record {
    clock = gave.clock;
    each = on_map (λ p. cond (eqb p.task.number n) (in_role p Waiting) p) (λ p. JobGave past p.task) s.jobs
        (λ p member. by_each p member (eqb p.task.number n));
    done = on_map (λ p. cond (eqb p.task.number n) (in_role p Waiting) p)
        (λ p. p.task.role ≡ Done → is_finished J.rules.finishes p.task ≡ true) s.jobs
        (λ p member. by_done p member (eqb p.task.number n));
  } where
    by_each : (p : Placed) → IsMember p s.jobs → (b : Bool) → JobGave past (cond b (in_role p Waiting) p).task
    by_each p member true = gave_role past p.task Waiting (gave.each p member)
    by_each p member false = gave.each p member

    by_done : (p : Placed) → IsMember p s.jobs → (b : Bool) → (cond b (in_role p Waiting) p).task.role ≡ Done
        → is_finished J.rules.finishes (cond b (in_role p Waiting) p).task ≡ true
    by_done p member true is = absurd (let f : Waiting ≡ Done = is in cc)
    by_done p member false is = gave.done p member is

  moved : (q : ℕ) (n : single.Move) → is_complete n ≡ false → is_tick (on q n) ≡ false
      → Gave J.rules.finishes (ran_after past s (on q n)) (after s (on q n))
  moved q (single.Prints e) calm still = printed q e calm
  moved q (single.Waits n) calm still = waits n
  moved q single.Ticks calm still = never (sym still)

  completes : (q at : ℕ) (x : Placed) → IsMember x s.jobs → is_finished J.rules.finishes x.task ≡ true
      → Gave J.rules.finishes past (after s (Prints q (Complete at x.task.number)))
  completes q at x x_member finished = record {
    clock = gave.clock;
    each = each_event q (Complete at x.task.number);
    done = on_map (placed_after q (Complete at x.task.number))
        (λ p. p.task.role ≡ Done → is_finished J.rules.finishes p.task ≡ true) s.jobs
        (λ p member. by_number p member (eqb p.task.number x.task.number) refl);
  } where
    by_number : (p : Placed) → IsMember p s.jobs → (b : Bool) → eqb p.task.number x.task.number ≡ b
        → (cond b (in_role p Done) p).task.role ≡ Done
        → is_finished J.rules.finishes (cond b (in_role p Done) p).task ≡ true
    by_number p member true same is =
        ap (λ (u : Placed). is_finished J.rules.finishes u.task)
        (same_job processors J valid s keeps p x member x_member (eqb-true _ _ same)) ∙ finished
    by_number p member false other is = gave.done p member is

  -- ---- what a tick leaves

  module _ (some_left : Each (λ p. is_privileged p.task ≡ true → 1 ≤ left p.task) s.jobs) where
    in_window : (p : Placed) → IsMember p s.jobs → is_running p.task ≡ true
        → (p.task.job.release ≤ length past) × (length past < p.task.job.deadline)
    in_window p member runs =
        let role : p.task.role ≡ Running = is_running_role p.task runs in
        let is_on : is_privileged p.task ≡ true = passes is_privileged p.task Running true role refl in
        let released : p.task.job.release ≤ s.clock = job_released s keeps.sound p member
        (λ e. absurd (let f : Coming ≡ Running = sym e ∙ role in cc)) in (
          omega (arith, gave.clock, released),
          omega (arith, gave.clock, on_slack processors J s keeps p member is_on, some_left p member is_on),
        )

    tick_window : (p : Placed) → IsMember p s.jobs → (τ : ℕ)
        → is_named p.task.number (given_at (past ++ numbers ∷ []) τ) ≡ true
        → (p.task.job.release ≤ τ) × (τ < p.task.job.deadline)
    tick_window p member τ named = by_order (cases_lt τ (length past)) where
      by_last : (τ < length past + 1) ⊎ (length past + 1 ≤ τ) → length past ≤ τ
          → (p.task.job.release ≤ τ) × (τ < p.task.job.deadline)
      by_last (inl low) high =
          let now : τ ≡ length past = omega (arith, low, high) in
          let runs : is_running p.task ≡ true = sym (named_running p member)
          ∙ sym (ap (is_named p.task.number) (ap (given_at (past ++ numbers ∷ [])) now ∙ given_last past numbers))
          ∙ named in
          let it = in_window p member runs in
          (omega (arith, now, it.0), omega (arith, now, it.1))
      by_last (inr later) high = never (ap (is_named p.task.number)
          (sym (given_behind (past ++ numbers ∷ []) τ (omega (arith, later, length_last past numbers)))) ∙ named)

      by_order : (τ < length past) ⊎ (length past ≤ τ) → (p.task.job.release ≤ τ) × (τ < p.task.job.deadline)
      by_order (inl before) = (gave.each p member).window τ
          (sym (ap (is_named p.task.number) (given_front past numbers τ before)) ∙ named)
      by_order (inr high) = by_last (cases_lt τ (length past + 1)) high

    tick_job : (p : Placed) → IsMember p s.jobs → JobGave (past ++ numbers ∷ []) (ticked p).task
    tick_job p member = by_test (is_running p.task) refl where
      by_test : (b : Bool) → is_running p.task ≡ b
          → JobGave (past ++ numbers ∷ []) (cond b (record { task = with_tick p.task; owner = p.owner }) p).task
      by_test true runs = record {
        had = given_hit (is_named p.task.number) numbers (named_running p member ∙ runs) past p.task.job.release
            p.task.job.deadline (in_window p member runs).0 (in_window p member runs).1
            ∙ ap (λ n. n + 1) (gave.each p member).had;
        window = tick_window p member;
      }
      by_test false stands = record {
        had = given_miss (is_named p.task.number) numbers (named_running p member ∙ stands) past p.task.job.release
            p.task.job.deadline ∙ (gave.each p member).had;
        window = tick_window p member;
      }

    ticks : Gave J.rules.finishes (past ++ numbers ∷ []) (after s Ticks)
    ticks = record {
      clock = omega (arith, length_last past numbers, gave.clock);
      each = on_map ticked (λ p. JobGave (past ++ numbers ∷ []) p.task) s.jobs tick_job;
      done = on_map ticked (λ p. p.task.role ≡ Done → is_finished J.rules.finishes p.task ≡ true) s.jobs
          (λ p member. by_test p member (is_running p.task) refl);
    } where
      by_test : (p : Placed) → IsMember p s.jobs → (b : Bool) → is_running p.task ≡ b
          → (cond b (record { task = with_tick p.task; owner = p.owner }) p).task.role ≡ Done
          → is_finished J.rules.finishes (cond b (record { task = with_tick p.task; owner = p.owner }) p).task ≡ true
      by_test p member false stands is = gave.done p member is
      by_test p member true runs is = absurd (let f : Running ≡ Done = sym (is_running_role p.task runs) ∙ is in cc)

  -- ---- each step

  abbrev all : List Seen
  all = all_seen processors J.rules.version s

  pub step_gave : (m : Move) → StepCase true J.rules s all m → Gave J.rules.finishes (ran_after past s m) (after s m)
  step_gave m (cases.Completed q member t runs finished) =
      let i = which processors J valid some J.rules s keeps q member in
      let x = running_job processors J valid some J.rules s keeps q.processor t
      (subst (λ (r : Seen). r.view.running ≡ Some t) i.0 runs) in
      subst (λ (u : Task). Gave J.rules.finishes past
      (after s (Prints q.processor (Complete q.view.clock u.number)))) x.2
      (completes q.processor q.view.clock x.0 x.1 (ap (is_finished J.rules.finishes) x.2 ∙ finished))
  step_gave m (cases.Acted q member n acts going decided) =
      subst (λ (x : Move). Gave J.rules.finishes (ran_after past s x) (after s x)) (sym acts.is)
      (moved q.processor acts.move (no_completion J.rules.ratio q (going q member) acts.move acts.case)
      (no_tick J.rules.ratio q.view q.processor acts.move acts.case))
  step_gave m (cases.Abandoned q member n acts it going light) =
      subst (λ (x : Move). Gave J.rules.finishes (ran_after past s x) (after s x)) (sym it.is)
      (printed q.processor (Abandon q.view.clock it.job.number) refl)
  step_gave m (cases.Ended may over) = printed 0 (End (value_sum (filter is_done (tasks_of s.jobs)))) refl
  step_gave m (cases.Rested quiet unended) =
      ticks (all_left processors s J.rules.version keeps.sound keeps.placed quiet.going)

-- ---- the run

module _ (processors : ℕ) (J : Instance) (valid : IsValid J) (some : 1 ≤ processors) where
  pub opening_gave : Gave J.rules.finishes [] (opening J.jobs)
  opening_gave = record {
    clock = refl;
    each = on_map unplaced (λ p. JobGave [] p.task) (to_come 0 J.jobs)
        (λ t member. record {
          had = nothing t.number t.job.release t.job.deadline ∙ sym (come_coming 0 J.jobs t member).1;
          window = λ τ named. never (ap (is_named t.number) (sym (given_behind [] τ (omega arith))) ∙ named);
        });
    done = on_map unplaced (λ p. p.task.role ≡ Done → is_finished J.rules.finishes p.task ≡ true) (to_come 0 J.jobs)
        (λ t member is. absurd (let f : Coming ≡ Done = sym (come_coming 0 J.jobs t member).0 ∙ is in cc));
  } where
    nothing : (n r d : ℕ) → count_by (is_named n) (drop r (take d [])) ≡ 0
    nothing n r d = given_nil (is_named n) r d

  at_end : Outcome processors J (Gave J.rules.finishes) [] (run processors J)
  at_end = outcome processors some J valid (Gave J.rules.finishes)
      (λ past s keeps gave. step_gave processors some J valid past s keeps gave (step processors J.rules s)
      (step_case J.rules s (all_seen processors J.rules.version s) (each_sees processors J.rules.version s)))
      (enough J.jobs) (opening J.jobs) [] (opening_kept processors J) opening_gave (run_ends processors J valid some)

  -- a job by its number at the end of the run
  pub job_there : (k : ℕ) (tasks : List Task) → IsNumberedFrom k tasks → (n_j : ℕ × JobFacts)
      → IsMember n_j (enumerate_from k (jobs_of tasks))
      → (t : Task) × IsMember t tasks × (t.number ≡ n_j.0) × (t.job ≡ n_j.1)
  job_there k [] row n_j member = absurd member
  job_there k (t ∷ tasks) row n_j (inl e) =
      (t, inl refl, row.0 ∙ sym (ap (λ x. x.0) e), sym (ap (λ x. x.1) e))
  job_there k (t ∷ tasks) row n_j (inr member) =
      let it = job_there (k + 1) tasks (subst (λ i. IsNumberedFrom i tasks) (sym (add-one k)) row.1) n_j member in
      (it.0, inr it.1, it.2, it.3)

  -- a tick that names a job is in its window
  pub named_in_window : (n τ : ℕ) (j : JobFacts) → IsMember (n, j) (numbered J)
      → is_named n (given_at (ran processors J) τ) ≡ true → (j.release ≤ τ) × (τ < j.deadline)
  named_in_window n τ j member named =
      let t = job_there 0 (tasks_of at_end.last.jobs) (tasks_numbered processors J at_end.last at_end.keeps) (n, j)
      (subst (λ jobs. IsMember (n, j) (enumerate_from 0 jobs)) (sym at_end.keeps.jobs) member) in
      let p = of_tasks at_end.last.jobs t.0 t.1 in
      let gave : JobGave at_end.ran t.0 = subst (JobGave at_end.ran) p.2 (at_end.holds.each p.0 p.1) in
      let it = gave.window τ (ap (λ m. is_named m (given_at at_end.ran τ)) t.2
      ∙ ap (λ r. is_named n (given_at r τ)) at_end.given ∙ named) in (
        omega (arith, it.0, ap (λ (i : JobFacts). i.release) t.3),
        omega
            (arith, it.1, ap (λ (i : JobFacts). i.deadline) t.3),
      )

  -- each job that is done is served what it had, and no gone one is
  earned_done : (t : Task) → IsMember t (tasks_of at_end.last.jobs)
      → earned (ran processors J) (t.number, observing t) ≡ cond (is_done t) t.job.value 0
  earned_done t member = by_role
      (is_over_role t (all_each is_over (tasks_of at_end.last.jobs) at_end.over t member)) where
        p : (u : Placed) × IsMember u at_end.last.jobs × (u.task ≡ t)
        p = of_tasks at_end.last.jobs t member

        had : ticks_given (ran processors J) t.number t.job ≡ t.had
        had = ap (λ r. ticks_given r t.number t.job) (sym at_end.given)
            ∙ (subst (JobGave at_end.ran) p.2 (at_end.holds.each p.0 p.1)).had

        by_role : (t.role ≡ Done) ⊎ (t.role ≡ Gone)
            → cond (nat_le (cond (is_done t) t.had t.job.work) (ticks_given (ran processors J) t.number t.job))
            t.job.value 0
            ≡ cond (is_done t) t.job.value 0
        by_role (inl e) = ap (λ b. cond b t.job.value 0)
            (le-leb (cond (is_done t) t.had t.job.work) (ticks_given (ran processors J) t.number t.job)
            (omega (arith, had, ap (λ b. cond b t.had t.job.work) (passes is_done t Done true e refl)))
            ∙ sym (passes is_done t Done true e refl))
        by_role (inr e) =
            let gone : p.0.task.role ≡ Gone = ap (λ (u : Task). u.role) p.2 ∙ e in
            let fits = fits_in processors J at_end.last at_end.keeps Gone p.0 p.1 gone in
            let less : t.had < t.job.work = subst (λ (u : Task). u.had < u.job.work) p.2 (omega (arith, fits.0)) in
            ap (λ b. cond b t.job.value 0)
            (lt-leb (cond (is_done t) t.had t.job.work) (ticks_given (ran processors J) t.number t.job)
            (omega (arith, had, less, ap (λ b. cond b t.had t.job.work) (passes is_done t Gone false e refl)))
            ∙ sym (passes is_done t Gone false e refl))

  -- what the run's own schedule is worth, by the jobs as the run observed them, is what the run completes
  pub honest : worth (numbered (observed processors J)) (ran processors J) ≡ completed_value processors J
  honest =
      ap (λ (s : State). sum_by (earned (ran processors J)) (enumerate_from 0 (map observing (tasks_of s.jobs))))
      (at_end.is_last (opening J.jobs))
      ∙ sum_observing (earned (ran processors J)) 0 (tasks_of at_end.last.jobs)
      (tasks_numbered processors J at_end.last at_end.keeps)
      ∙ sum_same (λ t. earned (ran processors J) (t.number, observing t)) (λ t. cond (is_done t) t.job.value 0)
      (tasks_of at_end.last.jobs) earned_done
      ∙ sym (sum_filter is_done (λ t. t.job.value) (tasks_of at_end.last.jobs)) ∙ sym at_end.value

  -- a job that is done had all its work, or came to a finish of its own
  pub done_finished : Each (λ p. p.task.role ≡ Done → (left p.task ≡ 0) ⊎ (is_due J.rules.finishes p.task ≡ true))
      (end_state processors J).jobs
  done_finished = subst (λ (s : State). Each (λ p. p.task.role ≡ Done
      → (left p.task ≡ 0) ⊎ (is_due J.rules.finishes p.task ≡ true)) s.jobs) (sym (at_end.is_last (opening J.jobs)))
      (λ p member is. by_left p (left p.task == 0) refl (at_end.holds.done p member is)) where
        by_left : (p : Placed) (b : Bool) → (left p.task == 0) ≡ b → (b || is_due J.rules.finishes p.task) ≡ true
            → (left p.task ≡ 0) ⊎ (is_due J.rules.finishes p.task ≡ true)
        by_left p true none finished = inl (eqb-true _ _ none)
        by_left p false none finished = inr finished

  -- where no job finishes early, all work is observed
  pub observed_all : J.rules.finishes ≡ [] → observed processors J ≡ J
  observed_all plain =
      ap (λ jobs. record { rules = J.rules; jobs = jobs })
      (ap (λ (s : State). map observing (tasks_of s.jobs)) (at_end.is_last (opening J.jobs))
      ∙ map_same observing (λ t. t.job) (tasks_of at_end.last.jobs) (λ t member. by_done t member (is_done t) refl)
      ∙ at_end.keeps.jobs) where
        of_work : JobFacts → ℕ → JobFacts
        of_work j n = record { release = j.release; work = n; deadline = j.deadline; value = j.value }

        by_done : (t : Task) → IsMember t (tasks_of at_end.last.jobs) → (b : Bool) → is_done t ≡ b → observing t ≡ t.job
        by_done t member false e = ap (of_work t.job) (ap (λ b. cond b t.had t.job.work) e)
        by_done t member true e =
            let p = of_tasks at_end.last.jobs t member in
            let role : p.0.task.role ≡ Done = ap (λ (u : Task). u.role) p.2 ∙ is_done_role t e in
            let done : is_finished [] t ≡ true = sym (ap (λ fs. is_finished fs t) plain)
            ∙ sym (ap (is_finished J.rules.finishes) p.2) ∙ at_end.holds.done p.0 p.1 role in
            let most : t.had ≤ t.job.work = subst (λ (u : Task). u.had ≤ u.job.work) p.2
            (had_most at_end.last at_end.keeps.sound p.0 p.1) in
            let none : left t ≡ 0 = eqb-true _ _ (first_part (left t == 0) done) in
            ap (of_work t.job) (ap (λ b. cond b t.had t.job.work) e ∙ omega (arith, most, none)) where
              first_part : (b : Bool) → (b || false) ≡ true → b ≡ true
              first_part true h = refl
              first_part false h = never h

-- no tick of a run names a job twice
pub ran_different : (processors : ℕ) (J : Instance) → IsValid J → 1 ≤ processors
    → Each AreDifferent (ran processors J)
ran_different processors J valid some = on_ticks (run processors J)
    (each_step processors J valid some (λ x. AreDifferent (numbers_running x.before))
    (λ s keeps n. named_once n 0 (tasks_of s.jobs) (tasks_numbered processors J s keeps))) where
      on_ticks : (steps : List many.Step) → Each (λ x. AreDifferent (numbers_running x.before)) steps
          → Each AreDifferent (filter_map tick_of steps)
      on_ticks [] apart = λ numbers member. absurd member
      on_ticks (x ∷ steps) apart = by_move x.move (on_ticks steps (λ y member. apart y (inr member))) where
        by_move : (m : Move) → Each AreDifferent (filter_map tick_of steps)
            → Each AreDifferent (filter_map tick_of (record { before = x.before; move = m } ∷ steps))
        by_move (Prints q e) rest = rest
        by_move (Waits n) rest = rest
        by_move Ticks rest = each_cons AreDifferent (numbers_running x.before) (filter_map tick_of steps)
            (apart x (inl refl)) rest
