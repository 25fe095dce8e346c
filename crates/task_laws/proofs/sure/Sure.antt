-- A job whose value is heavy enough against what comes beside it is completed.
use Rattle.std.proofs.Common.{◌≡◌, ℕ, ◌+◌, ◌-◌, ◌≤◌, ◌<◌, ◌⊎◌, inl, inr, List, [], ◌∷◌, refl, sym, ap, ◌∙◌, subst}
use Rattle.std.proofs.Common.{Bool, true, false, cond, eqb, arith, add-one}
use Rattle.std.specs.Prelude.{Option, Some, None, nat_le, nat_lt, ◌&&◌, not}
use Rattle.std.specs.Bool.{MatchBool, then_some}
use Rattle.std.specs.List.{sum_by, list_all, filter, find, cons_option, enumerate_from}
use Rattle.std.proofs.lemmas.Bool.{eqb-true, eqb-false, eq-eqb, ne_eqb, le-leb, lt-ltb, and_from, cases_lt}
use Rattle.dover_model.specs.Common.{Fraction, JobFacts}
use Rattle.dover_model.specs.declared.events.Event.{Event}
use Rattle.dover_model.specs.declared.events.Event.TheVariants.{Complete, End}
use Rattle.dover_model.specs.declared.events.Role.{Role}
use Rattle.dover_model.specs.declared.events.Role.TheVariants.{Coming, Fresh, Waiting, Held}
use Rattle.dover_model.specs.declared.events.Role.TheVariants.{Running, Done, Gone}
use Rattle.dover_model.specs.declared.events.Task.{Task}
use Rattle.dover_model.specs.Common.{Instance, IsValid, numbered, State, opening}
use Rattle.dover_model.specs.Common.{is_privileged, is_over, is_done, left, latest_start, privileged, value_sum}
use Rattle.dover_model.specs.Common.{IsHeavy, is_heavy, Move, Prints, Ticks, step, after, ending, ◌or_else◌, with_role}
use Rattle.dover_model.specs.Common.{displaced, ticked, Step, is_end, run, printed, printed_of, event_of, IsWholeRun}
use Rattle.dover_model.specs.Common.{IsMember, Each, IsNumberedFrom, IsSound, Keeps, jobs_of}
use Rattle.task_laws.specs.Sure.{IsHeavyAt}
use Rattle.dover_model.specs.Windows.{worth_beside, crosses, crossing_beside}
use Rattle.task_laws.specs.Sure.{NoneDisplaces, NoneMeets, IsCompleted}
use Rattle.task_laws.specs.Sure.{chosen_value, chosen_work, CanHold, FitWindows}
use Rattle.dover_model.proofs.lists.Members.{on_map, map_member, filter_member, sum_filter, sum_le, sum_same}
use Rattle.dover_model.proofs.lists.Members.{sum_zero, term_le_sum, cond_le, found, not_found}
use Rattle.dover_model.proofs.valid.JobLimits.{JobLimits, job_limits}
use Rattle.dover_model.proofs.steps.Loads.{sum_change}
use Rattle.dover_model.proofs.steps.Roles.{passes, one_number, is_privileged_role, is_over_role}
use Rattle.dover_model.proofs.steps.OneChange.{state_with, on_changed}
use Rattle.dover_model.proofs.steps.Moves.{says, active_slack}
use Rattle.dover_model.proofs.steps.Ticking.{Quiet}
use Rattle.dover_model.proofs.steps.Deeds.{Deed, Completed, Resumed, Started, Began, Preempted, Stayed, Arrived, Taken}
use Rattle.dover_model.proofs.steps.Deeds.{Abandoned, Rested}
use Rattle.dover_model.proofs.steps.Kept.{realistic, step_deed, step_kept, opening_keeps, come_coming, end_same}
use Rattle.dover_model.proofs.runs.Ending.{end_over, run_is_whole}
use Rattle.dover_model.proofs.runs.Runs.{run_states}
use Rattle.dover_model.proofs.bound.Calculus.{heavy_mono, heavy_more}
use Rattle.dover_model.proofs.runs.Honest.{sum_tasks}
use Rattle.task_laws.proofs.sure.Stacks.{IsStacked, by_due, works_fit, opening_stacked, step_stacked}
use Rattle.dover_model.proofs.lists.Tests.{never}
use Rattle.dover_model.specs.Orders.{IsByDeadline}

-- ---- a job that isn't over, and, where `steady`, has had nothing while it waits

-- of its role, and of the ticks that it has had
abbrev Unlost : Bool → Role → ℕ → Type 0
Unlost steady Coming had = Unit {0}
Unlost steady Fresh had = Unit {0}
Unlost steady Waiting had = steady ≡ true → had ≡ 0
Unlost steady Held had = Unit {0}
Unlost steady Running had = Unit {0}
Unlost steady Done had = ⊥
Unlost steady Gone had = ⊥

-- so is the job of number n
abbrev IsUnlost : Bool → ℕ → State → Type 0
IsUnlost steady n s = Each (λ t. t.number ≡ n → Unlost steady t.role t.had) s.tasks

-- the job of number n is completed in time by this step
record Ends (n : ℕ) (s : State) (m : Move) : Type 0 where
  pub job : Task
  pub member : IsMember job s.tasks
  pub is_n : job.number ≡ n
  pub in_time : s.clock ≤ job.job.deadline
  pub is : m ≡ Prints (Complete s.clock n)

-- a displaced job that was not to be displaced
displaced_unlost : (steady : Bool) (t : Task) (role : Role)
    → (is_privileged (with_role t role) ≡ true → steady ≡ true → ⊥) → Unlost steady role t.had
    → Unlost steady (displaced role) t.had
displaced_unlost steady t Held apart unlost = λ e. absurd (apart refl e)
displaced_unlost steady t Running apart unlost = λ e. absurd (apart refl e)
displaced_unlost steady t _ apart unlost = unlost

-- a tick later
ticked_unlost : (steady : Bool) (t : Task) (role : Role) → Unlost steady role t.had
    → Unlost steady role (ticked (with_role t role)).had
ticked_unlost steady t Coming unlost = unlost
ticked_unlost steady t _ unlost = unlost

module _ (steady : Bool) (n : ℕ) (k : Fraction) (s : State) (other : Move) (sound : IsSound s)
    (kept : (r x : Task) → IsMember r s.tasks → r.role ≡ Running → 1 ≤ left r → IsMember x s.tasks → x.role ≡ Waiting
    → latest_start x ≡ s.clock → is_heavy k x.job.value (value_sum (privileged s)) ≡ false → x.number ≡ n
    → (steady ≡ true → x.had ≡ 0) → ⊥)
    (stays : (r x t : Task) → IsMember r s.tasks → r.role ≡ Running → 1 ≤ left r → IsMember x s.tasks
    → x.role ≡ Waiting → latest_start x ≡ s.clock → is_heavy k x.job.value (value_sum (privileged s)) ≡ true
    → IsMember t s.tasks → is_privileged t ≡ true → t.number ≡ n → steady ≡ true → ⊥) where
  -- where one job gets a new role
  one_unlost : (r : Task) → IsMember r s.tasks → (new : Role) → (r.number ≡ n → Unlost steady new r.had)
      → IsUnlost steady n s → IsUnlost steady n (state_with s r new)
  one_unlost r member new here unlost =
      on_changed 0 s.tasks sound.numbered r member new (λ t. t.number ≡ n → Unlost steady t.role t.had) here
      (λ t m _. unlost t m)

  -- each deed keeps it, or completes the job in time
  deed_unlost : (Quiet s → IsUnlost steady n (after s other)) → IsUnlost steady n s → (m : Move) → Deed k s other m
      → IsUnlost steady n (after s m) ⊎ Ends n s m
  deed_unlost rests unlost m (Completed r member runs) = by_number (eqb r.number n) refl where
    by_number : (b : Bool) → eqb r.number n ≡ b → IsUnlost steady n (after s (Prints (Complete s.clock r.number)))
        ⊎ Ends n s (Prints (Complete s.clock r.number))
    by_number true same = inr (record {
      job = r;
      member = member;
      is_n = eqb-true _ _ same;
      in_time = let slack : s.clock + left r ≤ r.job.deadline =
          active_slack s sound r member (passes is_privileged r Running true runs refl) in omega arith;
      is = ap (λ i. Prints (Complete s.clock i)) (eqb-true _ _ same);
    })
    by_number false differs = inl (one_unlost r member Done (λ same. absurd (eqb-false _ _ differs same)) unlost)
  deed_unlost rests unlost m (Resumed p member held none least why) =
      inl (one_unlost p member Running (λ same. tt) unlost)
  deed_unlost rests unlost m (Started o member waiting none ahead fits next) =
      inl (one_unlost o member Running (λ same. tt) unlost)
  deed_unlost rests unlost m (Began f member fresh none free) = inl (one_unlost f member Running (λ same. tt) unlost)
  deed_unlost rests unlost m (Preempted r f member runs some f_member fresh before fits) =
      inl (on_map (λ t. with_role t (cond (eqb t.number f.number) Running (cond (eqb t.number r.number) Held t.role)))
      (λ t. t.number ≡ n → Unlost steady t.role t.had) s.tasks
      (λ t m same. by_numbers t (eqb t.number f.number) (eqb t.number r.number) (unlost t m same))) where
        by_numbers : (t : Task) (a b : Bool) → Unlost steady t.role t.had
            → Unlost steady (cond a Running (cond b Held t.role)) t.had
        by_numbers t true b before = tt
        by_numbers t false true before = tt
        by_numbers t false false before = before
  deed_unlost rests unlost m (Stayed r f member runs some f_member fresh why) =
      inl (one_unlost f f_member Waiting (λ same e. (says s sound f f_member Fresh fresh).0) unlost)
  deed_unlost rests unlost m (Arrived c member comes now least stale busy free) =
      inl (one_unlost c member Fresh (λ same. tt) unlost)
  deed_unlost rests unlost m (Taken r x member runs some x_member waiting now stale heavy) =
      inl (on_map (λ t. with_role t (cond (eqb t.number x.number) Running (displaced t.role)))
      (λ t. t.number ≡ n → Unlost steady t.role t.had) s.tasks
      (λ t m same. by_number t m same (eqb t.number x.number) (unlost t m same))) where
        by_number : (t : Task) → IsMember t s.tasks → t.number ≡ n → (b : Bool) → Unlost steady t.role t.had
            → Unlost steady (cond b Running (displaced t.role)) t.had
        by_number t m same true before = tt
        by_number t m same false before = displaced_unlost steady t t.role
            (λ is_in. stays r x t member runs some x_member waiting now heavy m is_in same) before
  deed_unlost rests unlost m (Abandoned r x member runs some x_member waiting now stale light) =
      inl (one_unlost x x_member Gone
      (λ same. kept r x member runs some x_member waiting now light same
      (subst (λ role. Unlost steady role x.had) waiting (unlost x x_member same))) unlost)
  deed_unlost rests unlost m (Rested quiet) = inl (rests quiet)

-- a silent tick keeps it
tick_unlost : (steady : Bool) (n : ℕ) (s : State) → IsUnlost steady n s → IsUnlost steady n (after s Ticks)
tick_unlost steady n s unlost = on_map ticked (λ t. t.number ≡ n → Unlost steady t.role t.had) s.tasks
    (λ t m same. ticked_unlost steady t t.role (unlost t m same))

-- ---- tasks and their jobs

-- the task of a job of the list
pub task_of : (n : ℕ) (tasks : List Task) → IsNumberedFrom n tasks → (n_j : ℕ × JobFacts)
    → IsMember n_j (enumerate_from n (jobs_of tasks))
    → (t : Task) × IsMember t tasks × (t.number ≡ n_j.0) × (t.job ≡ n_j.1)
task_of n [] all n_j member = absurd member
task_of n (x ∷ tasks) all n_j (inl e) =
    (x, inl refl, all.0 ∙ sym (ap (λ (i : ℕ × JobFacts). i.0) e), sym (ap (λ (i : ℕ × JobFacts). i.1) e))
task_of n (x ∷ tasks) all n_j (inr member) =
    let it : (t : Task) × IsMember t tasks × (t.number ≡ n_j.0) × (t.job ≡ n_j.1) =
    task_of (n + 1) tasks (subst (λ m. IsNumberedFrom m tasks) (sym (add-one n)) all.1) n_j member in
    (it.0, inr it.1, it.2, it.3)

-- the job of this number runs or is held
abbrev holds : State → ℕ → Bool
holds s m = elim (find (λ t. eqb t.number m) s.tasks) [ None ↦ false | Some t ↦ is_privileged t ]

-- so it is of its task
holds_is : (s : State) → IsSound s → (t : Task) → IsMember t s.tasks → holds s t.number ≡ is_privileged t
holds_is s sound t m = by_found (find (λ u. eqb u.number t.number) s.tasks) refl where
  by_found : (o : Option Task) → find (λ u. eqb u.number t.number) s.tasks ≡ o
      → (elim o [ None ↦ false | Some u ↦ is_privileged u ]) ≡ is_privileged t
  by_found None none =
      never (sym (not_found (λ u. eqb u.number t.number) s.tasks none t m) ∙ eq-eqb t.number t.number refl)
  by_found (Some u) some =
      let it : IsMember u s.tasks × (eqb u.number t.number ≡ true) =
      found (λ u. eqb u.number t.number) s.tasks u some in
      ap is_privileged (one_number 0 s.tasks sound.numbered u t it.0 m (eqb-true _ _ it.1))

-- an event that is printed later is printed
printed_later : (e : Event) (o : Option Event) (events : List Event) → IsMember e events
    → IsMember e (cons_option o events)
printed_later e None events member = member
printed_later e (Some f) events member = inr member

-- ---- over a run

module _ (J : Instance) (n : ℕ) (j : JobFacts) (there : IsMember (n, j) (numbered J)) where
  module _ (s : State) (keeps : Keeps J s) where
    -- the job's task
    the_task : (t : Task) × IsMember t s.tasks × (t.number ≡ n) × (t.job ≡ j)
    the_task = task_of 0 s.tasks keeps.sound.numbered (n, j)
        (subst (λ jobs. IsMember (n, j) (enumerate_from 0 jobs)) (sym keeps.jobs) there)

    -- it is the only one of its number
    the_job : (t : Task) → IsMember t s.tasks → t.number ≡ n → t.job ≡ j
    the_job t m same = by_task the_task where
      by_task : (u : Task) × IsMember u s.tasks × (u.number ≡ n) × (u.job ≡ j) → t.job ≡ j
      by_task it = ap (λ (x : Task). x.job)
          (one_number 0 s.tasks keeps.sound.numbered t it.0 m it.1 (same ∙ sym it.2)) ∙ it.3

    module _ (r x : Task) (member : IsMember r s.tasks) (runs : r.role ≡ Running) (some : 1 ≤ left r)
        (x_member : IsMember x s.tasks) (waiting : x.role ≡ Waiting) (now : latest_start x ≡ s.clock) where
      -- a running or held job has some left
      some_left : (t : Task) → IsMember t s.tasks → is_privileged t ≡ true → (1 ≤ left t)
          × (t.job.release ≤ s.clock) × (s.clock + left t ≤ t.job.deadline)
      some_left t m is_in = by_role (is_privileged_role t is_in) where
        slack : s.clock + left t ≤ t.job.deadline
        slack = active_slack s keeps.sound t m is_in

        by_role : (t.role ≡ Running) ⊎ (t.role ≡ Held) → (1 ≤ left t) × (t.job.release ≤ s.clock)
            × (s.clock + left t ≤ t.job.deadline)
        by_role (inl e) = (
          subst (λ (y : Task). 1 ≤ left y)
              (sym (one_number 0 s.tasks keeps.sound.numbered t r m member (keeps.sound.one_runs t r m member e runs)))
              some,
          says s keeps.sound t m Running e,
          slack,
        )
        by_role (inr e) = ((says s keeps.sound t m Held e).0, (says s keeps.sound t m Held e).1, slack)

      -- what a sum over jobs by who holds the processor is over tasks
      over_tasks : (f : Bool → JobFacts → ℕ) → sum_by (λ m_i. f (holds s m_i.0) m_i.1) (numbered J)
          ≡ sum_by (λ t. f (is_privileged t) t.job) s.tasks
      over_tasks f =
          ap (λ js. sum_by (λ m_i. f (holds s m_i.0) m_i.1) (enumerate_from 0 js)) (sym keeps.jobs)
          ∙ sum_tasks (λ m_i. f (holds s m_i.0) m_i.1) 0 s.tasks keeps.sound.numbered
          ∙ sum_same (λ t. f (holds s t.number) t.job) (λ t. f (is_privileged t) t.job) s.tasks
          (λ t m. ap (λ b. f b t.job) (holds_is s keeps.sound t m))

      -- the task of a job of the list
      task_there : (m_i : ℕ × JobFacts) → IsMember m_i (numbered J)
          → (t : Task) × IsMember t s.tasks × (t.number ≡ m_i.0) × (t.job ≡ m_i.1)
      task_there m_i m = task_of 0 s.tasks keeps.sound.numbered m_i
          (subst (λ jobs. IsMember m_i (enumerate_from 0 jobs)) (sym keeps.jobs) m)

      -- the task of one that runs or is held
      is_in_of : (m_i : ℕ × JobFacts) → holds s m_i.0 ≡ true → (t : Task) → IsMember t s.tasks
          → t.number ≡ m_i.0 → is_privileged t ≡ true
      is_in_of m_i chosen t m is =
          sym (holds_is s keeps.sound t m) ∙ subst (λ i. holds s i ≡ true) (sym is) chosen

      -- the running and held jobs cross the tick
      held_cross : Each (λ m_i. holds s m_i.0 ≡ true → crosses s.clock m_i.1 ≡ true) (numbered J)
      held_cross m_i m chosen = by_task (task_there m_i m) where
        by_task : (t : Task) × IsMember t s.tasks × (t.number ≡ m_i.0) × (t.job ≡ m_i.1)
            → crosses s.clock m_i.1 ≡ true
        by_task it =
            let parts : (1 ≤ left it.0) × (it.0.job.release ≤ s.clock) × (s.clock + left it.0 ≤ it.0.job.deadline) =
            some_left it.0 it.1 (is_in_of m_i chosen it.0 it.1 it.2) in
            let one : 1 ≤ left it.0 = parts.0 in
            let slack : s.clock + left it.0 ≤ it.0.job.deadline = parts.2 in
            let late : s.clock < it.0.job.deadline = omega (arith, one, slack) in
            subst (λ (i : JobFacts). crosses s.clock i ≡ true) it.3
            (and_from (nat_le it.0.job.release s.clock) (nat_lt s.clock it.0.job.deadline) (le-leb _ _ parts.1)
            (lt-ltb _ _ late))

      -- the waiting job isn't one of them
      held_without : x.number ≡ n → holds s n ≡ false
      held_without same = subst (λ m. holds s m ≡ false) same
          (holds_is s keeps.sound x x_member ∙ passes is_privileged x Waiting false waiting refl)

      -- they are worth what a take has to beat
      held_worth : sum_by (chosen_value (holds s)) (numbered J) ≡ value_sum (privileged s)
      held_worth = over_tasks (λ b i. cond b i.value 0) ∙ sym (sum_filter is_privileged (λ t. t.job.value) s.tasks)

      -- it is one of the jobs
      x_listed : IsMember x.job J.jobs
      x_listed = subst (IsMember x.job) keeps.jobs (map_member (λ (u : Task). u.job) s.tasks x x_member)

      module _ (takes : is_heavy J.rules.ratio x.job.value (value_sum (privileged s)) ≡ true) (t : Task)
          (m : IsMember t s.tasks) (is_in : is_privileged t ≡ true) (same : t.number ≡ n) where
        -- where it takes, it is heavy against each of them
        heavier : IsHeavy J.rules.ratio x.job.value j.value
        heavier =
            let part : t.job.value ≤ value_sum (privileged s) =
            term_le_sum (λ u. u.job.value) (privileged s) t (filter_member is_privileged s.tasks t m is_in) in
            subst (λ (i : JobFacts). IsHeavy J.rules.ratio x.job.value i.value) (the_job t m same)
            (heavy_mono J.rules.ratio x.job.value t.job.value (value_sum (privileged s)) part takes)

-- ---- where jobs are chosen by deadline

module _ (J : Instance) (valid : IsValid J) (n : ℕ) (j : JobFacts) (there : IsMember (n, j) (numbered J))
    (steady : Bool)
    (heavy : (t : ℕ) → j.deadline ≤ t + j.work → t < j.deadline → (steady ≡ true → t + j.work ≡ j.deadline)
    → IsHeavyAt J n j t)
    (none : steady ≡ true → NoneDisplaces J j) where
  module _ (s : State) (keeps : Keeps J s) (stacked : IsStacked s) where
    module _ (r x : Task) (member : IsMember r s.tasks) (runs : r.role ≡ Running) (some : 1 ≤ left r)
        (x_member : IsMember x s.tasks) (waiting : x.role ≡ Waiting) (now : latest_start x ≡ s.clock) where
      -- the running and held jobs can hold the processor while it waits
      can_hold : x.number ≡ n → CanHold J n s.clock (holds s)
      can_hold same = record {
        waits = held_without J n j there s keeps r x member runs some x_member waiting now same;
        crossing = held_cross J n j there s keeps r x member runs some x_member waiting now;
        fitting = λ m_i m chosen. by_window m_i chosen
            (task_there J n j there s keeps r x member runs some x_member waiting now m_i m);
      } where
        by_window : (m_i : ℕ × JobFacts) → holds s m_i.0 ≡ true
            → (t : Task) × IsMember t s.tasks × (t.number ≡ m_i.0) × (t.job ≡ m_i.1)
            → sum_by (chosen_work (holds s) m_i.1.deadline) (numbered J) + m_i.1.release ≤ m_i.1.deadline
        by_window m_i chosen it =
            let fits : sum_by (by_due (λ u. u.job.work) it.0.job.deadline) s.tasks + it.0.job.release
            ≤ it.0.job.deadline =
            works_fit s keeps.sound stacked it.0 it.1
            (is_in_of J n j there s keeps r x member runs some x_member waiting now m_i chosen it.0 it.1 it.2) in
            let sums : sum_by (λ l_k. cond (holds s l_k.0 && nat_le l_k.1.deadline it.0.job.deadline) l_k.1.work 0)
            (numbered J) ≡ sum_by (by_due (λ u. u.job.work) it.0.job.deadline) s.tasks =
            over_tasks J n j there s keeps r x member runs some x_member waiting now
            (λ b i. cond (b && nat_le i.deadline it.0.job.deadline) i.work 0) in
            subst (λ (i : JobFacts). sum_by (chosen_work (holds s) i.deadline) (numbered J) + i.release ≤ i.deadline)
            it.3 (rw sums fits)

      -- the other job alone
      abbrev alone : ℕ → Bool
      alone m = eqb m x.number

      -- a sum over jobs that counts this one alone
      alone_most : (f : JobFacts → ℕ) → sum_by (λ m_i. cond (alone m_i.0) (f m_i.1) 0) (numbered J) ≤ f x.job
      alone_most f =
          let sums : sum_by (λ m_i. cond (alone m_i.0) (f m_i.1) 0) (numbered J)
          ≡ sum_by (λ u. cond (alone u.number) (f u.job) 0) s.tasks =
          ap (λ js. sum_by (λ m_i. cond (alone m_i.0) (f m_i.1) 0) (enumerate_from 0 js)) (sym keeps.jobs)
          ∙ sum_tasks (λ m_i. cond (alone m_i.0) (f m_i.1) 0) 0 s.tasks keeps.sound.numbered in
          let most : sum_by (λ u. cond (alone u.number) (f u.job) 0) s.tasks + 0 ≤ sum_by (λ u. 0) s.tasks + f x.job =
          sum_change (λ u. cond (alone u.number) (f u.job) 0) (λ u. 0) 0 (f x.job) 0 s.tasks x keeps.sound.numbered
          x_member (let here : cond (alone x.number) (f x.job) 0 ≤ f x.job = cond_le _ (f x.job) in omega (arith, here))
          (λ u m apart. let zero : cond (alone u.number) (f u.job) 0 ≡ 0 =
          ap (λ b. cond {A = ℕ} b (f u.job) 0) (ne_eqb u.number x.number apart) in omega (arith, zero)) in
          let none_else : sum_by (λ (u : Task). 0) s.tasks ≡ 0 = sum_zero (λ u. 0) s.tasks (λ u m. refl) in
          omega (arith, sums, most, none_else)

      -- it is counted
      alone_least : x.job.value ≤ sum_by (chosen_value alone) (numbered J)
      alone_least =
          let sums : sum_by (chosen_value alone) (numbered J)
          ≡ sum_by (λ u. cond (alone u.number) u.job.value 0) s.tasks =
          ap (λ js. sum_by (chosen_value alone) (enumerate_from 0 js)) (sym keeps.jobs)
          ∙ sum_tasks (chosen_value alone) 0 s.tasks keeps.sound.numbered in
          let part : cond (alone x.number) x.job.value 0 ≤ sum_by (λ u. cond (alone u.number) u.job.value 0) s.tasks =
          term_le_sum (λ u. cond (alone u.number) u.job.value 0) s.tasks x x_member in
          let is : cond (alone x.number) x.job.value 0 ≡ x.job.value =
          ap (λ b. cond {A = ℕ} b x.job.value 0) (eq-eqb x.number x.number refl) in
          omega (arith, sums, part, is)

      -- where it crosses a tick, it can hold the processor there
      alone_holds : (t : ℕ) → x.job.release ≤ t → t < x.job.deadline → (x.number ≡ n → ⊥) → CanHold J n t alone
      alone_holds t released late differs = record {
        waits = ne_eqb n x.number (λ e. differs (sym e));
        crossing = λ m_i m chosen. subst (λ (i : JobFacts). crosses t i ≡ true) (sym (is_x m_i m chosen))
            (and_from (nat_le x.job.release t) (nat_lt t x.job.deadline) (le-leb _ _ released) (lt-ltb _ _ late));
        fitting = λ m_i m chosen. subst
            (λ (i : JobFacts). sum_by (chosen_work alone i.deadline) (numbered J) + i.release ≤ i.deadline)
            (sym (is_x m_i m chosen)) fits;
      } where
        is_x : (m_i : ℕ × JobFacts) → IsMember m_i (numbered J) → alone m_i.0 ≡ true → m_i.1 ≡ x.job
        is_x m_i m chosen = by_task (task_of 0 s.tasks keeps.sound.numbered m_i
            (subst (λ jobs. IsMember m_i (enumerate_from 0 jobs)) (sym keeps.jobs) m)) where
              by_task : (u : Task) × IsMember u s.tasks × (u.number ≡ m_i.0) × (u.job ≡ m_i.1) → m_i.1 ≡ x.job
              by_task it = sym it.3 ∙ ap (λ (u : Task). u.job)
                  (one_number 0 s.tasks keeps.sound.numbered it.0 x it.1 x_member (it.2 ∙ eqb-true _ _ chosen))

        fits : sum_by (chosen_work alone x.job.deadline) (numbered J) + x.job.release ≤ x.job.deadline
        fits =
            let less : sum_by (chosen_work alone x.job.deadline) (numbered J)
            ≤ sum_by (λ m_i. cond (alone m_i.0) m_i.1.work 0) (numbered J) =
            sum_le (chosen_work alone x.job.deadline) (λ m_i. cond (alone m_i.0) m_i.1.work 0) (numbered J)
            (λ m_i m. by_tests (alone m_i.0) (nat_le m_i.1.deadline x.job.deadline) m_i.1.work) in
            let window : x.job.release + x.job.work ≤ x.job.deadline =
            (job_limits ((realistic J valid s keeps).each x x_member)).window in
            omega (arith, less, window, alone_most (λ i. i.work)) where
              by_tests : (a b : Bool) (w : ℕ) → cond (a && b) w 0 ≤ cond a w 0
              by_tests true true w = omega arith
              by_tests true false w = omega arith
              by_tests false b w = omega arith

      -- nor is it displaced
      not_displaced : is_heavy J.rules.ratio x.job.value (value_sum (privileged s)) ≡ true → (t : Task)
          → IsMember t s.tasks → is_privileged t ≡ true → t.number ≡ n → steady ≡ true → ⊥
      not_displaced takes t m is_in same e = by_start (cases_lt x.job.deadline (j.release + x.job.work)) where
        is_j : t.job ≡ j
        is_j = the_job J n j there s keeps t m same

        held : (1 ≤ left t) × (t.job.release ≤ s.clock) × (s.clock + left t ≤ t.job.deadline)
        held = some_left J n j there s keeps r x member runs some x_member waiting now t m is_in

        slack : s.clock + left t ≤ t.job.deadline
        slack = held.2

        fits : (1 ≤ left x) × (x.job.release ≤ s.clock) × (s.clock + left x ≤ x.job.deadline)
        fits = says s keeps.sound x x_member Waiting waiting

        x_slack : s.clock + left x ≤ x.job.deadline
        x_slack = fits.2

        due : t.job.deadline ≡ j.deadline
        due = ap (λ (i : JobFacts). i.deadline) is_j

        from : t.job.release ≡ j.release
        from = ap (λ (i : JobFacts). i.release) is_j

        work : t.job.work ≡ j.work
        work = ap (λ (i : JobFacts). i.work) is_j

        start : x.job.deadline - left x ≡ s.clock
        start = now

        x_rest : left x ≡ x.job.work - x.had
        x_rest = refl

        t_rest : left t ≡ t.job.work - t.had
        t_rest = refl

        limits : JobLimits t.job
        limits = job_limits ((realistic J valid s keeps).each t m)

        x_limits : JobLimits x.job
        x_limits = job_limits ((realistic J valid s keeps).each x x_member)

        stronger : IsHeavy J.rules.ratio x.job.value j.value
        stronger = heavier J n j there s keeps r x member runs some x_member waiting now takes t m is_in same

        differs : x.number ≡ n → ⊥
        differs is = never (sym (passes is_privileged x Waiting false waiting refl)
            ∙ subst (λ (y : Task). is_privileged y ≡ true)
            (one_number 0 s.tasks keeps.sound.numbered t x m x_member (same ∙ sym is)) is_in)

        -- where it crosses the job's latest start, the job is heavy against it
        crossing : x.job.release ≤ j.deadline - j.work → j.deadline - j.work < x.job.deadline → ⊥
        crossing released late =
            let window : t.job.release + t.job.work ≤ t.job.deadline = limits.window in
            let some_work : 1 ≤ t.job.work = limits.work in
            let enough : IsHeavy J.rules.ratio j.value (sum_by (chosen_value alone) (numbered J)) =
            heavy (j.deadline - j.work) (omega arith) (omega (arith, due, work, window, some_work))
            (λ _. omega (arith, due, work, window)) alone
            (alone_holds (j.deadline - j.work) released late differs) in
            let more : sum_by (chosen_value alone) (numbered J) < j.value =
            heavy_more J.rules.ratio j.value (sum_by (chosen_value alone) (numbered J)) enough in
            let above : j.value < x.job.value = heavy_more J.rules.ratio x.job.value j.value stronger in
            omega (arith, more, above, alone_least)

        by_above : x.job.deadline < j.release + x.job.work
            → (t.job.deadline ≤ x.job.deadline) ⊎ (t.job.deadline ≤ s.clock + left t) → ⊥
        by_above early (inl later) =
            crossing (omega (arith, early, x_limits.window, limits.window, due, from, work))
            (omega (arith, later, due, work, limits.window, limits.work))
        by_above early (inr tight) =
            crossing (omega (arith, early, x_limits.window, limits.window, due, from, work))
            (omega (arith, tight, slack, t_rest, due, work, x_slack, fits.0, limits.window, limits.work))

        by_start : (x.job.deadline < j.release + x.job.work) ⊎ (j.release + x.job.work ≤ x.job.deadline) → ⊥
        by_start (inr late) = none e x.job (x_listed J n j there s keeps r x member runs some x_member waiting now)
            late (omega (arith, slack, x_slack, held.0, fits.0, start, x_rest, due)) stronger
        by_start (inl early) = by_above early (stacked.above x t x_member m waiting
            (omega (arith, early, held.1, from, x_slack, x_rest)) is_in)

-- ---- over a run

module _ (J : Instance) (valid : IsValid J) (n : ℕ) (j : JobFacts) (there : IsMember (n, j) (numbered J))
    (steady : Bool) (Stays : State → Type 0) (opens : Stays (opening J.jobs))
    (goes_on : (s : State) → Keeps J s → Stays s → Stays (after s (step J.rules s)))
    (heavy : (s : State) → Keeps J s → Stays s → (r x : Task) → IsMember r s.tasks → r.role ≡ Running → 1 ≤ left r
    → IsMember x s.tasks → x.role ≡ Waiting → latest_start x ≡ s.clock → x.number ≡ n
    → j.deadline ≤ s.clock + j.work → s.clock < j.deadline → (steady ≡ true → s.clock + j.work ≡ j.deadline)
    → IsHeavy J.rules.ratio j.value (sum_by (chosen_value (holds s)) (numbered J)))
    (undisplaced : (s : State) → Keeps J s → Stays s → (r x : Task) → IsMember r s.tasks → r.role ≡ Running
    → 1 ≤ left r → IsMember x s.tasks → x.role ≡ Waiting → latest_start x ≡ s.clock
    → is_heavy J.rules.ratio x.job.value (value_sum (privileged s)) ≡ true → (t : Task) → IsMember t s.tasks
    → is_privileged t ≡ true → t.number ≡ n → steady ≡ true → ⊥) where
  module _ (s : State) (keeps : Keeps J s) (stays : Stays s) where
    -- it isn't abandoned
    not_abandoned : (r x : Task) → IsMember r s.tasks → r.role ≡ Running → 1 ≤ left r → IsMember x s.tasks
        → x.role ≡ Waiting → latest_start x ≡ s.clock
        → is_heavy J.rules.ratio x.job.value (value_sum (privileged s)) ≡ false → x.number ≡ n
        → (steady ≡ true → x.had ≡ 0) → ⊥
    not_abandoned r x member runs some x_member waiting now light same nothing =
        let is_j : x.job ≡ j = the_job J n j there s keeps x x_member same in
        let fits : (1 ≤ left x) × (x.job.release ≤ s.clock) × (s.clock + left x ≤ x.job.deadline) =
        says s keeps.sound x x_member Waiting waiting in
        let one : 1 ≤ left x = fits.0 in
        let slack : s.clock + left x ≤ x.job.deadline = fits.2 in
        let due : x.job.deadline ≡ j.deadline = ap (λ (i : JobFacts). i.deadline) is_j in
        let work : x.job.work ≡ j.work = ap (λ (i : JobFacts). i.work) is_j in
        let start : x.job.deadline - left x ≡ s.clock = now in
        let rest : left x ≡ x.job.work - x.had = refl in
        let enough : IsHeavy J.rules.ratio j.value (sum_by (chosen_value (holds s)) (numbered J)) =
        heavy s keeps stays r x member runs some x_member waiting now same (omega arith) (omega arith)
        (λ e. let had : x.had ≡ 0 = nothing e in omega arith) in
        never (sym light ∙ subst (λ (i : JobFacts). IsHeavy J.rules.ratio i.value (value_sum (privileged s)))
        (sym is_j) (subst (IsHeavy J.rules.ratio j.value)
        (held_worth J n j there s keeps r x member runs some x_member waiting now) enough))

    -- each step keeps it, or completes the job in time
    step_unlost : IsUnlost steady n s → IsUnlost steady n (after s (step J.rules s)) ⊎ Ends n s (step J.rules s)
    step_unlost unlost = deed_unlost steady n J.rules.ratio s (ending s or_else Ticks) keeps.sound
        (λ r x member runs some x_member waiting now light same nothing.
        not_abandoned r x member runs some x_member waiting now light same nothing)
        (λ r x t member runs some x_member waiting now takes m is_in same e.
        undisplaced s keeps stays r x member runs some x_member waiting now takes t m is_in same e)
        (λ quiet. by_end (list_all is_over s.tasks)) unlost (step J.rules s) (step_deed J valid s keeps J.rules) where
          by_end : (b : Bool) → IsUnlost steady n
              (after s (then_some b (Prints (End (value_sum (filter is_done s.tasks)))) or_else Ticks))
          by_end true = subst (λ (tasks : List Task). IsUnlost steady n (record s { tasks = tasks }))
              (sym (end_same s (value_sum (filter is_done s.tasks)))) unlost
          by_end false = tick_unlost steady n s unlost

    -- while it is so, not all jobs are over
    not_over : IsUnlost steady n s → Each (λ t. is_over t ≡ true) s.tasks → ⊥
    not_over unlost over = by_task (the_task J n j there s keeps) where
      by_role : (t : Task) → Unlost steady t.role t.had → (t.role ≡ Done) ⊎ (t.role ≡ Gone) → ⊥
      by_role t before (inl e) = subst (λ role. Unlost steady role t.had) e before
      by_role t before (inr e) = subst (λ role. Unlost steady role t.had) e before

      by_task : (u : Task) × IsMember u s.tasks × (u.number ≡ n) × (u.job ≡ j) → ⊥
      by_task it = by_role it.0 (unlost it.0 it.1 it.2) (is_over_role it.0 (over it.0 it.1))

  -- what a list of steps completes
  abbrev CompletedIn : List Event → Type 0
  CompletedIn events = (tick : ℕ) × IsMember (Complete tick n) events × (tick ≤ j.deadline)

  -- the rest of a run completes it
  completes : (xs : List Step) (s : State) → Keeps J s → Stays s → IsUnlost steady n s → IsWholeRun J.rules s xs
      → CompletedIn (printed_of xs)
  completes [] s keeps stays unlost whole = absurd whole
  completes (x ∷ xs) s keeps stays unlost whole =
      by_step (step_unlost s keeps stays unlost)
      (λ later more. completes xs (after s (step J.rules s)) (step_kept J valid s keeps J.rules)
      (goes_on s keeps stays) later more) where
        by_step : IsUnlost steady n (after s (step J.rules s)) ⊎ Ends n s (step J.rules s)
            → (IsUnlost steady n (after s (step J.rules s)) → IsWholeRun J.rules (after s (step J.rules s)) xs
            → CompletedIn (printed_of xs)) → CompletedIn (printed_of (x ∷ xs))
        by_step (inr it) more = (
          s.clock,
          subst (λ (m : Move). IsMember (Complete s.clock n) (cons_option (event_of m) (printed_of xs)))
              (sym (ap (λ (y : Step). y.move) whole.0 ∙ it.is)) (inl refl),
          subst (λ (i : JobFacts). s.clock ≤ i.deadline) (the_job J n j there s keeps it.job it.member it.is_n)
              it.in_time,
        )
        by_step (inl later) more = by_end (is_end (step J.rules s)) refl whole.1 where
          by_end : (b : Bool) → is_end (step J.rules s) ≡ b
              → MatchBool b (xs ≡ []) (IsWholeRun J.rules (after s (step J.rules s)) xs)
              → CompletedIn (printed_of (x ∷ xs))
          by_end true last _ = absurd (not_over s keeps stays unlost (end_over J valid s keeps J.rules last).1)
          by_end false on rest = let it : CompletedIn (printed_of xs) = more later rest in
              (it.0, printed_later (Complete it.0 n) (event_of x.move) (printed_of xs) it.1, it.2)

  -- the run completes it
  run_completes : IsCompleted J n j
  run_completes = as_record (completes (run J) (opening J.jobs) (opening_keeps J) opens begins
      (run_is_whole J valid)) where
        begins : IsUnlost steady n (opening J.jobs)
        begins t m same = subst (λ role. Unlost steady role t.had) (sym (come_coming 0 J.jobs t m).0) tt

        as_record : CompletedIn (printed J) → IsCompleted J n j
        as_record it = record { tick = it.0; event = it.1; in_time = it.2 }

-- a job of which the above holds where jobs are chosen by deadline
stacked_completes : (J : Instance) (n : ℕ) (j : JobFacts) → IsValid J → IsByDeadline J.rules.version
    → IsMember (n, j) (numbered J) → (steady : Bool)
    → ((t : ℕ) → j.deadline ≤ t + j.work → t < j.deadline → (steady ≡ true → t + j.work ≡ j.deadline)
    → IsHeavyAt J n j t)
    → (steady ≡ true → NoneDisplaces J j) → IsCompleted J n j
stacked_completes J n j valid by_order there steady heavy none = run_completes J valid n j there steady IsStacked
    (opening_stacked J.jobs) (λ s keeps stacked. step_stacked J valid s keeps J.rules by_order stacked)
    (λ s keeps stacked r x member runs some x_member waiting now same from until only. heavy s.clock from until only
    (holds s) (can_hold J valid n j there steady heavy none s keeps stacked r x member runs some x_member waiting now
    same))
    (λ s keeps stacked r x member runs some x_member waiting now.
    not_displaced J valid n j there steady heavy none s keeps stacked r x member runs some x_member waiting now)

-- a job that is heavy, at each tick from its latest start to its deadline, against what can hold the processor there
pub heavy_throughout : (J : Instance) (n : ℕ) (j : JobFacts) → IsValid J
    → IsByDeadline J.rules.version → IsMember (n, j) (numbered J)
    → ((t : ℕ) → j.deadline ≤ t + j.work → t < j.deadline → IsHeavyAt J n j t) → IsCompleted J n j
heavy_throughout J n j valid by_order there heavy =
    stacked_completes J n j valid by_order there false (λ t from until _. heavy t from until) (λ e. never e)

-- so is one that is heavy at its latest start, where no job can displace it
pub heavy_at_start : (J : Instance) (n : ℕ) (j : JobFacts) → IsValid J
    → IsByDeadline J.rules.version → IsMember (n, j) (numbered J)
    → IsHeavyAt J n j (j.deadline - j.work) → NoneDisplaces J j → IsCompleted J n j
heavy_at_start J n j valid by_order there heavy none =
    stacked_completes J n j valid by_order there true
    (λ t from until now. let at : t + j.work ≡ j.deadline = now refl in
    subst (IsHeavyAt J n j) (let e : j.deadline - j.work ≡ t = omega arith in e) heavy) (λ _. none)

-- jobs beside this one that cross a tick are worth no more than all that do
chosen_beside : (J : Instance) (n t : ℕ) (chosen : ℕ → Bool) → chosen n ≡ false
    → Each (λ m_i. chosen m_i.0 ≡ true → crosses t m_i.1 ≡ true) (numbered J)
    → sum_by (chosen_value chosen) (numbered J) ≤ worth_beside J n t
chosen_beside J n t chosen waits crossing = sum_le (chosen_value chosen) (crossing_beside n t) (numbered J)
    (λ m_i m. by_chosen m_i m (chosen m_i.0) refl (eqb m_i.0 n) refl) where
      by_chosen : (m_i : ℕ × JobFacts) → IsMember m_i (numbered J) → (b : Bool) → chosen m_i.0 ≡ b → (c : Bool)
          → eqb m_i.0 n ≡ c → cond b m_i.1.value 0 ≤ cond (not c && crosses t m_i.1) m_i.1.value 0
      by_chosen m_i m false out c e = omega arith
      by_chosen m_i m true is_in true e = never (sym waits ∙ subst (λ i. chosen i ≡ true) (eqb-true _ _ e) is_in)
      by_chosen m_i m true is_in false e = rw (crossing m_i m is_in) (omega arith)

-- in every version a job is completed that is heavy against all that cross its latest start, where none that may meet
-- it is heavy against it
pub heavy_in_all : (J : Instance) (n : ℕ) (j : JobFacts) → IsValid J → IsMember (n, j) (numbered J)
    → IsHeavy J.rules.ratio j.value (worth_beside J n (j.deadline - j.work)) → NoneMeets J j → IsCompleted J n j
heavy_in_all J n j valid there heavy none = run_completes J valid n j there true (λ _. Unit {0}) tt (λ _ _ _. tt)
    (λ s keeps _ r x member runs some x_member waiting now same from until only.
    let at : s.clock + j.work ≡ j.deadline = only refl in
    let here : j.deadline - j.work ≡ s.clock = omega arith in
    heavy_mono J.rules.ratio j.value (sum_by (chosen_value (holds s)) (numbered J)) (worth_beside J n s.clock)
    (chosen_beside J n s.clock (holds s)
    (held_without J n j there s keeps r x member runs some x_member waiting now same)
    (held_cross J n j there s keeps r x member runs some x_member waiting now))
    (subst (λ t. IsHeavy J.rules.ratio j.value (worth_beside J n t)) here heavy))
    displaced_never where
      displaced_never : (s : State) → Keeps J s → Unit {0} → (r x : Task) → IsMember r s.tasks → r.role ≡ Running
          → 1 ≤ left r → IsMember x s.tasks → x.role ≡ Waiting → latest_start x ≡ s.clock
          → is_heavy J.rules.ratio x.job.value (value_sum (privileged s)) ≡ true → (t : Task) → IsMember t s.tasks
          → is_privileged t ≡ true → t.number ≡ n → true ≡ true → ⊥
      displaced_never s keeps _ r x member runs some x_member waiting now takes t m is_in same _ =
          let is_j : t.job ≡ j = the_job J n j there s keeps t m same in
          let parts : (1 ≤ left t) × (t.job.release ≤ s.clock) × (s.clock + left t ≤ t.job.deadline) =
          some_left J n j there s keeps r x member runs some x_member waiting now t m is_in in
          let fits : (1 ≤ left x) × (x.job.release ≤ s.clock) × (s.clock + left x ≤ x.job.deadline) =
          says s keeps.sound x x_member Waiting waiting in
          let one : 1 ≤ left t = parts.0 in
          let slack : s.clock + left t ≤ t.job.deadline = parts.2 in
          let x_one : 1 ≤ left x = fits.0 in
          let x_slack : s.clock + left x ≤ x.job.deadline = fits.2 in
          let due : t.job.deadline ≡ j.deadline = ap (λ (i : JobFacts). i.deadline) is_j in
          let from : t.job.release ≡ j.release = ap (λ (i : JobFacts). i.release) is_j in
          let start : x.job.deadline - left x ≡ s.clock = now in
          let rest : left x ≡ x.job.work - x.had = refl in
          none x.job (x_listed J n j there s keeps r x member runs some x_member waiting now)
          (omega (arith, from, parts.1, x_one, x_slack)) (omega (arith, due, one, slack, start, rest, x_slack, x_one))
          (heavier J n j there s keeps r x member runs some x_member waiting now takes t m is_in same)

-- what is heavy against all that crosses a tick beside the job is heavy there
pub heavy_beside : (J : Instance) (n : ℕ) (j : JobFacts) (t : ℕ) → IsHeavy J.rules.ratio j.value (worth_beside J n t)
    → IsHeavyAt J n j t
heavy_beside J n j t heavy chosen can =
    heavy_mono J.rules.ratio j.value (sum_by (chosen_value chosen) (numbered J)) (worth_beside J n t)
    (chosen_beside J n t chosen can.waits can.crossing) heavy

-- in each state of a run, what holds the processor fits its windows
pub run_fits : (J : Instance) → IsValid J → IsByDeadline J.rules.version → Each (λ x. FitWindows x.before.tasks) (run J)
run_fits J valid by_order x m l member is_in =
    let it : (x.move ≡ step J.rules x.before) × Keeps J x.before × IsStacked x.before =
    run_states J valid J.rules IsStacked (λ s keeps stacked on. step_stacked J valid s keeps J.rules by_order
    stacked) (run J)
    (opening J.jobs) (opening_keeps J) (opening_stacked J.jobs) (run_is_whole J valid) x m in
    works_fit x.before it.1.sound it.2 l member is_in
