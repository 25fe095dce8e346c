-- A policy's run, tick by tick: its tasks, its schedule, and what it is worth.
use Rattle.std.proofs.Common.{◌≡◌, ℕ, suc, zero, ◌+◌, ◌-◌, ◌≤◌, ◌<◌, inl, inr, List, [], ◌∷◌, ◌++◌, length, map, refl}
use Rattle.std.proofs.Common.{sym, ap, ◌∙◌, subst, Bool, true, false, cond, eqb, arith, add-one, append_assoc}
use Rattle.std.proofs.Common.{append-nil}
use Rattle.std.proofs.Common.{nat_le, Option, Some, None, unwrap_or, sum_by, filter, eq-eqb, eqb-true, ne_eqb}
use Rattle.std.specs.List.{enumerate_from}
use Rattle.std.proofs.lemmas.List.{length_push}
use Rattle.dover_model.specs.Common.{JobFacts, Rules, entry_of, to_come, left, ticks_given, is_served, worth, given}
use Rattle.dover_model.specs.Common.{last_deadline, IsMember, Each, IsNumberedFrom, jobs_of, IsJob}
use Rattle.dover_model.specs.declared.events.Task.{Task}
use Rattle.dover_model.specs.declared.events.Entry.{Entry}
use Rattle.dover_model.proofs.steps.Kept.{come_numbered, come_jobs}
use Rattle.dover_model.proofs.lists.Members.{on_map, sum_same, sum_le, sum_map, cond_le, map_member}
use Rattle.dover_model.proofs.steps.Roles.{numbered_map, one_number}
use Rattle.dover_model.proofs.runs.Serving.{given_nil}
use Rattle.dover_model.proofs.runs.Honest.{numbers_low, count_jobs, sum_tasks, given_miss, given_hit}
use Rattle.policy_lab.specs.Picks.{Picks, IsPick, IsPolicy}
use Rattle.policy_lab.specs.PolicyRun.{is_ready, picked, policy_run_from, policy_run}
use Rattle.policy_lab.specs.Counts.{served_count}
use Rattle.policy_lab.specs.Bench.{tasks_at, schedule_before, served_by, served_value, served_jobs}
use Rattle.policy_lab.proofs.Given.{ready_says, given_number, given_job, Fits}
use Rattle.policy_lab.proofs.Entries.{are_ready, number_ready}

-- ---- numbers and jobs

jobs_given : (n : ℕ) (tasks : List Task) → jobs_of (map (given n) tasks) ≡ jobs_of tasks
jobs_given n [] = refl
jobs_given n (task ∷ tasks) = let here : (given n task).job ≡ task.job = given_job n task in
    let rest : jobs_of (map (given n) tasks) ≡ jobs_of tasks = jobs_given n tasks in cc

module _ (picks : Picks) (jobs : List JobFacts) where
  -- the tasks keep their numbers
  pub numbered_at : (t : ℕ) → IsNumberedFrom 0 (tasks_at picks jobs t)
  numbered_at zero = come_numbered 0 jobs
  numbered_at (suc t) = numbered_map _ (given_number (picked picks t (tasks_at picks jobs t))) _ _ (numbered_at t)

  -- and their jobs
  pub jobs_at : (t : ℕ) → jobs_of (tasks_at picks jobs t) ≡ jobs
  jobs_at zero = come_jobs 0 jobs
  jobs_at (suc t) = jobs_given (picked picks t (tasks_at picks jobs t)) (tasks_at picks jobs t) ∙ jobs_at t

  -- which are within the limits
  pub good_at : Each IsJob jobs → (t : ℕ) → Each (λ task. IsJob task.job) (tasks_at picks jobs t)
  good_at good t task member = good task.job
      (subst (IsMember task.job) (jobs_at t) (map_member (λ u. u.job) (tasks_at picks jobs t) task member))

  -- no more is served than there is
  pub most_served : (amount : JobFacts → ℕ) (t : ℕ) → served_by amount (tasks_at picks jobs t) ≤ sum_by amount jobs
  most_served amount t =
      let less : served_by amount tasks ≤ sum_by (λ task. amount task.job) tasks =
      sum_le (λ task. cond (eqb (left task) 0) (amount task.job) 0) (λ task. amount task.job) tasks
      (λ task member. cond_le (eqb (left task) 0) (amount task.job)) in
      let all : sum_by (λ task. amount task.job) tasks ≡ sum_by amount jobs =
      sym (sum_map (λ (task : Task). task.job) amount tasks) ∙ ap (sum_by amount) (jobs_at t) in
      omega arith where
        tasks : List Task
        tasks = tasks_at picks jobs t

  -- the schedule has a place for each tick
  pub schedule_length : (t : ℕ) → length (schedule_before picks jobs t) ≡ t
  schedule_length zero = refl
  schedule_length (suc t) = length_push (schedule_before picks jobs t) (picked picks t (tasks_at picks jobs t))
      ∙ ap (λ n. n + 1) (schedule_length t) ∙ add-one t

  -- what comes before tick t, and from it on, is the whole
  split_at : (n t m : ℕ) → m ≡ t + n
      → schedule_before picks jobs t ++ policy_run_from picks n t (tasks_at picks jobs t) ≡ schedule_before picks jobs m
  split_at zero t m e = append-nil (schedule_before picks jobs t)
      ∙ ap (schedule_before picks jobs) (let same : t ≡ m = omega arith in same)
  split_at (suc n) t m e =
      sym (append_assoc (schedule_before picks jobs t) (picked picks t (tasks_at picks jobs t) ∷ [])
      (policy_run_from picks n (t + 1) (tasks_at picks jobs (suc t))))
      ∙ ap (λ u. schedule_before picks jobs (suc t) ++ policy_run_from picks n u (tasks_at picks jobs (suc t)))
      (add-one t)
      ∙ split_at n (suc t) m (omega arith)

  -- the policy's run, as the schedule of the ticks before the last deadline
  pub run_is : policy_run picks jobs ≡ schedule_before picks jobs (last_deadline jobs)
  run_is = split_at (last_deadline jobs) 0 (last_deadline jobs) (omega arith)

  module _ (policy : IsPolicy picks) (count : length jobs ≤ 1_000_000) where
    -- no job has the number that names none
    pub low_numbers : (t : ℕ) → Each (λ task. task.number < 1_000_000) (tasks_at picks jobs t)
    low_numbers t task member =
        let low : task.number < 0 + length (tasks_at picks jobs t) =
        numbers_low 0 (tasks_at picks jobs t) (numbered_at t) task member in
        omega (arith, count_jobs (tasks_at picks jobs t), ap length (jobs_at t))

    -- each tick goes to a job that is ready
    pub fits_at : (t : ℕ) → Fits (picked picks t (tasks_at picks jobs t)) t (tasks_at picks jobs t)
    fits_at t = by_pick (picks ready) refl (policy ready (are_ready t tasks (numbered_at t))) where
      tasks : List Task
      tasks = tasks_at picks jobs t

      ready : List Entry
      ready = map entry_of (filter (is_ready t) tasks)

      by_pick : (o : Option ℕ) → picks ready ≡ o → IsPick ready o → Fits (unwrap_or o 4_000_000_000) t tasks
      by_pick None e none task member same =
          let idle : task.number ≡ 4_000_000_000 = eqb-true task.number 4_000_000_000 same in
          let low : task.number < 1_000_000 = low_numbers t task member in absurd (omega arith)
      by_pick (Some n) e one task member same =
          let it = number_ready t n tasks one in
          let number : task.number ≡ n = eqb-true task.number n same in
          let is_it : task ≡ it.0 = one_number 0 tasks (numbered_at t) task it.0 member it.1 (number ∙ it.3) in
          ap (is_ready t) is_it ∙ it.2

    -- the ticks so far are those that the jobs had
    pub gave : (t : ℕ) → Each (λ task. ticks_given (schedule_before picks jobs t) task.number task.job ≡ task.had)
        (tasks_at picks jobs t)
    gave zero task member = given_nil (λ m. eqb m task.number) task.job.release task.job.deadline
        ∙ sym (none_had 0 jobs task member) where
          none_had : (n : ℕ) (js : List JobFacts) → Each (λ (u : Task). u.had ≡ 0) (to_come n js)
          none_had n [] u m = absurd m
          none_had n (j ∷ js) u (inl e) = ap (λ (v : Task). v.had) e
          none_had n (j ∷ js) u (inr m) = none_had (suc n) js u m
    gave (suc t) later among = one_more (gave t) later among where
      tasks : List Task
      tasks = tasks_at picks jobs t

      n : ℕ
      n = picked picks t tasks

      past : List ℕ
      past = schedule_before picks jobs t

      one_more : Each (λ task. ticks_given past task.number task.job ≡ task.had) tasks
          → Each (λ task. ticks_given (past ++ (n ∷ [])) task.number task.job ≡ task.had) (map (given n) tasks)
      one_more before = on_map (given n) (λ task. ticks_given (past ++ (n ∷ [])) task.number task.job ≡ task.had) tasks
          (λ task member. by_test task member (eqb task.number n) refl) where
            by_test : (task : Task) → IsMember task tasks → (b : Bool) → eqb task.number n ≡ b
                → ticks_given (past ++ (n ∷ [])) (cond b (record task { had = task.had + 1 }) task).number
                (cond b (record task { had = task.had + 1 }) task).job
                ≡ (cond b (record task { had = task.had + 1 }) task).had
            by_test task member true same =
                let says : (task.job.release ≤ t) × (0 < left task) × (t + left task ≤ task.job.deadline) =
                ready_says t task (fits_at t task member same) in
                let released : task.job.release ≤ t = says.0 in
                let some : 0 < left task = says.1 in
                let fits : t + left task ≤ task.job.deadline = says.2 in
                given_hit (λ m. eqb m task.number) n
                (eq-eqb n task.number (sym (eqb-true task.number n same))) past task.job.release task.job.deadline
                (omega (arith, schedule_length t)) (omega (arith, schedule_length t))
                ∙ ap (λ had. had + 1) (before task member)
            by_test task member false other =
                given_miss (λ m. eqb m task.number) n
                (ne_eqb n task.number (λ same. clash (eq-eqb task.number n (sym same)))) past
                task.job.release task.job.deadline ∙ before task member where
                  clash : eqb task.number n ≡ true → ⊥
                  clash same = let e : true ≡ false = sym same ∙ other in cc

    -- what a schedule serves so far is what the jobs are that are served fully
    pub serves_before : (amount : JobFacts → ℕ) (t : ℕ)
        → sum_by (λ n_j. cond (is_served (schedule_before picks jobs t) n_j) (amount n_j.1) 0) (enumerate_from 0 jobs)
        ≡ served_by amount (tasks_at picks jobs t)
    serves_before amount t =
        ap (λ js. sum_by (λ n_j. cond (is_served past n_j) (amount n_j.1) 0) (enumerate_from 0 js)) (sym (jobs_at t))
        ∙ sum_tasks (λ n_j. cond (is_served past n_j) (amount n_j.1) 0) 0 tasks (numbered_at t)
        ∙ sum_same (λ task. cond (is_served past (task.number, task.job)) (amount task.job) 0)
        (λ task. cond (eqb (left task) 0) (amount task.job) 0) tasks
        (λ task member. ap (λ b. cond b (amount task.job) 0)
        (ap (nat_le task.job.work) (gave t task member) ∙ done task.job.work task.had)) where
          tasks : List Task
          tasks = tasks_at picks jobs t

          past : List ℕ
          past = schedule_before picks jobs t

          done : (work had : ℕ) → nat_le work had ≡ eqb (work - had) 0
          done work had = grind arith

    -- what the whole run is worth
    pub worth_is : (rules : Rules)
        → worth (record { rules = rules; jobs = jobs }) (policy_run picks jobs) ≡ served_value
        (tasks_at picks jobs (last_deadline jobs))
    worth_is rules = ap (worth (record { rules = rules; jobs = jobs })) run_is
        ∙ serves_before (λ j. j.value) (last_deadline jobs)

    -- and how many jobs it serves
    pub serves_is : served_count jobs (policy_run picks jobs) ≡ served_jobs (tasks_at picks jobs (last_deadline jobs))
    serves_is = ap (served_count jobs) run_is ∙ serves_before (λ j. 1) (last_deadline jobs)
