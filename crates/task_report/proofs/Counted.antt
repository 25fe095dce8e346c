-- Jobs are counted one by one.
use Rattle.std.proofs.Common.{◌≡◌, ℕ, ◌+◌, ◌<◌, ◌≤◌, List, [], ◌∷◌, ◌++◌, length, map, take, get_or, Bool, true, false}
use Rattle.std.proofs.Common.{◌==◌, cond, sym, ap, ◌∙◌, arith, append-nil, take_all}
use Rattle.std.specs.List.{enumerate_from, filter, fold}
use Rattle.std.proofs.lemmas.List.{get_or-map, map-append}
use Rattle.std.proofs.lemmas.List.Elements.{filter_more}
use Rattle.std.proofs.lemmas.List.FromFn.{length-enumerate_from, get_or-enumerate_from}
use Rattle.std.proofs.lemmas.List.Sums.{fold_push}
use Rattle.std.proofs.lemmas.Grind.{common_steps}
use Rattle.dover_model.specs.Common.{JobFacts}
use Rattle.dover_model.specs.declared.events.Event.{Event}
use Rattle.task_words.specs.declared.tasks.task.PeriodicTask.{PeriodicTask}
use Rattle.run_reports.specs.report.Counts.{jobs_released}
use Rattle.task_report.specs.Counting.{Sorted, no_job, tally_in, with_job}
use Rattle.task_report.specs.Tallies.{all_together, job_tally, no_jobs, task_of, together}
use Rattle.task_report.specs.declared.counting.SortedRun.{SortedRun}
use Rattle.task_report.specs.declared.tally.Tally.{Tally}

module _ (tasks : List PeriodicTask) (steps : List Event) (y : ℕ) where
  -- whether a job is of the task
  abbrev is_of : ℕ × JobFacts → Bool
  is_of n_j = task_of tasks n_j.1 == y

  -- of the first jobs
  abbrev pub tally_up_to : List JobFacts → ℕ → Tally
  tally_up_to jobs n = all_together steps (filter is_of (take n (enumerate_from 0 jobs)))

  -- of one job more, if it is of the task
  one_more : (xs : List (ℕ × JobFacts)) (x : ℕ × JobFacts) (b : Bool)
      → cond b (together (all_together steps xs) (job_tally steps x)) (all_together steps xs)
      ≡ all_together steps (xs ++ cond b (x ∷ []) [])
  one_more xs x true = sym (ap (fold together no_jobs) (map-append (job_tally steps) xs (x ∷ []))
      ∙ fold_push together no_jobs (map (job_tally steps) xs) (job_tally steps x))
  one_more xs x false = ap (all_together steps) (sym (append-nil xs))

  -- counted from 0
  zero_more : (m : ℕ) → 0 + m ≡ m
  zero_more m = omega arith

  -- one job more
  pub tally_more : (jobs : List JobFacts) (n : ℕ) → n < length jobs
      → with_job tasks steps y (tally_up_to jobs n) (n, get_or jobs n no_job) ≡ tally_up_to jobs (n + 1)
  tally_more jobs n there =
      let all : List (ℕ × JobFacts) = enumerate_from 0 jobs in
      let here : get_or all n (0, no_job) ≡ (n, get_or jobs n no_job) =
      get_or-enumerate_from 0 jobs n (0, no_job) there ∙ ap (λ m. (m, get_or jobs n no_job)) (zero_more n) in
      one_more (filter is_of (take n all)) (n, get_or jobs n no_job) (is_of (n, get_or jobs n no_job))
      ∙ sym (ap (all_together steps) (filter_more is_of all n (0, no_job)
      (omega (arith, there, length-enumerate_from 0 jobs))
      ∙ ap (λ x. filter is_of (take n all) ++ cond (is_of x) (x ∷ []) []) here))

  -- all jobs
  pub tally_all : (jobs : List JobFacts) (n : ℕ) → length jobs ≤ n → jobs ≡ jobs_released steps
      → tally_up_to jobs n ≡ tally_in tasks steps y
  tally_all jobs n over are = ap (λ xs. all_together steps (filter is_of xs))
      (take_all n (enumerate_from 0 jobs) (omega (arith, over, length-enumerate_from 0 jobs)))
      ∙ ap (λ js. all_together steps (filter is_of (enumerate_from 0 js))) are

-- ---- the jobs of a run that is sorted

-- the number of a job's task
pub task_there : (tasks : List PeriodicTask) (steps : List Event) (run : SortedRun) → Sorted tasks steps run
    → (n d : ℕ) → n < length run.jobs.items → get_or run.of.items n d ≡ task_of tasks (get_or run.jobs.items n no_job)
task_there tasks steps run known n d there = ap (λ of. get_or of n d) known.sorted
    ∙ get_or-map (task_of tasks) run.jobs.items n no_job d there

-- a job of another task leaves the tally as it is
pub left_out : (x y : ℕ) (s t : Tally) → (x ≡ y → ⊥) → t ≡ cond (x == y) s t
left_out x y s t other = grind (arith, common_steps)

-- one of this task is taken into it
pub taken : (x y : ℕ) (r s t : Tally) → x ≡ y → r ≡ s → r ≡ cond (x == y) s t
taken x y r s t same is = grind (arith, common_steps)
