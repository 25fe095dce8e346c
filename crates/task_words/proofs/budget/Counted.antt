-- How often a job gets the processor at most, counted task by task.
use Rattle.std.proofs.Common.{◌≡◌, ℕ, suc, ◌+◌, ◌-◌, ◌*◌, ◌≤◌, ◌<◌, ◌⊎◌, inl, inr, List, [], ◌∷◌, length}
use Rattle.std.proofs.Common.{refl, sym, ap, ◌∙◌, subst, Bool, true, false, cond, eqb, arith}
use Rattle.std.specs.Prelude.{nat_lt, ◌&&◌}
use Rattle.std.specs.Int.{div_ceil}
use Rattle.std.specs.List.{sum_by, count_by, filter, enumerate_from}
use Rattle.std.proofs.Math.Nat.{lt_of_mul-lt-mul_right, mul-le-mul_left}
use Rattle.std.proofs.lemmas.Bool.{ne_eqb, eq-eqb, eqb-true, cases_lt, lt-ltb, le-ltb}
use Rattle.std.proofs.lemmas.Grind.{div_ceil_times}
use Rattle.std.proofs.lemmas.List.{get_or-map, length-map}
use Rattle.std.proofs.lemmas.List.Sums.{sum_by-cons}
use Rattle.dover_model.specs.declared.events.Task.{Task}
use Rattle.dover_model.specs.Common.{need, Fraction, Instance, IsValid, JobFacts, end_state, is_heavy, ran, numbered}
use Rattle.dover_model.specs.Common.{IsMember, Each, is_done}
use Rattle.task_laws.specs.Switches.{AreOfTask, may_preempt, may_take, most_changes, useful}
use Rattle.task_laws.proofs.switches.Families.{few_of_task_preempt, few_of_task_take}
use Rattle.dover_model.proofs.lists.Members.{sum_le, sum_same, sum_zero, sum_plus, filter_member}
use Rattle.task_laws.proofs.switches.Stretches.{budget_holds, its_job}
use Rattle.task_words.specs.tasks.Merging.{blank_task}
use Rattle.task_words.specs.declared.tasks.task.PeriodicTask.{PeriodicTask}
use Rattle.task_words.specs.budget.Budgets.{most_preempting, most_taking, most_gets, with_budget, budgeted, task_at}
use Rattle.task_words.specs.budget.Budgets.{jobs_of, AreOfTasks}

-- ---- a number that counts once

module _ {X : Type 0} (z c : ℕ) where
  -- so much for its own number
  abbrev own : ℕ × X → ℕ
  own y_t = cond (eqb z y_t.0) c 0

  none_later : (k : ℕ) (xs : List X) → z < k → sum_by own (enumerate_from k xs) ≡ 0
  none_later k [] less = refl
  none_later k (x ∷ xs) less =
      let skips : cond (eqb z k) c 0 ≡ 0 =
      ap (λ b. cond b c 0) (ne_eqb z k (λ same. absurd (omega (arith, same, less)))) in
      let rest : sum_by own (enumerate_from (k + 1) xs) ≡ 0 = none_later (k + 1) xs (omega (arith, less)) in
      omega (arith, sum_by-cons own (k, x) (enumerate_from (k + 1) xs), skips, rest)

  once : (k : ℕ) (xs : List X) → k ≤ z → z < k + length xs → sum_by own (enumerate_from k xs) ≡ c
  once k [] low high = absurd (omega (arith, low, high))
  once k (x ∷ xs) low high = by_order (cases_lt k z) (λ more. once (k + 1) xs more (omega (arith, high))) where
    by_order : (k < z) ⊎ (z ≤ k) → (k + 1 ≤ z → sum_by own (enumerate_from (k + 1) xs) ≡ c)
        → sum_by own (enumerate_from k (x ∷ xs)) ≡ c
    by_order (inl less) rest =
        let skips : cond (eqb z k) c 0 ≡ 0 =
        ap (λ b. cond b c 0) (ne_eqb z k (λ same. absurd (omega (arith, same, less)))) in
        omega (arith, sum_by-cons own (k, x) (enumerate_from (k + 1) xs), skips, rest (omega (arith, less)))
    by_order (inr more) _ =
        let same : z ≡ k = omega (arith, low, more) in
        let counts : cond (eqb z k) c 0 ≡ c = ap (λ b. cond b c 0) (eq-eqb z k same) in
        omega (
          arith,
          sum_by-cons own (k, x) (enumerate_from (k + 1) xs),
          counts,
          none_later (k + 1) xs (omega (arith, same)),
        )

-- ---- all jobs, task by task

module _ {X : Type 0} (p : ℕ × JobFacts → Bool) (of : ℕ → ℕ) (tasks : List X) where
  -- of one task, so many
  abbrev count_of : List (ℕ × JobFacts) → ℕ × X → ℕ
  count_of jobs y_t = count_by p (jobs_of of y_t.0 jobs)

  -- one job more
  one_more : (j : ℕ × JobFacts) (jobs : List (ℕ × JobFacts)) (y_t : ℕ × X)
      → count_of (j ∷ jobs) y_t ≡ cond (eqb (of j.0) y_t.0) (cond (p j) 1 0) 0 + count_of jobs y_t
  one_more j jobs y_t = by_test (eqb (of j.0) y_t.0) where
    by_test : (b : Bool) → count_by p (cond b (j ∷ jobs_of of y_t.0 jobs) (jobs_of of y_t.0 jobs))
        ≡ cond b (cond (p j) 1 0) 0 + count_by p (jobs_of of y_t.0 jobs)
    by_test true = sum_by-cons (λ x. cond (p x) 1 0) j (jobs_of of y_t.0 jobs)
    by_test false = omega arith

  -- their counts are the count of all
  pub by_tasks : (jobs : List (ℕ × JobFacts)) → Each (λ m_i. of m_i.0 < length tasks) jobs
      → count_by p jobs ≡ sum_by (count_of jobs) (enumerate_from 0 tasks)
  by_tasks [] named = sym (sum_zero (count_of []) (enumerate_from 0 tasks) (λ y_t member. refl))
  by_tasks (j ∷ jobs) named =
      let rest : count_by p jobs ≡ sum_by (count_of jobs) (enumerate_from 0 tasks) =
      by_tasks jobs (λ m_i member. named m_i (inr member)) in
      let less : of j.0 < length tasks = named j (inl refl) in
      let split : sum_by (count_of (j ∷ jobs)) (enumerate_from 0 tasks)
      ≡ sum_by (λ y_t. cond (eqb (of j.0) y_t.0) (cond (p j) 1 0) 0 + count_of jobs y_t) (enumerate_from 0 tasks) =
      sum_same (count_of (j ∷ jobs)) (λ y_t. cond (eqb (of j.0) y_t.0) (cond (p j) 1 0) 0 + count_of jobs y_t)
      (enumerate_from 0 tasks) (λ y_t member. one_more j jobs y_t) in
      omega (
        arith,
        sum_by-cons (λ x. cond (p x) 1 0) j jobs,
        rest,
        split,
        sum_plus (λ y_t. cond (eqb (of j.0) y_t.0) (cond (p j) 1 0) 0) (count_of jobs) (enumerate_from 0 tasks),
        once (of j.0) (cond (p j) 1 0) 0 tasks (omega arith) (omega (arith, less)),
      )

-- ---- one task's share

-- so many at a distance are no more than a span has distances
ceil_most : (span distance count : ℕ) → 1 ≤ distance → distance * count ≤ span + (distance - 1)
    → count ≤ div_ceil span distance
ceil_most span distance count some fits =
    let bounds : (span ≤ div_ceil span distance * distance) × (div_ceil span distance * distance < span + distance) =
    div_ceil_times span distance (omega (arith, some)) in
    let less : count < suc (div_ceil span distance) =
    lt_of_mul-lt-mul_right distance (let product : count * distance < suc (div_ceil span distance) * distance =
    omega (arith, fits, bounds.0, some) in product) in
    omega (arith, less)

-- none where there is no span
ceil_none : (distance count : ℕ) → 1 ≤ distance → distance * count ≤ 0 + (distance - 1) → count ≤ 0
ceil_none distance count some fits = by_order (cases_lt 0 count) where
  by_order : (0 < count) ⊎ (count ≤ 0) → count ≤ 0
  by_order (inl more) = absurd (let once : distance * 1 ≤ distance * count = mul-le-mul_left distance more in
      omega (arith, once, fits, some))
  by_order (inr none) = none

-- the sum over numbered tasks is that over tasks
numbered_sum : {X : Type 0} (f : X → ℕ) (k : ℕ) (xs : List X) → sum_by (λ y_t. f y_t.1) (enumerate_from k xs)
    ≡ sum_by f xs
numbered_sum f k [] = refl
numbered_sum f k (x ∷ xs) = omega (
  arith,
  sum_by-cons (λ y_t. f y_t.1) (k, x) (enumerate_from (k + 1) xs),
  sum_by-cons f x xs,
  numbered_sum f (k + 1) xs,
)

-- a numbered task is there, under its number
numbered_at : (i : ℕ) (tasks : List PeriodicTask) (y_t : ℕ × PeriodicTask) → IsMember y_t (enumerate_from i tasks)
    → (i ≤ y_t.0) × (y_t.0 < i + length tasks) × (task_at tasks (y_t.0 - i) ≡ y_t.1)
numbered_at i [] y_t member = absurd member
numbered_at i (x ∷ xs) y_t (inl e) =
    let same : y_t.0 ≡ i = ap (λ (n : ℕ × PeriodicTask). n.0) e in (
      omega (arith, same),
      omega (arith, same),
      ap (λ n. task_at (x ∷ xs) n) (let none : y_t.0 - i ≡ 0 = omega (arith, same) in none)
          ∙ sym (ap (λ (n : ℕ × PeriodicTask). n.1) e),
    )
numbered_at i (x ∷ xs) y_t (inr member) =
    let it : (i + 1 ≤ y_t.0) × (y_t.0 < i + 1 + length xs) × (task_at xs (y_t.0 - (i + 1)) ≡ y_t.1) =
    numbered_at (i + 1) xs y_t member in
    let low : i + 1 ≤ y_t.0 = it.0 in
    let high : y_t.0 < i + 1 + length xs = it.1 in (
      omega (arith, low),
      omega (arith, high),
      ap (λ n. task_at (x ∷ xs) n) (let more : y_t.0 - i ≡ suc (y_t.0 - (i + 1)) = omega (arith, low) in more) ∙ it.2,
    )

numbered_task : (tasks : List PeriodicTask) (y_t : ℕ × PeriodicTask) → IsMember y_t (enumerate_from 0 tasks)
    → (y_t.0 < length tasks) × (task_at tasks y_t.0 ≡ y_t.1)
numbered_task tasks y_t member =
    let it : (0 ≤ y_t.0) × (y_t.0 < 0 + length tasks) × (task_at tasks (y_t.0 - 0) ≡ y_t.1) =
    numbered_at 0 tasks y_t member in
    let high : y_t.0 < 0 + length tasks = it.1 in
    (omega (arith, high), ap (λ n. task_at tasks n) (let e : y_t.0 ≡ y_t.0 - 0 = omega arith in e) ∙ it.2)

-- ---- the budgets

-- what no job of these passes isn't counted
none_counted : (p : ℕ × JobFacts → Bool) (jobs : List (ℕ × JobFacts)) → Each (λ m_i. p m_i ≡ false) jobs
    → count_by p jobs ≤ 0
none_counted p jobs fails = omega (
  arith,
  sum_zero (λ x. cond (p x) 1 0) jobs (λ m_i member. ap (λ b. cond {A = ℕ} b 1 0) (fails m_i member)),
)

-- a member of a part is one of the whole, and passes
of_part : (q : ℕ × JobFacts → Bool) (jobs : List (ℕ × JobFacts)) (x : ℕ × JobFacts) → IsMember x (filter q jobs)
    → IsMember x jobs × (q x ≡ true)
of_part q [] x member = absurd member
of_part q (j ∷ jobs) x member = by_test (q j) refl (of_part q jobs x) member where
  by_test : (b : Bool) → q j ≡ b → (IsMember x (filter q jobs) → IsMember x jobs × (q x ≡ true))
      → IsMember x (cond b (j ∷ filter q jobs) (filter q jobs)) → IsMember x (j ∷ jobs) × (q x ≡ true)
  by_test true passes rest (inl e) = (inl e, subst (λ z. q z ≡ true) (sym e) passes)
  by_test true passes rest (inr m) = (inr (rest m).0, (rest m).1)
  by_test false fails rest m = (inr (rest m).0, (rest m).1)

module _ (J : Instance) (valid : IsValid J) (cost : ℕ) (tasks : List PeriodicTask) (of : ℕ → ℕ)
    (are : AreOfTasks (budgeted J.rules.ratio cost tasks) of J)
    (periods : (y : ℕ) → y < length tasks → 1 ≤ (task_at tasks y).period) where
  -- the ratio
  abbrev k : Fraction
  k = J.rules.ratio

  -- a task with its budget
  budgeted_at : (y : ℕ) → y < length tasks
      → task_at (budgeted k cost tasks) y ≡ with_budget k cost tasks (task_at tasks y)
  budgeted_at y less = get_or-map (with_budget k cost tasks) tasks y blank_task blank_task less

  -- as many as there are
  as_many : length (budgeted k cost tasks) ≡ length tasks
  as_many = length-map tasks (with_budget k cost tasks)

  -- the jobs of one task
  of_one : (y : ℕ) → y < length tasks
      → AreOfTask (task_at tasks y).period (task_at tasks y).deadline (jobs_of of y (numbered J))
  of_one y less = subst (λ (t : PeriodicTask). AreOfTask t.period t.deadline (jobs_of of y (numbered J)))
      (budgeted_at y less) (are.apart y (omega (arith, less, as_many)))

  module _ (n_j : ℕ × JobFacts) (member : IsMember n_j (numbered J)) where
    -- its task
    abbrev z : ℕ
    z = of n_j.0

    known : z < length tasks
    known = let less : z < length (budgeted k cost tasks) = are.named n_j member in omega (arith, less, as_many)

    due : n_j.1.deadline ≡ n_j.1.release + (task_at tasks z).deadline
    due = (of_one z known).ends n_j (filter_member (λ m_i. eqb (of m_i.0) z) (numbered J) n_j member (eq-eqb z z refl))

    worth : n_j.1.value ≡ (task_at tasks z).value
    worth = are.values n_j member ∙ ap (λ (t : PeriodicTask). t.value) (budgeted_at z known)

    budget : n_j.1.work ≡ (task_at tasks z).work + cost * most_gets k tasks (task_at tasks z)
    budget = are.works n_j member ∙ ap (λ (t : PeriodicTask). t.work) (budgeted_at z known)

    -- of each task few preempt it
    few_preempt : (y : ℕ) → y < length tasks → count_by (may_preempt n_j.1) (jobs_of of y (numbered J))
        ≤ most_preempting (task_at tasks z) (task_at tasks y)
    few_preempt y less = by_order (cases_lt (task_at tasks y).deadline (task_at tasks z).deadline) where
      few : (task_at tasks y).period * count_by (may_preempt n_j.1) (jobs_of of y (numbered J))
          ≤ (n_j.1.deadline - (n_j.1.release + (task_at tasks y).deadline)) + ((task_at tasks y).period - 1)
      few = few_of_task_preempt n_j.1 (task_at tasks y).period (task_at tasks y).deadline (jobs_of of y (numbered J))
          (periods y less) (of_one y less)

      span : n_j.1.deadline - (n_j.1.release + (task_at tasks y).deadline)
          ≡ (task_at tasks z).deadline - (task_at tasks y).deadline
      span = omega (arith, due)

      by_order : ((task_at tasks y).deadline < (task_at tasks z).deadline)
          ⊎ ((task_at tasks z).deadline ≤ (task_at tasks y).deadline)
          → count_by (may_preempt n_j.1) (jobs_of of y (numbered J))
          ≤ cond (nat_lt (task_at tasks y).deadline (task_at tasks z).deadline)
          (div_ceil ((task_at tasks z).deadline - (task_at tasks y).deadline) (task_at tasks y).period) 0
      by_order (inl later) = rw (lt-ltb _ _ later)
          (ceil_most ((task_at tasks z).deadline - (task_at tasks y).deadline) (task_at tasks y).period
          (count_by (may_preempt n_j.1) (jobs_of of y (numbered J))) (periods y less) (omega (arith, few, span)))
      by_order (inr sooner) = rw (le-ltb _ _ sooner)
          (ceil_none (task_at tasks y).period (count_by (may_preempt n_j.1) (jobs_of of y (numbered J)))
          (periods y less) (omega (arith, few, span, sooner)))

    -- and few take the processor from it
    few_take : (y : ℕ) → y < length tasks → count_by (may_take k n_j.1) (jobs_of of y (numbered J))
        ≤ most_taking k (task_at tasks z) (task_at tasks y)
    few_take y less = by_test (is_heavy k (task_at tasks y).value (task_at tasks z).value) refl where
      few : (task_at tasks y).period * count_by (may_take k n_j.1) (jobs_of of y (numbered J))
          ≤ (n_j.1.deadline + (task_at tasks y).deadline - (n_j.1.release + 1)) + ((task_at tasks y).period - 1)
      few = few_of_task_take n_j.1 (task_at tasks y).period (task_at tasks y).deadline (jobs_of of y (numbered J))
          (periods y less) (of_one y less) k

      light : is_heavy k (task_at tasks y).value (task_at tasks z).value ≡ false
          → Each (λ m_i. may_take k n_j.1 m_i ≡ false) (jobs_of of y (numbered J))
      light fails m_i part =
          let there : IsMember m_i (numbered J) × (eqb (of m_i.0) y ≡ true) =
          of_part (λ x. eqb (of x.0) y) (numbered J) m_i part in
          let value : m_i.1.value ≡ (task_at tasks y).value =
          are.values m_i there.0 ∙ ap (λ (n : ℕ). (task_at (budgeted k cost tasks) n).value) (eqb-true _ _ there.1)
          ∙ ap (λ (t : PeriodicTask). t.value) (budgeted_at y less) in
          ap (λ v. is_heavy k v n_j.1.value && nat_lt m_i.1.release n_j.1.deadline
          && nat_lt n_j.1.release m_i.1.deadline)
          value
          ∙ ap (λ v. is_heavy k (task_at tasks y).value v && nat_lt m_i.1.release n_j.1.deadline
          && nat_lt n_j.1.release m_i.1.deadline) worth
          ∙ ap (λ b. b && nat_lt m_i.1.release n_j.1.deadline && nat_lt n_j.1.release m_i.1.deadline) fails

      by_test : (b : Bool) → is_heavy k (task_at tasks y).value (task_at tasks z).value ≡ b
          → count_by (may_take k n_j.1) (jobs_of of y (numbered J))
          ≤ cond (is_heavy k (task_at tasks y).value (task_at tasks z).value)
          (div_ceil ((task_at tasks z).deadline + (task_at tasks y).deadline - 1) (task_at tasks y).period) 0
      by_test true heavy = rw heavy
          (ceil_most ((task_at tasks z).deadline + (task_at tasks y).deadline - 1) (task_at tasks y).period
          (count_by (may_take k n_j.1) (jobs_of of y (numbered J))) (periods y less) (omega (arith, few, due)))
      by_test false fails = rw fails (none_counted (may_take k n_j.1) (jobs_of of y (numbered J)) (light fails))

    -- so it gets the processor no more often than its task's jobs do at most
    pub few_gets : most_changes k (numbered J) n_j.1 ≤ most_gets k tasks (task_at tasks z)
    few_gets =
        let named : Each (λ m_i. of m_i.0 < length tasks) (numbered J) =
        (λ m_i m. let less : of m_i.0 < length (budgeted k cost tasks) = are.named m_i m in
        omega (arith, less, as_many)) in
        let preempting : sum_by (count_of (may_preempt n_j.1) of tasks (numbered J)) (enumerate_from 0 tasks)
        ≤ sum_by (λ y_t. most_preempting (task_at tasks z) y_t.1) (enumerate_from 0 tasks) =
        sum_le (count_of (may_preempt n_j.1) of tasks (numbered J))
        (λ y_t. most_preempting (task_at tasks z) y_t.1) (enumerate_from 0 tasks)
        (λ y_t m. subst (λ t. count_by (may_preempt n_j.1) (jobs_of of y_t.0 (numbered J))
        ≤ most_preempting (task_at tasks z) t) (there y_t m).1 (few_preempt y_t.0 (there y_t m).0)) in
        let taking : sum_by (count_of (may_take k n_j.1) of tasks (numbered J)) (enumerate_from 0 tasks)
        ≤ sum_by (λ y_t. most_taking k (task_at tasks z) y_t.1) (enumerate_from 0 tasks) =
        sum_le (count_of (may_take k n_j.1) of tasks (numbered J))
        (λ y_t. most_taking k (task_at tasks z) y_t.1) (enumerate_from 0 tasks)
        (λ y_t m. subst (λ t. count_by (may_take k n_j.1) (jobs_of of y_t.0 (numbered J))
        ≤ most_taking k (task_at tasks z) t) (there y_t m).1 (few_take y_t.0 (there y_t m).0)) in
        omega (
          arith,
          by_tasks (may_preempt n_j.1) of tasks (numbered J) named,
          by_tasks (may_take k n_j.1) of tasks (numbered J) named,
          preempting,
          taking,
          numbered_sum (most_preempting (task_at tasks z)) 0 tasks,
          numbered_sum (most_taking k (task_at tasks z)) 0 tasks,
        ) where
          there : (y_t : ℕ × PeriodicTask) → IsMember y_t (enumerate_from 0 tasks)
              → (y_t.0 < length tasks) × (task_at tasks y_t.0 ≡ y_t.1)
          there y_t m = numbered_task tasks y_t m

  -- a job that is done has had all its real work
  pub budgets_enough : (t : Task) (at_end : IsMember t (end_state J).tasks) → is_done t ≡ true
      → need J.rules.finishes t.number t.job.work ≡ t.job.work
      → (task_at tasks (of t.number)).work ≤ useful cost (ran J) (t.number, t.job)
  budgets_enough t at_end done whole =
      let member : IsMember (t.number, t.job) (numbered J) = its_job J valid cost t at_end in
      let times : cost * most_changes k (numbered J) t.job
      ≤ cost * most_gets k tasks (task_at tasks (of t.number)) =
      mul-le-mul_left cost (few_gets (t.number, t.job) member) in
      budget_holds J valid cost t at_end (task_at tasks (of t.number)).work done
      (omega (arith, times, whole, budget (t.number, t.job) member))
