-- How many jobs tasks release before a tick, and what they are worth, by arithmetics.
use Rattle.std.proofs.Common.{◌≡◌, ℕ, zero, suc, ◌+◌, ◌-◌, ◌*◌, ◌/◌, ◌%◌, ◌<◌, ◌≤◌, List, [], ◌∷◌, length}
use Rattle.std.proofs.Common.{length-append, map, refl, sym, ap, ◌∙◌, Bool, true, false, cond, arith, ◌&&◌, ◌==◌}
use Rattle.std.proofs.Common.{nat_le, sum_by, filter, div-add-mod', leb-true, leb-false, ne_eqb}
use Rattle.std.specs.Int.{div_ceil}
use Rattle.std.specs.List.{AllByRecursion}
use Rattle.std.proofs.Math.Nat.{lt_of_mul-lt-mul_right}
use Rattle.std.proofs.lemmas.Grind.{div_ceil_times}
use Rattle.std.proofs.lemmas.Nat.{mod_below}
use Rattle.std.proofs.lemmas.List.Sums.{sum_by-append, sum_by-cons}
use Rattle.dover_model.specs.Instance.{total_value}
use Rattle.task_words.specs.tasks.Tasks.{releases, job_at, released_at, jobs_before, count_before}
use Rattle.task_words.specs.tasks.Limits.{counts, worths}
use Rattle.task_words.specs.declared.tasks.task.PeriodicTask.{PeriodicTask}

-- ---- quotients

-- where a product is below another one of the same factor
below : (a b p : ℕ) → a * p < b * p → a < b
below a b p less = lt_of_mul-lt-mul_right p less

-- one where this holds
abbrev one_if : Bool → ℕ
one_if b = cond b 1 0

-- a quotient that is rounded up, of one more
ceil_more : (n p : ℕ) → 0 < p → div_ceil (n + 1) p ≡ div_ceil n p + cond (n % p == 0) 1 0
ceil_more n p some = by (n % p) (div-add-mod' n p) (mod_below n p some) where
  q : ℕ
  q = n / p

  c : ℕ
  c = div_ceil n p

  d : ℕ
  d = div_ceil (n + 1) p

  low : (n ≤ c * p) × (c * p < n + p)
  low = div_ceil_times n p some

  high : (n + 1 ≤ d * p) × (d * p < (n + 1) + p)
  high = div_ceil_times (n + 1) p some

  by : (r : ℕ) → q * p + r ≡ n → r < p → d ≡ c + cond (r == 0) 1 0
  by zero is small =
      let c_most : c < q + 1 = below c (q + 1) p (omega (arith, low.1)) in
      let c_least : q < c + 1 = below q (c + 1) p (omega (arith, low.0)) in
      let d_most : d < q + 2 = below d (q + 2) p (omega (arith, high.1)) in
      let d_least : q < d = below q d p (omega (arith, high.0)) in omega arith
  by (suc r) is small =
      let c_most : c < q + 2 = below c (q + 2) p (omega (arith, low.1)) in
      let c_least : q < c = below q c p (omega (arith, low.0)) in
      let d_most : d < q + 2 = below d (q + 2) p (omega (arith, high.1)) in
      let d_least : q < d = below q d p (omega (arith, high.0)) in
      let none : one_if (suc r == 0) ≡ 0 = ap one_if (ne_eqb (suc r) 0 (λ same. absurd (omega (arith, same)))) in
      omega (arith, none)

-- ---- one task

-- it releases one job more, or none
count_more : (until : ℕ) (task : PeriodicTask) → 1 ≤ task.period
    → count_before (suc until) task ≡ count_before until task + cond (releases task until) 1 0
count_more until task period = by (nat_le task.offset until) refl where
  at : ℕ → ℕ
  at n = div_ceil n task.period

  by : (b : Bool) → nat_le task.offset until ≡ b
      → count_before (suc until) task ≡ count_before until task + cond
      (b && ((until - task.offset) % task.period == 0)) 1 0
  by true begun = ap at (let low : task.offset ≤ until = leb-true _ _ begun in
      let e : suc until - task.offset ≡ (until - task.offset) + 1 = omega arith in e)
      ∙ ceil_more (until - task.offset) task.period (omega (arith, period))
  by false not_begun = let high : until < task.offset = leb-false _ _ not_begun in
      let e : suc until - task.offset ≡ until - task.offset = omega arith in
      let same : count_before (suc until) task ≡ count_before until task = ap at e in omega (arith, same)

-- none before the first tick
count_none : (task : PeriodicTask) → 1 ≤ task.period → count_before 0 task ≡ 0
count_none task period =
    let e : 0 - task.offset ≡ 0 = omega arith in
    let low : (0 ≤ div_ceil 0 task.period * task.period) × (div_ceil 0 task.period * task.period < 0 + task.period) =
    div_ceil_times 0 task.period (omega (arith, period)) in
    let few : div_ceil 0 task.period < 1 = below (div_ceil 0 task.period) 1 task.period (omega (arith, low.1)) in
    let is : count_before 0 task ≡ div_ceil 0 task.period = ap (λ n. div_ceil n task.period) e in omega (arith, few, is)

-- ---- all tasks

-- each task has a period
abbrev pub HavePeriods : List PeriodicTask → Type 0
HavePeriods tasks = AllByRecursion (λ task. 1 ≤ task.period) tasks

-- a sum of sums
sums : (f g h : PeriodicTask → ℕ) (tasks : List PeriodicTask) → AllByRecursion (λ task. h task ≡ f task + g task) tasks
    → sum_by h tasks ≡ sum_by f tasks + sum_by g tasks
sums f g h [] all = refl
sums f g h (task ∷ tasks) all =
    let rest : sum_by h tasks ≡ sum_by f tasks + sum_by g tasks = sums f g h tasks all.1 in
    omega (arith, all.0, rest, sum_by-cons f task tasks, sum_by-cons g task tasks, sum_by-cons h task tasks)

-- a sum of nothing
no_sum : (f : PeriodicTask → ℕ) (tasks : List PeriodicTask) → AllByRecursion (λ task. f task ≡ 0) tasks
    → sum_by f tasks ≡ 0
no_sum f [] all = refl
no_sum f (task ∷ tasks) all = omega (arith, all.0, no_sum f tasks all.1, sum_by-cons f task tasks)

-- what each task with a period has
each_task : (P : PeriodicTask → Type 0) (tasks : List PeriodicTask) → ((task : PeriodicTask) → 1 ≤ task.period → P task)
    → HavePeriods tasks
    → AllByRecursion P tasks
each_task P [] holds all = tt
each_task P (task ∷ tasks) holds all = (holds task all.0, each_task P tasks holds all.1)

-- one job of a task at a tick, or none
abbrev one_at : (tick : ℕ) → PeriodicTask → ℕ
one_at tick task = cond (releases task tick) 1 0

-- its worth
abbrev worth_at : (tick : ℕ) → PeriodicTask → ℕ
worth_at tick task = cond (releases task tick) task.value 0

-- the worth of all jobs of a task before a tick
abbrev worth_before : (until : ℕ) → PeriodicTask → ℕ
worth_before until task = count_before until task * task.value

-- the jobs at a tick
count_at : (tick : ℕ) (tasks : List PeriodicTask) → length (released_at tick tasks) ≡ sum_by (one_at tick) tasks
count_at tick [] = refl
count_at tick (task ∷ tasks) = by (releases task tick) refl (count_at tick tasks) where
  by : (b : Bool) → releases task tick ≡ b → length (released_at tick tasks) ≡ sum_by (one_at tick) tasks
      → length (map (λ t. job_at t tick)
      (cond b (task ∷ filter (λ t. releases t tick) tasks) (filter (λ t. releases t tick) tasks)))
      ≡ sum_by (one_at tick) (task ∷ tasks)
  by true is rest = let one : one_at tick task ≡ 1 = ap (λ b. cond b 1 0) is in
      omega (arith, rest, one, sum_by-cons (one_at tick) task tasks)
  by false is rest = let none : one_at tick task ≡ 0 = ap (λ b. cond b 1 0) is in
      omega (arith, rest, none, sum_by-cons (one_at tick) task tasks)

-- their worth
worth_of_tick : (tick : ℕ) (tasks : List PeriodicTask)
    → total_value (released_at tick tasks) ≡ sum_by (worth_at tick) tasks
worth_of_tick tick [] = refl
worth_of_tick tick (task ∷ tasks) = by (releases task tick) refl (worth_of_tick tick tasks) where
  by : (b : Bool) → releases task tick ≡ b → total_value (released_at tick tasks) ≡ sum_by (worth_at tick) tasks
      → total_value (map (λ t. job_at t tick)
      (cond b (task ∷ filter (λ t. releases t tick) tasks) (filter (λ t. releases t tick) tasks)))
      ≡ sum_by (worth_at tick) (task ∷ tasks)
  by true is rest = let one : worth_at tick task ≡ task.value = ap (λ b. cond b task.value 0) is in
      omega (
        arith,
        rest,
        one,
        sum_by-cons (worth_at tick) task tasks,
        sum_by-cons (λ j. j.value) (job_at task tick) (released_at tick tasks),
      )
  by false is rest = let none : worth_at tick task ≡ 0 = ap (λ b. cond b task.value 0) is in
      omega (arith, rest, none, sum_by-cons (worth_at tick) task tasks)

-- what a task's jobs are worth, with one more or none
worth_more : (until : ℕ) (task : PeriodicTask) → 1 ≤ task.period
    → worth_before (suc until) task ≡ worth_before until task + worth_at until task
worth_more until task period =
    by (releases task until) (count_before (suc until) task) (count_before until task)
    (count_more until task period) where
      by : (b : Bool) (d c : ℕ) → d ≡ c + cond b 1 0 → d * task.value ≡ c * task.value + cond b task.value 0
      by true d c is = ap (λ n. n * task.value) is
          ∙ (let e : (c + 1) * task.value ≡ c * task.value + task.value = omega arith in e)
      by false d c is = ap (λ n. n * task.value) is
          ∙ (let e : (c + 0) * task.value ≡ c * task.value + 0 = omega arith in e)

-- the jobs before a tick
pub jobs_counted : (until : ℕ) (tasks : List PeriodicTask) → HavePeriods tasks
    → length (jobs_before until tasks) ≡ counts until tasks
jobs_counted zero tasks all =
    sym (no_sum (count_before 0) tasks (each_task (λ task. count_before 0 task ≡ 0) tasks count_none all))
jobs_counted (suc until) tasks all = length-append (jobs_before until tasks) (released_at until tasks)
    ∙ ap (λ n. n + length (released_at until tasks)) (jobs_counted until tasks all)
    ∙ ap (λ n. counts until tasks + n) (count_at until tasks)
    ∙ sym (sums (count_before until) (one_at until) (count_before (suc until)) tasks
    (each_task (λ task. count_before (suc until) task ≡ count_before until task + one_at until task) tasks
    (count_more until) all))

-- what they are worth
pub jobs_worth : (until : ℕ) (tasks : List PeriodicTask) → HavePeriods tasks
    → total_value (jobs_before until tasks) ≡ worths until tasks
jobs_worth zero tasks all = sym (no_sum (worth_before 0) tasks (each_task (λ task. worth_before 0 task ≡ 0) tasks
    (λ task period. let none : worth_before 0 task ≡ 0 * task.value =
    ap (λ n. n * task.value) (count_none task period) in omega (arith, none)) all))
jobs_worth (suc until) tasks all = sum_by-append (λ j. j.value) (jobs_before until tasks) (released_at until tasks)
    ∙ ap (λ n. n + total_value (released_at until tasks)) (jobs_worth until tasks all)
    ∙ ap (λ n. worths until tasks + n) (worth_of_tick until tasks)
    ∙ sym (sums (worth_before until) (worth_at until) (worth_before (suc until)) tasks
    (each_task (λ task. worth_before (suc until) task ≡ worth_before until task + worth_at until task) tasks
    (worth_more until) all))
