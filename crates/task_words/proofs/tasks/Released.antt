-- The jobs that tasks release are valid.
use Rattle.std.proofs.Common.{◌≡◌, ℕ, zero, suc, ◌+◌, ◌-◌, ◌*◌, ◌/◌, ◌%◌, ◌<◌, ◌≤◌, List, [], ◌∷◌, ◌++◌, map, refl}
use Rattle.std.proofs.Common.{Bool, true, false, cond, arith, ◌==◌, nat_le, filter, div-add-mod', leb-true, eqb-true}
use Rattle.std.specs.List.{AllByRecursion}
use Rattle.std.proofs.Math.Nat.{lt_of_mul-lt-mul_right, mul-le-mul_right}
use Rattle.std.proofs.lemmas.Grind.{div_ceil_times}
use Rattle.std.proofs.lemmas.Bool.{and_parts}
use Rattle.dover_model.specs.declared.events.Version.TheVariants.{Two}
use Rattle.dover_model.specs.Common.{last_tick, last_tick_in, JobFacts, IsJob, Fraction, IsRatio, Declaration, IsValid}
use Rattle.dover_model.proofs.valid.Valid.{all_from}
use Rattle.dover_model.proofs.lists.Members.{all_append}
use Rattle.dover_model.proofs.valid.Limiting.{jobs_least, tick_least, total_least}
use Rattle.dover_model.proofs.valid.Dues.{last_within}
use Rattle.task_words.specs.tasks.Tasks.{releases, job_at, released_at, jobs_before, count_before, tested_job, unrolled}
use Rattle.task_words.specs.tasks.Limits.{IsTask, AreTasks, AreWithin, Fits}
use Rattle.task_words.specs.declared.tasks.task.PeriodicTask.{PeriodicTask}
use Rattle.dover_model.proofs.valid.ValidParts.{IsWithinRatio, ReleasesInOrder, valid_from, is_within_ratio-agrees}
use Rattle.dover_model.proofs.valid.JobLimits.{job_limits, job_from}

-- ---- what holds of each job

-- of those at a tick
all_at : (P : JobFacts → Type 0) (tick : ℕ) (tasks : List PeriodicTask)
    → AllByRecursion (λ task. releases task tick ≡ true → P (job_at task tick)) tasks
    → AllByRecursion P (released_at tick tasks)
all_at P tick [] all = tt
all_at P tick (task ∷ tasks) all = by (releases task tick) refl (all_at P tick tasks all.1) where
  by : (b : Bool) → releases task tick ≡ b → AllByRecursion P (released_at tick tasks)
      → AllByRecursion P (map (λ t. job_at t tick)
      (cond b (task ∷ filter (λ t. releases t tick) tasks) (filter (λ t. releases t tick) tasks)))
  by true is rest = (all.0 is, rest)
  by false is rest = rest

-- a task's jobs before a tick have this
abbrev HasEach : (JobFacts → Type 0) → (until : ℕ) → PeriodicTask → Type 0
HasEach P until task = (tick : ℕ) → tick < until → releases task tick ≡ true → P (job_at task tick)

-- of those before a tick
pub all_before : (P : JobFacts → Type 0) (until : ℕ) (tasks : List PeriodicTask)
    → AllByRecursion (HasEach P until) tasks
    → AllByRecursion P (jobs_before until tasks)
all_before P zero tasks all = tt
all_before P (suc until) tasks all = all_append P (jobs_before until tasks) (released_at until tasks)
    (all_before P until tasks
    (all_from (HasEach P (suc until)) (HasEach P until) tasks (λ task has tick low. has tick (omega arith)) all))
    (all_at P until tasks (all_from (HasEach P (suc until))
    (λ task. releases task until ≡ true → P (job_at task until)) tasks
    (λ task has. has until (omega arith)) all))

-- any task
any_task : (P : PeriodicTask → Type 0) (tasks : List PeriodicTask) → ((task : PeriodicTask) → P task)
    → AllByRecursion P tasks
any_task P [] holds = tt
any_task P (task ∷ tasks) holds = (holds task, any_task P tasks holds)

-- ---- the order

-- jobs in order, and later ones in order behind them
order_behind : (xs ys : List JobFacts) (tick : ℕ) → ReleasesInOrder xs → ReleasesInOrder ys
    → AllByRecursion (λ j. j.release ≤ tick) xs
    → AllByRecursion (λ j. tick ≤ j.release) ys → ReleasesInOrder (xs ++ ys)
order_behind [] ys tick one other early late = other
order_behind (x ∷ xs) ys tick one other early late = (
  all_append (λ later. x.release ≤ later.release) xs ys one.0
      (all_from (λ j. tick ≤ j.release) (λ later. x.release ≤ later.release) ys
      (λ j low. let first : x.release ≤ tick = early.0 in omega arith) late),
  order_behind xs ys tick one.1 other early.1 late,
)

-- jobs of one tick
order_at : (ys : List JobFacts) (tick : ℕ) → AllByRecursion (λ j. j.release ≡ tick) ys → ReleasesInOrder ys
order_at [] tick same = tt
order_at (y ∷ ys) tick same = (
  all_from (λ j. j.release ≡ tick) (λ later. y.release ≤ later.release) ys
      (λ j is. let first : y.release ≡ tick = same.0 in omega arith) same.1,
  order_at ys tick same.1,
)

-- the jobs at a tick
at_tick : (tick : ℕ) (tasks : List PeriodicTask) → AllByRecursion (λ j. j.release ≡ tick) (released_at tick tasks)
at_tick tick tasks = all_at (λ j. j.release ≡ tick) tick tasks
    (any_task (λ task. releases task tick ≡ true → (job_at task tick).release ≡ tick) tasks (λ task is. refl))

-- the jobs before a tick
in_order : (until : ℕ) (tasks : List PeriodicTask) → ReleasesInOrder (jobs_before until tasks)
in_order zero tasks = tt
in_order (suc until) tasks =
    order_behind (jobs_before until tasks) (released_at until tasks) until (in_order until tasks)
    (order_at (released_at until tasks) until (at_tick until tasks))
    (all_before (λ j. j.release ≤ until) until tasks
    (any_task (HasEach (λ j. j.release ≤ until) until) tasks (λ task tick low is. omega arith)))
    (all_from (λ j. j.release ≡ until) (λ j. until ≤ j.release) _ (λ j is. omega arith) (at_tick until tasks))

-- ---- the limits of a job

-- a job of a task is released at its last release or before
before_last : (until tick : ℕ) (task : PeriodicTask) → 1 ≤ task.period → tick < until → releases task tick ≡ true
    → tick ≤ (tested_job until task).release
before_last until tick task period early is =
    let parts = and_parts (nat_le task.offset tick) ((tick - task.offset) % task.period == 0) is in
    let low : task.offset ≤ tick = leb-true _ _ parts.0 in
    let whole : (tick - task.offset) % task.period ≡ 0 = eqb-true _ _ parts.1 in
    let m : ℕ = (tick - task.offset) / task.period in
    let c : ℕ = count_before until task in
    let divides : m * task.period + (tick - task.offset) % task.period ≡ tick - task.offset =
    div-add-mod' (tick - task.offset) task.period in
    let enough : (until - task.offset ≤ c * task.period) × (c * task.period < (until - task.offset) + task.period) =
    div_ceil_times (until - task.offset) task.period (omega (arith, period)) in
    let less : m < c = lt_of_mul-lt-mul_right task.period (omega (arith, divides, whole, enough.0, low, early)) in
    let at_most : m * task.period ≤ (c - 1) * task.period = mul-le-mul_right task.period (omega (arith, less)) in
    omega (arith, divides, whole, at_most, low)

-- so it is within the limits of a job
pub job_within : (until : ℕ) (task : PeriodicTask) → IsTask until task → HasEach IsJob until task
job_within until task it tick early is =
    let last : tick ≤ (tested_job until task).release = before_last until tick task it.period early is in
    let window : (tested_job until task).release + task.work ≤ (tested_job until task).release + task.deadline =
    (job_limits it.job).window in
    let due : (tested_job until task).release + task.deadline ≤ last_tick = (job_limits it.job).due in
    job_from (record {
      work = (job_limits it.job).work;
      small = (job_limits it.job).small;
      window = omega (arith, window);
      due = omega (arith, last, due);
      worth = (job_limits it.job).worth;
      modest = (job_limits it.job).modest;
    })

-- and due by the last tick of version Two
due_within : (until : ℕ) (task : PeriodicTask) → IsTask until task
    → HasEach (λ j. j.deadline ≤ last_tick_in Two) until task
due_within until task it tick early is =
    let last : tick ≤ (tested_job until task).release = before_last until tick task it.period early is in
    let due : (tested_job until task).release + task.deadline ≤ last_tick_in Two = it.due in omega (arith, last, due)

-- ---- all

pub unrolled_valid : (until : ℕ) (rules : Declaration) (tasks : List PeriodicTask) → IsRatio rules.ratio
    → AreTasks until rules.ratio tasks
    → Fits until tasks → IsValid (unrolled until rules tasks)
unrolled_valid until rules tasks ratio are fits =
    let jobs : List JobFacts = jobs_before until tasks in
    let k : Fraction = rules.ratio in
    valid_from (record {
      ratio = ratio;
      each = all_before IsJob until tasks
          (all_from (IsTask until) (HasEach IsJob until) tasks (λ task it. job_within until task it) are.each);
      due = omega (
        arith,
        last_within (last_tick_in Two) jobs (all_before (λ j. j.deadline ≤ last_tick_in Two) until tasks
            (all_from (IsTask until) (HasEach (λ j. j.deadline ≤ last_tick_in Two) until) tasks
            (λ task it. due_within until task it) are.each)),
        tick_least rules.version,
      );
      in_order = in_order until tasks;
      count = omega (arith, fits.count, jobs_least rules.version);
      total = omega (arith, fits.total, total_least rules.version);
      densities = all_before (λ i. AllByRecursion (IsWithinRatio k i) jobs) until tasks
          (all_from (λ a. AllByRecursion (AreWithin until k a) tasks)
          (HasEach (λ i. AllByRecursion (IsWithinRatio k i) jobs) until) tasks
          (λ a row tick early is. all_before (IsWithinRatio k (job_at a tick)) until tasks
          (all_from _ _ _ (λ b within other low at.
          (is_within_ratio-agrees k (tested_job until a) (tested_job until b)).0 within) row)) are.densities);
    })
