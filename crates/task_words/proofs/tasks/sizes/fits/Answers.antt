use Rattle.std.proofs.Common.{◌≡◌, ◌<◌, ◌≤◌, ◌+◌, ◌-◌, ◌*◌, ℕ, List, length, take, get_or, IsTrue, false, refl, ap}
use Rattle.std.proofs.Common.{arith, take_all}
use Rattle.std.specs.List.{AllByRecursion}
use Rattle.std.proofs.lemmas.List.Sums.{sum_by_more_le}
use Rattle.dover_model.proofs.lists.Tests.{never}
use Rattle.dover_model.proofs.valid.Valid.{all_from}
use Rattle.task_words.specs.tasks.Limits.{Fits, IsTask, counts, worths}
use Rattle.dover_model.specs.Instance.{total_value}
use Rattle.task_words.specs.tasks.Tasks.{count_before, jobs_before}
use Rattle.task_words.specs.declared.tasks.task.PeriodicTask.{PeriodicTask}
use Rattle.task_words.proofs.tasks.Counting.{HavePeriods, jobs_counted, jobs_worth}
use Rattle.std.proofs.lemmas.Nat.{mul-le}
use Rattle.dover_model.proofs.valid.JobLimits.{job_limits}
use Rattle.task_words.specs.tasks.Merging.{blank_task}
use Rattle.task_words.proofs.tasks.Merging.{all_of}
use Rattle.task_words.proofs.tasks.sizes.fits.Goals as goal

periods : (until : ℕ) (tasks : List PeriodicTask) → AllByRecursion (IsTask until) tasks → HavePeriods tasks
periods until tasks each = all_from (IsTask until) (λ task. 1 ≤ task.period) tasks (λ task it. it.period) each

-- the jobs of one more task are too many
too_many : (until count more i : ℕ) (d : PeriodicTask) (tasks : List PeriodicTask) → AllByRecursion (IsTask until) tasks
    → i < length tasks
    → count ≡ counts until (take i tasks) → count ≤ 1_000_000 → more ≡ count_before until (get_or tasks i d)
    → 1_000_000 - count < more
    → Fits until tasks → IsTrue false
too_many until count more i d tasks each there is few more_is many fits =
    let most : length (jobs_before until tasks) ≤ 1_000_000 = fits.count in
    absurd (omega (
      arith,
      most,
      jobs_counted until tasks (periods until tasks each),
      sum_by_more_le (count_before until) tasks i d there,
    ))

-- they are worth too much
too_dear : (until total more i : ℕ) (d : PeriodicTask) (tasks : List PeriodicTask) → AllByRecursion (IsTask until) tasks
    → i < length tasks
    → total ≡ worths until (take i tasks) → more ≡ count_before until (get_or tasks i d)
    → 10_000_000_000_000 < total + more * (get_or tasks i d).value → Fits until tasks → IsTrue false
too_dear until total more i d tasks each there is more_is dear fits =
    let most : total_value (jobs_before until tasks) ≤ 10_000_000_000_000 = fits.total in
    absurd (omega (
      arith,
      most,
      jobs_worth until tasks (periods until tasks each),
      ap (λ n. n * (get_or tasks i d).value) more_is,
      dear,
      is,
      sum_by_more_le (λ task. count_before until task * task.value) tasks i d there,
    ))

-- all are counted
all_fit : (until count total i : ℕ) (tasks : List PeriodicTask) → AllByRecursion (IsTask until) tasks → length tasks ≤ i
    → count ≡ counts until (take i tasks) → total ≡ worths until (take i tasks) → count ≤ 1_000_000
    → total ≤ 10_000_000_000_000
    → Fits until tasks
all_fit until count total i tasks each all count_is total_is few modest = record {
  count = omega (
    arith,
    few,
    count_is,
    ap (counts until) (take_all i tasks all),
    jobs_counted until tasks (periods until tasks each),
  );
  total = omega (
    arith,
    modest,
    total_is,
    ap (worths until) (take_all i tasks all),
    jobs_worth until tasks (periods until tasks each),
  );
}

pub returns-then-more-from : goal.returns-then-more-from
returns-then-more-from c = (
  λ no. never no,
  too_many c.args.until c.loop-task.count c.count_before-more.result c.loop-task.task-index _ c.args.tasks.now
      c.requires c.loop-task-test.true
      c.loop-task.invariant.count_is c.loop-task.invariant.few c.count_before-more.ensures.is
      (omega (arith, c.from.ensures, c.most_jobs.ensures, c.if-more-from.true)),
)

pub returns-then-total-most_total : goal.returns-then-total-most_total
returns-then-total-most_total c = (
  λ no. never no,
  too_dear c.args.until c.loop-task.total c.count_before-more.result c.loop-task.task-index _ c.args.tasks.now
      c.requires c.loop-task-test.true
      c.loop-task.invariant.total_is c.count_before-more.ensures.is
      (omega (arith, c.most_total.ensures, c.if-total-most_total.true)),
)

pub returns : goal.returns
returns c = (
  λ yes. all_fit _ _ _ _ _ c.requires c.loop-task-test.false c.loop-task.invariant.count_is
      c.loop-task.invariant.total_is c.loop-task.invariant.few c.loop-task.invariant.modest,
  λ fits. refl,
)

pub count_before-more-requires : goal.count_before-more-requires
count_before-more-requires c =
    let task = all_of (IsTask c.args.until) c.args.tasks.now c.loop-task.task-index blank_task c.requires in
    (task c.loop-task-test.true).period

-- so few jobs of one task are worth no more than a number can hold
worth_fits : (until more i : ℕ) (d : PeriodicTask) (tasks : List PeriodicTask) → AllByRecursion (IsTask until) tasks
    → i < length tasks → more ≤ 1_000_000 → more * (get_or tasks i d).value ≤ 1_000_000 * 1_000_000_000
worth_fits until more i d tasks each there few = mul-le more (get_or tasks i d).value 1_000_000 1_000_000_000 few
    (job_limits (all_of (IsTask until) tasks i d each there).job).modest

pub overflow_mul-total : goal.overflow_mul-total
overflow_mul-total c = omega (
  arith,
  worth_fits c.args.until c.count_before-more.result c.loop-task.task-index blank_task c.args.tasks.now c.requires
      c.loop-task-test.true (omega (arith, c.if-more-from.false, c.from.ensures, c.most_jobs.ensures)),
)

pub overflow_add-total : goal.overflow_add-total
overflow_add-total c = omega (
  arith,
  c.loop-task.invariant.modest,
  worth_fits c.args.until c.count_before-more.result c.loop-task.task-index blank_task c.args.tasks.now c.requires
      c.loop-task-test.true (omega (arith, c.if-more-from.false, c.from.ensures, c.most_jobs.ensures)),
)
