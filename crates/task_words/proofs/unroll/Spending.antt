-- The comparisons of unrolled tasks.
use Rattle.std.proofs.Common.{◌≡◌, ◌≤◌, ◌<◌, ◌+◌, ◌*◌, ◌^◌, ℕ, List, length, length-append, ap, subst, arith}
use Rattle.std.proofs.Math.Nat.{mul-le-mul_left}
use Rattle.dover_model.specs.JobFacts.{JobFacts}
use Rattle.task_words.specs.tasks.Merging.{Merge, StandsBehind}
use Rattle.task_words.specs.tasks.Tasks.{jobs_before}
use Rattle.task_words.specs.declared.tasks.task.PeriodicTask.{PeriodicTask}
use Rattle.task_words.proofs.tasks.Merging.{stands_front}
use Rattle.task_words.specs.unroll.Spending.{UnrollsAtMost}

-- ---- job by job

-- no more jobs came than there are
pub came_few : (m : Merge) (done : List JobFacts) → StandsBehind m done → (jobs : List JobFacts)
    → jobs_before m.until m.tasks ≡ jobs → length done ≤ length jobs
came_few m done stands jobs jobs_are =
    let front = stands_front m done stands in
    omega (
      arith,
      ap length jobs_are,
      ap length front.1,
      length-append done front.0,
    )

-- what each of so many costs, all cost
pub all_cost : (d start now count most : ℕ) → count ≤ most → now ≤ start + 4 * d * count
    → now ≤ start + 4 * d * most
all_cost d start now count most few spent = omega (arith, spent, mul-le-mul_left (4 * d) few)

-- what the first releases cost, and then the jobs
pub unroll_costs : (until : ℕ) (tasks : List PeriodicTask) (u : ℕ) (ts : List PeriodicTask) → u ≡ until → ts ≡ tasks
    → (before mid after : ℕ)
    → ((d : ℕ) → length tasks + 1 < 2 ^ d → mid ≤ before + d * length tasks)
    → ((d : ℕ) → length ts + 1 < 2 ^ d → after ≤ mid + 4 * d * length (jobs_before u ts))
    → UnrollsAtMost until tasks before after
unroll_costs until tasks u ts u_is ts_are before mid after first rest = λ d enough.
    omega (
      arith,
      first d enough,
      (subst (λ n. after ≤ mid + 4 * d * length (jobs_before n tasks)) u_is
          (subst (λ xs. after ≤ mid + 4 * d * length (jobs_before u xs)) ts_are
          (rest d (omega (arith, enough, ap length ts_are))))),
    )
