use Rattle.std.proofs.Common.{◌≡◌, ℕ, ◌*◌, ◌≤◌, take, List, sum_by}
use Rattle.dover_model.specs.Common.{most_work, JobFacts}
use Rattle.clairvoyant.proofs.feasible.LastStart.{asked}
use Rattle.clairvoyant.proofs.feasible.window.work_inside.Given as goal

-- the work of the jobs so far
pub record HasAdded (jobs : List JobFacts) (a b i work : ℕ) : Type 0 where
  pub sum : work ≡ sum_by (asked a b) (take i jobs)
  pub small : work ≤ most_work * i

abbrev pub invariant-loop-job : goal.invariant-loop-job
invariant-loop-job l = HasAdded l.jobs l.a l.b l.job-index l.work
