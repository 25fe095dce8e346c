use Rattle.std.proofs.Common.{ℕ, ◌+◌, ◌*◌, ◌≤◌, length, drop, List}
use Rattle.dover_model.specs.Common.{most_work, JobFacts}
use Rattle.clairvoyant.proofs.feasible.LastStart.{Passed}
use Rattle.clairvoyant.proofs.feasible.window.last_start.Given as goal

-- the jobs from place i on are passed
pub record HasPassed (jobs : List JobFacts) (b i work : ℕ) : Type 0 where
  pub passed : Passed b work (drop i jobs)
  pub small : work + most_work * i ≤ most_work * length jobs

abbrev pub invariant-loop-i : goal.invariant-loop-i
invariant-loop-i l = HasPassed l.jobs l.b l.i l.work
