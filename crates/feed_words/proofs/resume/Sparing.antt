-- The comparisons of a snapshot that is read, by its jobs.
use Rattle.std.proofs.Common.{ℕ, ◌≤◌, arith, Option, Some, None}
use Rattle.dover_model.specs.Spending.{CostsAtMost}
use Rattle.dover_model.proofs.runs.Spending.{few_more}
use Rattle.ready_jobs.proofs.Spending.{paid_jobs}
use Rattle.snapshot.specs.Spending.{jobs_kept, HasSpentOn}
use Rattle.snapshot.specs.declared.resuming.Resuming.{Resuming}

-- what is kept was served for few
pub few_kept : (o : Option Resuming) (start now n : ℕ) → HasSpentOn o start now → jobs_kept o ≤ n
    → CostsAtMost n start now
few_kept None start now n none few = λ d enough. omega (arith, none)
few_kept (Some r) start now n spent few =
    few_more r.server.ready.jobs n start now few (paid_jobs r.server.ready start now spent.paid)
