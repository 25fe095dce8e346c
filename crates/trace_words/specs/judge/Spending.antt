-- How many comparisons a call makes.
use Rattle.std.specs.Prelude.{ℕ, List}
use Rattle.dover_port.specs.Moves.{Move, ins}
use Rattle.dover_model.specs.Spending.{CostsAtMost}
use Rattle.trace_judge.specs.Judging.{jobs_named}

-- how few comparisons were made for the jobs that the lines name, with so many before and after
abbrev pub IsFrugal : (before after : ℕ) → List Move → Type 0
IsFrugal before after moves = CostsAtMost (jobs_named (ins moves)) before after
