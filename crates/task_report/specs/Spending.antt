-- How many comparisons a call makes.
use Rattle.std.specs.Prelude.{ℕ, List}
use Rattle.dover_port.specs.Moves.{Move, ins}
use Rattle.task_report.specs.Talking.{Costs}

-- few comparisons were made for the jobs that the lines behind the task text name, with so many before and after
abbrev pub IsFrugal : (before after : ℕ) → List Move → Type 0
IsFrugal before after moves = Costs before after (ins moves)
