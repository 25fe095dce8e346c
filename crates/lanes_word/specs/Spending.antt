-- How many comparisons a call makes.
use Rattle.std.specs.Prelude.{ℕ, List}
use Rattle.dover_port.specs.Moves.{Move, ins}
use Rattle.lane_server.specs.Lanes.{input}
use Rattle.lane_server.specs.Spending.{AreFew}

-- they are those of the lanes together, and those of each lane are few for the jobs that its feed admits
abbrev pub IsFrugal : (before after : ℕ) → List Move → Type 0
IsFrugal before after moves = AreFew (input (ins moves)).handed before after
