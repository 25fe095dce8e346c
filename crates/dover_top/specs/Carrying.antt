-- What carrying out a request leaves.
use Rattle.std.specs.Prelude.{ℕ, List, Option}
use Rattle.dialogue.specs.Talk.{CanEnd}
use Rattle.dover_port.specs.Moves.{Move, Since}
use Rattle.dover_port.specs.declared.status.Status.{Status}
use Rattle.dover_top.specs.Says.{Says}
use Rattle.dover_top.specs.Spending.{IsFrugal, IsFrugalAsAsked}
use Rattle.dover_top.specs.declared.request.Request.{Request}

-- It ended with this status, between these moves of the port and these counts of comparisons.
pub record CarriesOut (request : Request) (status : Status) (old new : Option (List Move)) (before now : ℕ) : Type 0
  where
    pub talks : Since old new (Says request status)
    pub ends : CanEnd (Says request) status
    pub comparisons : Since old new (IsFrugal request before now)
    pub stated : IsFrugalAsAsked request before now
