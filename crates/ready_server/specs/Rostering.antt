-- A server beside a roster of its jobs, which is kept from what it prints.
use Rattle.std.specs.Prelude.{ℕ, List}
use Rattle.dover_model.specs.declared.events.Event.{Event}
use Rattle.dover_model.specs.Common.{settled, Instance}
use Rattle.dover_model.specs.declared.horizon.Horizon.TheVariants.{Mark}
use Rattle.ready_server.specs.Serving as ready
use Rattle.ready_server.specs.Roster.{Kept, IsRollOf}
use Rattle.ready_server.specs.declared.server.ReadyServer.{ReadyServer}

-- the server has taken the run of these jobs towards the mark, and has printed these events, which the roster has read
pub record Serves (s : ReadyServer) (k : Kept) (J : Instance) (mark : ℕ) (events : List Event) : Type 0 where
  pub served : ready.Serves s J (Mark mark) events
  pub read : IsRollOf events k

-- it has printed all that is due by the mark, and the roster has read that
pub record Rests (s : ReadyServer) (k : Kept) (J : Instance) (mark : ℕ) : Type 0 where
  pub rests : ready.Rests s J (Mark mark)
  pub read : IsRollOf (settled J mark) k
