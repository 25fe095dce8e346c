use Rattle.std.proofs.Common.{◌≡◌, ℕ, List}
use Rattle.dover_model.specs.declared.events.Event.{Event}
use Rattle.dover_model.specs.Common.{Instance, MayFollow}
use Rattle.dover_model.specs.declared.horizon.Horizon.TheVariants.{Mark}
use Rattle.ready_server.specs.Serving.{HasPaid}
use Rattle.ready_server.specs.Rostering.{Serves}
use Rattle.snapshot.specs.Kept.{HasPlace}
use Rattle.snapshot.proofs.Settling.{IsOnTheWay}
use Rattle.snapshot.proofs.resuming.settle.Given as goal

-- a step was printed in each turn
abbrev pub invariant-loop-step : goal.invariant-loop-step
invariant-loop-step g l = record {
  on : (J : Instance) (m : ℕ) (events : List Event) → Serves l.initial.server l.initial.roster J m events
      → MayFollow (Mark m) (Mark l.mark) → IsOnTheWay l.server l.roster J l.mark l._step;
  room : HasPlace l.initial.server l.initial.roster → HasPlace l.server l.roster;
  finish_room : l.roster.finish_room ≡ l.initial.roster.finish_room;
  paid : (start : ℕ) → HasPaid l.initial.server start l.initial.comparisons → HasPaid l.server start l.comparisons;
}
