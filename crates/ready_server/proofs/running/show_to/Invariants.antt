use Rattle.std.proofs.Common.{ℕ}
use Rattle.dover_model.specs.Common.{Instance, MayFollow}
use Rattle.dover_model.specs.declared.horizon.Horizon.{Horizon}
use Rattle.ready_server.specs.Running.{HasShown}
use Rattle.ready_server.proofs.Showing.{IsShowing}
use Rattle.ready_server.specs.Serving.{HasPlace, HasPaid}
use Rattle.ready_server.proofs.running.show_to.Given as goal

-- So many steps were taken and shown.
abbrev pub invariant-loop : goal.invariant-loop
invariant-loop g l = record {
  showing : (J : Instance) (from : Horizon)
      → HasShown g.W.Watcher.seen l.initial.server l.initial.watcher J from
      → MayFollow from l.to
      → IsShowing g.W.Watcher.seen l.server l.watcher J l.to l.counter;
  room : HasPlace l.initial.server → HasPlace l.server;
  paid : (start : ℕ) → HasPaid l.initial.server start l.initial.comparisons
      → HasPaid l.server start l.comparisons;
}
