use Rattle.std.specs.Prelude.{◌≡◌, length, []}
use Rattle.lane_server.specs.Kept.{AllQuiet}
use Rattle.lane_server.proofs.Sharing.{NonePaid}
use Rattle.lane_server.proofs.lanes.new_lanes.Given as goal

abbrev pub invariant-loop : goal.invariant-loop
invariant-loop l = (length l.lanes.items ≡ l.counter)
    × AllQuiet l.lanes.items [] × NonePaid l.lanes.items
