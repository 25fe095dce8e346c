use Rattle.std.specs.Prelude.{◌≡◌, ◌-◌, List}
use Rattle.lane_server.specs.Lanes.{Handed, lane_count, all_ended}
use Rattle.lane_server.specs.Kept.{AllStand}
use Rattle.lane_server.proofs.Fine.{fine_from}
use Rattle.lane_server.proofs.lanes.all_fine.Given as goal

abbrev pub invariant-loop-lane : goal.invariant-loop-lane
invariant-loop-lane l = (handed : List Handed) → AllStand l.lanes handed
    → all_ended handed ≡ fine_from handed l.lane (lane_count - l.lane)
