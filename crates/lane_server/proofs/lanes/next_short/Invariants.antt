use Rattle.std.specs.Prelude.{◌≡◌, ◌-◌, List}
use Rattle.lane_server.specs.Lanes.{Handed, lane_count, shorts_from}
use Rattle.lane_server.specs.Kept.{AllQuiet}
use Rattle.lane_server.proofs.lanes.next_short.Given as goal

abbrev pub invariant-loop-lane : goal.invariant-loop-lane
invariant-loop-lane l = (handed : List Handed) → AllQuiet l.lanes handed
    → shorts_from handed l.fn.from (lane_count - l.fn.from) ≡ shorts_from handed l.lane (lane_count - l.lane)
