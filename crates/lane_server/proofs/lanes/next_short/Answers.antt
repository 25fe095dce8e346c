use Rattle.std.proofs.Common.{◌-◌, ◌∙◌, arith}
use Rattle.lane_server.specs.Lanes.{lane_lines, lane_count}
use Rattle.lane_server.proofs.Handing.{shorts_skip, shorts_first, shorts_over}
use Rattle.lane_server.proofs.Keeping.{one_quiet}
use Rattle.lane_server.proofs.lanes.next_short.Goals as goal

pub loop-lane-preserved : goal.loop-lane-preserved
loop-lane-preserved c = λ handed all. c.loop-lane.invariant handed all
    ∙ shorts_skip handed c.loop-lane.lane c.loop-lane-test.true
    (c.in_default.ensures (lane_lines handed c.loop-lane.lane)
    (one_quiet c.args.lanes.now handed c.loop-lane.lane c.from.result c.index-lanes-from.result all c.requires
    c.loop-lane-test.true c.from.ensures
    c.index-lanes-from.is))

pub returns-in-Some : goal.returns-in-Some
returns-in-Some c = record {
  within = c.loop-lane-test.true;
  first = λ handed all. (
    c.loop-lane-test.true,
    c.loop-lane.invariant handed all ∙ shorts_first handed c.loop-lane.lane c.in-Some.line c.loop-lane-test.true
        (c.in-Some.ensures (lane_lines handed c.loop-lane.lane)
        (one_quiet c.args.lanes.now handed c.loop-lane.lane c.from.result c.index-lanes-from.result all c.requires
        c.loop-lane-test.true
        c.from.ensures c.index-lanes-from.is)),
  );
}

pub returns : goal.returns
returns c = record {
  within = tt;
  first = λ handed all. c.loop-lane.invariant handed all
      ∙ shorts_over handed c.loop-lane.lane (lane_count - c.loop-lane.lane) (omega (arith, c.loop-lane-test.false));
}
