use Rattle.std.proofs.Common.{◌-◌, sym, ◌∙◌, arith}
use Rattle.lane_server.specs.Lanes.{lane_lines, lane_count}
use Rattle.lane_server.proofs.Fine.{one_stands, all_fine, fine_next, fine_not, fine_over}
use Rattle.lane_server.proofs.lanes.all_fine.Goals as goal

pub loop-lane-init : goal.loop-lane-init
loop-lane-init c = λ handed all. all_fine handed

pub loop-lane-preserved : goal.loop-lane-preserved
loop-lane-preserved c = λ handed all.
    let stands = one_stands c.args.lanes.now handed c.loop-lane.lane c.from.result c.index-lanes-from.result all
    c.requires c.loop-lane-test.true
    c.from.ensures c.index-lanes-from.is in
    c.loop-lane.invariant handed all ∙ fine_next handed c.loop-lane.lane c.loop-lane-test.true
    (sym (c.is_fine.ensures (lane_lines handed c.loop-lane.lane) stands.0 stands.1) ∙ c.if-not-is_fine.false)

pub returns-then-not-is_fine : goal.returns-then-not-is_fine
returns-then-not-is_fine c = λ handed all.
    let stands = one_stands c.args.lanes.now handed c.loop-lane.lane c.from.result c.index-lanes-from.result all
    c.requires c.loop-lane-test.true
    c.from.ensures c.index-lanes-from.is in
    sym (c.loop-lane.invariant handed all ∙ fine_not handed c.loop-lane.lane c.loop-lane-test.true
    (sym (c.is_fine.ensures (lane_lines handed c.loop-lane.lane) stands.0 stands.1) ∙ c.if-not-is_fine.true))

pub returns : goal.returns
returns c = λ handed all. sym (c.loop-lane.invariant handed all
    ∙ fine_over handed c.loop-lane.lane (lane_count - c.loop-lane.lane) (omega (arith, c.loop-lane-test.false)))
