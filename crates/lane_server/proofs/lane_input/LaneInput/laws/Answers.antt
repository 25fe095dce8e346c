use Rattle.lane_server.specs.Lanes.{input}
use Rattle.lane_server.proofs.Receiving.{lanes_handed}
use Rattle.lane_server.proofs.Sharing.{paid_few}
use Rattle.lane_server.proofs.lane_input.LaneInput.laws.Goals as goal

pub returns : goal.returns
returns c = record {
  few = λ i x left start now at paid. let handed = lanes_handed i x left at in
      paid_few c.laws.ensures.few i.lanes.lanes (input x).handed start now handed.0 handed.1 paid;
}
