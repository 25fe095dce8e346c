use Rattle.lane_server.proofs.Receiving.{goes_so}
use Rattle.lane_server.proofs.lane_input.LaneInput.goes_on.Goals as goal

pub returns : goal.returns
returns c = λ x left at. goes_so c.args.self.now x left at c.is_short.result c.is_short.ensures
