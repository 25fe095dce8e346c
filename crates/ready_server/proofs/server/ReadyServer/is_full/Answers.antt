use Rattle.std.proofs.Common.{ap, ◌∙◌, nat_le}
use Rattle.dover_model.specs.Limits.{most_ready}
use Rattle.ready_server.proofs.Finishing.{full_there}
use Rattle.ready_server.proofs.server.ReadyServer.is_full.Goals as goal

pub returns-clause-at : goal.returns-clause-at
returns-clause-at c J mark rests = ap (nat_le most_ready) c.count.ensures ∙ full_there c.args.self.now J mark rests
