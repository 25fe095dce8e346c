use Rattle.ready_server.proofs.NextSteps.{comes_next}
use Rattle.ready_server.proofs.server.ReadyServer.next.Goals as goal

pub returns-clause-at : goal.returns-clause-at
returns-clause-at c J mark rests = comes_next c.args.self.now J mark rests c.next.result c.next.ensures.at
