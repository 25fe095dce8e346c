use Rattle.ready_server.proofs.Renewing.{rests_anew}
use Rattle.ready_server.proofs.server.ReadyServer.renew.Goals as goal

pub returns-clause-rests : goal.returns-clause-rests
returns-clause-rests c J mark rests =
    rests_anew c.args.self.now J mark rests c.requires c.renew.new.self c.renew.ensures.renewed
