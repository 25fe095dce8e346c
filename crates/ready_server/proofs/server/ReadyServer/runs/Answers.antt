use Rattle.dover_model.proofs.lists.Members.{by_bool}
use Rattle.ready_server.proofs.Finishing.{runs_said, other_said}
use Rattle.ready_server.proofs.server.ReadyServer.runs.Goals as goal

pub returns : goal.returns
returns c J mark rests = (
  λ is. runs_said c.args.self.now J mark rests c.args.number (c.runs.ensures.yes is),
  λ has. by_bool _ c.runs.result (λ is. is)
      (λ is. absurd (other_said c.args.self.now J mark rests c.args.number (c.runs.ensures.no is) has)),
)
