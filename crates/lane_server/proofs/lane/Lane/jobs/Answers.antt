use Rattle.std.proofs.Common.{ap, ◌∙◌, Some}
use Rattle.lane_server.proofs.Feeding.{jobs_where, jobs_nowhere}
use Rattle.lane_server.proofs.lane.Lane.jobs.Goals as goal

pub returns-in-Some : goal.returns-in-Some
returns-in-Some c = λ ls quiet.
    ap Some c.jobs.ensures ∙ jobs_where c.args.self.now ls quiet c.in-Some.server c.in-Some.is

pub returns-in-None : goal.returns-in-None
returns-in-None c = λ ls quiet. jobs_nowhere c.args.self.now ls quiet c.in-None.is
