use Rattle.ready_jobs.proofs.Courses.{follows_modest}
use Rattle.ready_jobs.proofs.ready.Ready.value.Goals as goal

pub returns-clause-modest : goal.returns-clause-modest
returns-clause-modest c = follows_modest _ c.self.invariant.0 c.self.invariant.1 c.self.invariant.2
