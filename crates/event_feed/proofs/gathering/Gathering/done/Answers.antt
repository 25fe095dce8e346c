use Rattle.std.proofs.Common.{arith}
use Rattle.event_feed.proofs.gathering.Gathering.done.Goals as goal

pub returns-in-Err-clause-memory : goal.returns-in-Err-clause-memory
returns-in-Err-clause-memory c = omega (arith, c.if-number-len.false, c.len.ensures, c.args.self.now.jobs.ok.0)
