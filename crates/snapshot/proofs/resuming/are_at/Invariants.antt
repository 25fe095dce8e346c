use Rattle.std.proofs.Common.{map}
use Rattle.ready_server.specs.Roster.{job_at}
use Rattle.snapshot.proofs.Comparing.{AreAtUpTo}
use Rattle.snapshot.proofs.resuming.are_at.Given as goal

-- the jobs before this one are as stored
abbrev pub invariant-loop-number : goal.invariant-loop-number
invariant-loop-number l = AreAtUpTo (map (job_at l.roster.roll l.mark) l.roster.roll.jobs) l.stances l.number
