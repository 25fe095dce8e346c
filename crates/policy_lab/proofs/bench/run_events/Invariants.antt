use Rattle.std.proofs.Common.{◌+◌, ◌-◌}
use Rattle.dover_model.specs.Common.{idle, last_deadline}
use Rattle.policy_lab.specs.Standing.{StandsAt}
use Rattle.policy_lab.proofs.bench.run_events.Given as goal

abbrev pub invariant-loop-bench : goal.invariant-loop-bench
invariant-loop-bench g l =
    StandsAt (g.P.Policy.picks l.policy) (g.P.Policy.ranks l.policy) l.jobs l.bench.clock idle l.bench

abbrev pub decreases-loop-bench : goal.decreases-loop-bench
decreases-loop-bench g l = last_deadline l.jobs + 1 - l.bench.clock
