use Rattle.std.proofs.Common.{◌≡◌, ◌-◌, length}
use Rattle.dover_model.specs.Common.{idle}
use Rattle.policy_lab.specs.Standing.{StandsAt}
use Rattle.policy_lab.proofs.bench.Bench.release.Given as goal

abbrev pub invariant-loop-job : goal.invariant-loop-job
invariant-loop-job g l =
    StandsAt (g.P.Policy.picks l.policy) (g.P.Policy.ranks l.policy) l.jobs l.self.clock idle l.self
    × (l.self.clock ≡ l.initial.self.clock)

abbrev pub decreases-loop-job : goal.decreases-loop-job
decreases-loop-job g l = length l.jobs - l.self.released
