use Rattle.std.proofs.Common.{◌≡◌, ◌+◌, length, heap_items}
use Rattle.dover_model.specs.Common.{idle}
use Rattle.policy_lab.specs.Standing.{StandsAt}
use Rattle.policy_lab.proofs.bench.Bench.take_first.Given as goal

abbrev pub invariant-loop-turn : goal.invariant-loop-turn
invariant-loop-turn g l =
    StandsAt (g.P.Policy.picks l._policy) (g.P.Policy.ranks l._policy) l.jobs (l.self.clock + 1) idle l.self
    × (l.self.clock ≡ l.initial.self.clock) × (l.self.released ≡ l.initial.self.released)

abbrev pub decreases-loop-turn : goal.decreases-loop-turn
decreases-loop-turn g l = length (heap_items l.self.waiting)
