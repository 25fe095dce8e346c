use Rattle.std.proofs.Common.{ℕ}
use Rattle.std.specs.Int.{IsGcd}
use Rattle.demand_words.proofs.periods.common_divisor.Given as goal

-- the two have the same greatest common divisor
abbrev pub invariant-loop-second : goal.invariant-loop-second
invariant-loop-second l = record { same : (g : ℕ) → IsGcd l.first l.second g → IsGcd l.a l.b g }

abbrev pub decreases-loop-second : goal.decreases-loop-second
decreases-loop-second l = l.second
