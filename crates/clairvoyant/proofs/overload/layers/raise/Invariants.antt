use Rattle.std.proofs.Common.{◌≡◌, ℕ, ◌≤◌, ◌-◌, length, get_or}
use Rattle.clairvoyant.specs.overload.Pricing.{IsRaised}
use Rattle.clairvoyant.proofs.overload.layers.raise.Given as goal

abbrev pub decreases-loop-place : goal.decreases-loop-place
decreases-loop-place l = l.second - l.place

abbrev pub invariant-loop-place : goal.invariant-loop-place
invariant-loop-place l = record {
  count : length l.prices ≡ length l.initial.prices;
  raised : IsRaised l.jobs l.ticks.from l.ticks.until l.more l.initial.prices l.prices;
  later : (n : ℕ) → l.place ≤ n → get_or l.prices n 0 ≡ get_or l.initial.prices n 0;
}
