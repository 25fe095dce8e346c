use Rattle.std.proofs.Common.{◌≡◌, ◌≤◌, ◌+◌, ◌-◌, ◌*◌, length, take}
use Rattle.std.specs.List.{sum_by, enumerate_from}
use Rattle.clairvoyant.proofs.overload.Paying.{beyond_by}
use Rattle.clairvoyant.proofs.overload.layers.Priced.most.Given as goal

abbrev pub decreases-loop-place : goal.decreases-loop-place
decreases-loop-place l = length l.jobs - l.place

abbrev pub invariant-loop-place : goal.invariant-loop-place
invariant-loop-place l = record {
  few : l.place ≤ length l.jobs;
  sum : l.most ≡ l.self.cost + sum_by (beyond_by 1_000_000_000_000_000 l.self.prices.items) (enumerate_from 0
      (take l.place l.jobs));
  small : l.most ≤ 2_000_000_000_000_000_000_000_000_000_000_000_000 + 1_000_000_000_000_000_000_000_000 * l.place;
}
