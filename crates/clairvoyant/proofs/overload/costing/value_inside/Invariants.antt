use Rattle.std.proofs.Common.{◌≡◌, ◌≤◌, ◌-◌, ◌*◌, length, get_or, false}
use Rattle.clairvoyant.proofs.overload.Inside.{so_far}
use Rattle.clairvoyant.proofs.overload.costing.value_inside.Given as goal

abbrev pub decreases-loop-place : goal.decreases-loop-place
decreases-loop-place l = l.second - l.place

abbrev pub invariant-loop-place : goal.invariant-loop-place
invariant-loop-place l = record {
  few : l.place ≤ length l.jobs;
  value : l.value ≡ so_far l.jobs (λ n. get_or l.done n false) l.from l.until l.place;
  most : l.value ≤ 1_000_000_000 * l.place;
}
