use Rattle.std.proofs.Common.{◌≤◌, ◌<◌, ◌-◌, take, drop, length}
use Rattle.dover_model.specs.Sound.{Each}
use Rattle.clairvoyant.proofs.overload.released.released.Given as goal

abbrev pub decreases-loop-low : goal.decreases-loop-low
decreases-loop-low l = l.high - l.low

abbrev pub invariant-loop-low : goal.invariant-loop-low
invariant-loop-low l = record {
  rise : l.low ≤ l.high;
  few : l.high ≤ length l.jobs;
  before : Each (λ j. j.release < l.tick) (take l.low l.jobs);
  behind : Each (λ j. l.tick ≤ j.release) (drop l.high l.jobs);
}
