use Rattle.std.proofs.Common.{◌≤◌, ◌-◌}
use Rattle.clairvoyant.specs.overload.Collecting.{HasCosted}
use Rattle.clairvoyant.proofs.overload.costing.Costing.fill.Given as goal

-- the ticks up to the end
abbrev pub decreases-loop-ticks : goal.decreases-loop-ticks
decreases-loop-ticks l = l.until - l.self.at

abbrev pub invariant-loop-ticks : goal.invariant-loop-ticks
invariant-loop-ticks l = record {
  costed : HasCosted l.jobs l.self;
  ahead : l.self.at ≤ l.until;
}
