use Rattle.std.proofs.Common.{◌≤◌, ◌-◌, ◌+◌, IsTrue}
use Rattle.dover_model.specs.Orders.{is_heavy}
use Rattle.stated_jobs.proofs.bait.links.first_value.Given as goal

-- a unit job is heavy against what is less than the work
abbrev pub invariant-loop-k : goal.invariant-loop-k
invariant-loop-k l = record {
  some : 1 ≤ l.work;
  low : l.work ≤ l.unit;
  heavy : IsTrue (is_heavy l.k l.unit (l.work - 1));
}

abbrev pub decreases-loop-k : goal.decreases-loop-k
decreases-loop-k l = l.unit + 1 - l.work
