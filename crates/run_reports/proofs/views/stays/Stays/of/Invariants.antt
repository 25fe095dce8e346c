use Rattle.std.proofs.Common.{◌≡◌, ◌≤◌, length, drop}
use Rattle.run_reports.specs.views.Book.{Keeps}
use Rattle.run_reports.proofs.views.stays.Stays.of.Given as goal

-- the stays in the steps that are read
abbrev pub invariant-loop-left : goal.invariant-loop-left
invariant-loop-left l = record {
  short : l.left ≤ length l.run;
  count : length l.stays.firsts ≡ l.count;
  keeps : Keeps l.stays (drop l.left l.run);
}

abbrev pub decreases-loop-left : goal.decreases-loop-left
decreases-loop-left l = l.left
