use Rattle.std.proofs.Common.{◌≡◌, ◌≤◌, length}
use Rattle.run_reports.proofs.report.CourseReading.{AreRead}
use Rattle.run_reports.proofs.report.courses.courses_of.Given as goal

-- the courses in the steps that are read
abbrev pub invariant-loop-left : goal.invariant-loop-left
invariant-loop-left l = record {
  short : l.left ≤ length l.run;
  count : length l.courses.items ≡ l.count;
  each : AreRead l.run l.courses.items l.count l.left;
}

abbrev pub decreases-loop-left : goal.decreases-loop-left
decreases-loop-left l = l.left
