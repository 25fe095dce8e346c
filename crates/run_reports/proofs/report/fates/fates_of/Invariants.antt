use Rattle.std.proofs.Common.{◌≡◌, ◌≤◌, ◌*◌, take, sum_by}
use Rattle.run_reports.specs.report.Counts.{all_lost}
use Rattle.run_reports.specs.report.Fates.{value_done}
use Rattle.run_reports.proofs.report.fates.fates_of.Given as goal

-- the values of the steps so far
abbrev pub invariant-loop-event : goal.invariant-loop-event
invariant-loop-event l = record {
  value : l.value ≡ sum_by (value_done l.jobs) (take l.event-index l.run);
  lost : l.lost ≡ all_lost l.jobs (take l.event-index l.run);
  small_value : l.value ≤ 1_000_000_000 * l.event-index;
  small_lost : l.lost ≤ 1_000_000_000 * l.event-index;
}
