use Rattle.std.proofs.Common.{◌≤◌, take}
use Rattle.run_reports.specs.report.Counts.{jobs_released}
use Rattle.run_reports.specs.report.Kept.{HaveDensities}
use Rattle.run_reports.proofs.report.kept.densities_of.Given as goal

-- those of the jobs so far
abbrev pub invariant-loop-event : goal.invariant-loop-event
invariant-loop-event l = record {
  are : HaveDensities l.k (jobs_released (take l.event-index l.run)) l.kept;
  few : l.kept.count ≤ l.event-index;
}
