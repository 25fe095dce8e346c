use Rattle.std.proofs.Common.{◌≡◌, take}
use Rattle.run_reports.specs.report.Counts.{jobs_released}
use Rattle.run_reports.proofs.report.counts.released.Given as goal

-- the jobs of the steps so far
abbrev pub invariant-loop-event : goal.invariant-loop-event
invariant-loop-event l = l.jobs.items ≡ jobs_released (take l.event-index l.run)
