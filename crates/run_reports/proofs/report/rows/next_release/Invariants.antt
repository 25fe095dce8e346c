use Rattle.run_reports.proofs.report.Tables.{LeaveSame}
use Rattle.run_reports.proofs.report.rows.next_release.Given as goal

-- the steps so far release no job
abbrev pub invariant-loop-place : goal.invariant-loop-place
invariant-loop-place l = LeaveSame l.run l.next l.place
