use Rattle.run_record.proofs.intervals.Counted.{AreTotals}
use Rattle.run_record.proofs.intervals.totals.JobTotals.of.Given as goal

-- what the steps so far tell
abbrev pub invariant-loop-event : goal.invariant-loop-event
invariant-loop-event l = AreTotals l.totals l.run l.event-index
