use Rattle.std.proofs.Common.{drop}
use Rattle.dover_model.specs.Instance.{Instance}
use Rattle.run_record.specs.intervals.Rows.{IsRunOf}
use Rattle.run_record.proofs.intervals.Counted.{AreTotals}
use Rattle.run_record.proofs.intervals.Reading.{Charges}
use Rattle.run_record.proofs.intervals.charge.Charge.of.Given as goal

-- the jobs and the book have read the steps so far, and they are counted
abbrev pub invariant-loop-event : goal.invariant-loop-event
invariant-loop-event l = record {
  charges : (J : Instance) → IsRunOf l.fn.k l.run J → Charges J l.under_way l.book (drop l.event-index l.run);
  counted : AreTotals l.totals l.run l.event-index;
}
