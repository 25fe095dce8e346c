use Rattle.std.proofs.Common.{drop}
use Rattle.dover_model.specs.Common.{Fraction, Instance}
use Rattle.run_record.specs.intervals.Rows.{IsRunOf}
use Rattle.run_record.proofs.ledger.Walking.{Reads}
use Rattle.run_record.proofs.ledger.reading.served.Given as goal

-- the steps so far are read
abbrev pub invariant-loop-event : goal.invariant-loop-event
invariant-loop-event l = (k : Fraction) (J : Instance) → IsRunOf k l.run J
    → Reads J l.under_way (drop l.event-index l.run)
