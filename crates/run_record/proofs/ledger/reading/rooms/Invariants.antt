use Rattle.std.proofs.Common.{drop}
use Rattle.dover_model.specs.Instance.{Instance}
use Rattle.run_record.specs.intervals.Rows.{IsRunOf}
use Rattle.run_record.specs.ledger.Rooms.{room_before}
use Rattle.run_record.proofs.ledger.Walking.{Tells}
use Rattle.run_record.proofs.ledger.reading.rooms.Given as goal

-- the steps so far are read, and the rooms are all but those to come
abbrev pub invariant-loop-event : goal.invariant-loop-event
invariant-loop-event l = (J : Instance) → IsRunOf l.fn.k l.run J
    → Tells J room_before l.under_way l.rooms.items (drop l.event-index l.run)
