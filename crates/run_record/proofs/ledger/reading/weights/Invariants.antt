use Rattle.std.proofs.Common.{◌≤◌, drop}
use Rattle.std.specs.List.{AllByRecursion}
use Rattle.dover_model.specs.Common.{most_total, Instance}
use Rattle.dover_model.specs.declared.events.Version.TheVariants.{Two}
use Rattle.run_record.specs.intervals.Rows.{IsRunOf}
use Rattle.run_record.proofs.ledger.Walking.{Tells, worth_before}
use Rattle.run_record.proofs.ledger.reading.weights.Given as goal

-- the steps so far are read, and what is weighed is all but the weights to come
abbrev pub invariant-loop-event : goal.invariant-loop-event
invariant-loop-event l = record {
  weighs : (J : Instance) → IsRunOf l.fn.k l.run J
      → Tells J worth_before l.under_way l.worths.items (drop l.event-index l.run);
  small : AllByRecursion (λ worth. worth ≤ most_total Two) l.worths.items;
}
