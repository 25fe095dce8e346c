use Rattle.std.proofs.Common.{◌≡◌, ◌≤◌, length, take}
use Rattle.run_record.specs.ledger.Pages.{entries_of}
use Rattle.run_record.proofs.ledger.reading.before_run.Given as goal

-- the jobs that the steps so far release
abbrev pub invariant-loop-event : goal.invariant-loop-event
invariant-loop-event l = record {
  are : l.entries.items ≡ entries_of (take l.event-index l.run);
  few : length l.entries.items ≤ l.event-index;
}
