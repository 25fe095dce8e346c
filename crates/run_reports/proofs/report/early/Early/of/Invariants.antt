use Rattle.std.proofs.Common.{◌≡◌, ◌≤◌, ◌*◌, take}
use Rattle.run_reports.specs.report.Early.{early_of}
use Rattle.run_reports.proofs.report.early.Early.of.Given as goal

-- those of the steps so far
abbrev pub invariant-loop-event : goal.invariant-loop-event
invariant-loop-event l = record {
  is : l.early ≡ early_of l.jobs l.served (take l.event-index l.run);
  small : l.early.left ≤ 1_000_000_000_000 * l.event-index;
}
