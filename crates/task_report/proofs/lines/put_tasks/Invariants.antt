use Rattle.std.proofs.Common.{◌≡◌, List}
use Rattle.dover_model.specs.declared.events.Event.{Event}
use Rattle.dover_port.specs.Causes.{StaysWell}
use Rattle.dover_port.specs.Moves.{Passes}
use Rattle.task_report.specs.Counting.{Sorted}
use Rattle.task_report.proofs.Parts.{lines_up_to}
use Rattle.task_report.proofs.lines.put_tasks.Given as goal

-- the lines of the tasks so far are put
abbrev pub invariant-loop-number : goal.invariant-loop-number
invariant-loop-number g l = record {
  passes : (steps : List Event) → Sorted l.tasks steps l.run
      → Passes (g.P.Port.moves l.initial.port) (g.P.Port.moves l.port) l.initial.out l.out
      (lines_up_to l.tasks steps l.number);
  writes : g.P.Port.write_faults l.port ≡ g.P.Port.write_faults l.initial.port;
  reads : g.P.Port.read_faults l.port ≡ g.P.Port.read_faults l.initial.port;
  calls : StaysWell (g.P.Port.calls l.initial.port) (g.P.Port.calls l.port);
}
