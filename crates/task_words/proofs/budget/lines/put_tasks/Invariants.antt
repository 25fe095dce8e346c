use Rattle.std.proofs.Common.{◌≡◌, map, take}
use Rattle.dover_model.specs.Lines.{in_lines}
use Rattle.dover_port.specs.Causes.{StaysWell}
use Rattle.dover_port.specs.Moves.{Passes}
use Rattle.task_words.specs.budget.Lines.{task_text}
use Rattle.task_words.proofs.budget.lines.put_tasks.Given as goal

-- the lines of the tasks so far are put
abbrev pub invariant-loop-number : goal.invariant-loop-number
invariant-loop-number g l = record {
  passes : Passes (g.P.Port.moves l.initial.port) (g.P.Port.moves l.port) l.initial.out l.out
      (in_lines (map task_text (take l.number l.tasks)));
  writes : g.P.Port.write_faults l.port ≡ g.P.Port.write_faults l.initial.port;
  reads : g.P.Port.read_faults l.port ≡ g.P.Port.read_faults l.initial.port;
  calls : StaysWell (g.P.Port.calls l.initial.port) (g.P.Port.calls l.port);
}
