use Rattle.std.proofs.Common.{◌≡◌, map, take}
use Rattle.std.specs.List.{enumerate_from}
use Rattle.dover_model.specs.Lines.{in_lines}
use Rattle.dover_port.specs.Causes.{StaysWell}
use Rattle.dover_model.specs.Common.{rules_with}
use Rattle.dover_port.specs.Moves.{Passes}
use Rattle.task_words.specs.sure.Lines.{sure_line}
use Rattle.task_words.specs.sure.Streams.{streams_of}
use Rattle.task_words.proofs.sure.lines.put_lines.Given as goal

-- the lines of the tasks so far are put
abbrev pub invariant-loop-number : goal.invariant-loop-number
invariant-loop-number g l = record {
  passes : Passes (g.P.Port.moves l.initial.port) (g.P.Port.moves l.port) l.initial.out l.out
      (in_lines (map (λ x_s. sure_line (rules_with l.together.ratio l.together.version) (streams_of l.tasks)
      x_s.0)
      (take l.number (enumerate_from 0 (streams_of l.tasks)))));
  writes : g.P.Port.write_faults l.port ≡ g.P.Port.write_faults l.initial.port;
  reads : g.P.Port.read_faults l.port ≡ g.P.Port.read_faults l.initial.port;
  calls : StaysWell (g.P.Port.calls l.initial.port) (g.P.Port.calls l.port);
}
