use Rattle.std.proofs.Common.{◌≡◌, map, take}
use Rattle.dover_model.specs.Lines.{in_lines}
use Rattle.dover_port.specs.Causes.{StaysWell}
use Rattle.dover_port.specs.Moves.{Passes}
use Rattle.question_words.proofs.answer.put_lines.Given as goal

-- the lines of the rows so far are put
abbrev pub invariant-loop-row : goal.invariant-loop-row
invariant-loop-row g l = record {
  passes : Passes (g.P.Port.moves l.initial.port) (g.P.Port.moves l.port) l.initial.out l.out
      (in_lines (map g.R.Row.says (take l.row-index l.rows)));
  writes : g.P.Port.write_faults l.port ≡ g.P.Port.write_faults l.initial.port;
  reads : g.P.Port.read_faults l.port ≡ g.P.Port.read_faults l.initial.port;
  calls : StaysWell (g.P.Port.calls l.initial.port) (g.P.Port.calls l.port);
}
