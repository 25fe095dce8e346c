use Rattle.std.proofs.Common.{◌≡◌, length}
use Rattle.dover_model.specs.Lines.{in_lines}
use Rattle.dover_port.specs.Causes.{StaysWell}
use Rattle.trace_words.proofs.report.Putting.{HasPut}
use Rattle.trace_words.proofs.report.word.put_rows.Given as goal

-- the rows so far are put
abbrev pub invariant-loop-line : goal.invariant-loop-line
invariant-loop-line g l = record {
  put : HasPut (g.P.Port.moves l.initial.port) (g.P.Port.moves l.port) l.initial.out l.out
      (in_lines l.initial.rows.rows) l.rows;
  writes : g.P.Port.write_faults l.port ≡ g.P.Port.write_faults l.initial.port;
  reads : g.P.Port.read_faults l.port ≡ g.P.Port.read_faults l.initial.port;
  calls : StaysWell (g.P.Port.calls l.initial.port) (g.P.Port.calls l.port);
}

abbrev pub decreases-loop-line : goal.decreases-loop-line
decreases-loop-line g l = length l.rows.rows
