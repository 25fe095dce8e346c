use Rattle.std.proofs.Common.{◌≡◌, length}
use Rattle.dover_port.specs.Causes.{StaysWell}
use Rattle.feed_words.proofs.serve.Snapped.{HasPut}
use Rattle.feed_words.proofs.serve.pause.put_lines.Given as goal

-- the lines so far are put
abbrev pub invariant-loop-line : goal.invariant-loop-line
invariant-loop-line g l = record {
  put : HasPut l.initial.paused l.paused (g.P.Port.moves l.initial.port) (g.P.Port.moves l.port) l.initial.out l.out;
  writes : g.P.Port.write_faults l.port ≡ g.P.Port.write_faults l.initial.port;
  reads : g.P.Port.read_faults l.port ≡ g.P.Port.read_faults l.initial.port;
  calls : StaysWell (g.P.Port.calls l.initial.port) (g.P.Port.calls l.port);
}

abbrev pub decreases-loop-line : goal.decreases-loop-line
decreases-loop-line g l = length l.paused
