use Rattle.std.proofs.Common.{◌≡◌, length}
use Rattle.dover_port.specs.Causes.{StaysWell}
use Rattle.trial_words.proofs.Turning.{HasPut}
use Rattle.trial_words.proofs.draw.put_turns.Given as goal

-- the lines of the turns so far are put
abbrev pub invariant-loop-turn : goal.invariant-loop-turn
invariant-loop-turn g l = record {
  put : HasPut l.initial.turns l.turns (g.P.Port.moves l.initial.port) (g.P.Port.moves l.port) l.initial.out l.out;
  writes : g.P.Port.write_faults l.port ≡ g.P.Port.write_faults l.initial.port;
  reads : g.P.Port.read_faults l.port ≡ g.P.Port.read_faults l.initial.port;
  calls : StaysWell (g.P.Port.calls l.initial.port) (g.P.Port.calls l.port);
}

abbrev pub decreases-loop-turn : goal.decreases-loop-turn
decreases-loop-turn g l = length l.turns
