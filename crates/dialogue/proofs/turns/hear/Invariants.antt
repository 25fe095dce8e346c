use Rattle.std.proofs.Common.{◌≡◌, ℕ, List, true, length}
use Rattle.dover_port.specs.Causes.{StaysWell}
use Rattle.dialogue.specs.Turns.{HasHeard}
use Rattle.dialogue.proofs.turns.hear.Given as goal

-- A front of the piece was taken, and what is due was put.
abbrev pub invariant-loop-rest : goal.invariant-loop-rest
invariant-loop-rest g l = record {
  heard : (a : g.T.Talker.about) (x : List ℕ) → g.T.Talker.ready a l.initial.talker l.initial.meter x
      → (g.T.Talker.talk a).goes_on x ≡ true
      → HasHeard (g.T.Talker.talk a) (g.T.Talker.ready a l.talker l.meter) x l.piece l.rest
      (g.P.Port.moves l.initial.port) (g.P.Port.moves l.port) l.initial.out l.out true;
  writes : g.P.Port.write_faults l.port ≡ g.P.Port.write_faults l.initial.port;
  reads : g.P.Port.read_faults l.port ≡ g.P.Port.read_faults l.initial.port;
  calls : StaysWell (g.P.Port.calls l.initial.port) (g.P.Port.calls l.port);
}

abbrev pub decreases-loop-rest : goal.decreases-loop-rest
decreases-loop-rest g l = length l.rest
