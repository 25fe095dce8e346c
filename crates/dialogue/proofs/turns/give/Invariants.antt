use Rattle.std.proofs.Common.{◌≡◌, ℕ, List}
use Rattle.dover_port.specs.Causes.{StaysWell}
use Rattle.dialogue.proofs.Giving.{HasGiven}
use Rattle.dialogue.proofs.turns.give.Given as goal

-- Some of the rest was given and put, and the others are left.
abbrev pub invariant-loop : goal.invariant-loop
invariant-loop g l = record {
  given : (a : g.T.Talker.about) (x : List ℕ) (rest : List (List ℕ))
      → g.T.Talker.stands a l.initial.talker l.initial.meter x rest
      → HasGiven (g.T.Talker.stands a l.talker l.meter) (g.P.Port.moves l.initial.port)
      (g.P.Port.moves l.port) l.initial.out l.out x rest l.counter;
  writes : g.P.Port.write_faults l.port ≡ g.P.Port.write_faults l.initial.port;
  reads : g.P.Port.read_faults l.port ≡ g.P.Port.read_faults l.initial.port;
  calls : StaysWell (g.P.Port.calls l.initial.port) (g.P.Port.calls l.port);
}
