use Rattle.std.proofs.Common.{◌≡◌, ◌≤◌, ℕ, List, [], true, length}
use Rattle.dover_port.specs.Causes.{StaysWell}
use Rattle.dover_port.specs.Moves.{Since}
use Rattle.dialogue.specs.Turns.{GoesOn}
use Rattle.dialogue.proofs.turns.read_all.Given as goal

-- The talk goes on, what is due was put, and each read gave a byte.
abbrev pub invariant-loop : goal.invariant-loop
invariant-loop g l = record {
  moves : (a : g.T.Talker.about) → g.T.Talker.ready a l.initial.talker l.initial.meter []
      → Since (g.P.Port.moves l.initial.port) (g.P.Port.moves l.port)
      (GoesOn (g.T.Talker.talk a) (g.T.Talker.ready a l.talker l.meter));
  empty : l.out ≡ [];
  stands : (a : g.T.Talker.about) → g.T.Talker.ready a l.initial.talker l.initial.meter []
      → (x : List ℕ) × (l.counter ≤ length x) × g.T.Talker.ready a l.talker l.meter x
      × ((g.T.Talker.talk a).goes_on x ≡ true);
  read_faults : g.P.Port.read_faults l.port ≡ g.P.Port.read_faults l.initial.port;
  write_faults : g.P.Port.write_faults l.port ≡ g.P.Port.write_faults l.initial.port;
  calls : StaysWell (g.P.Port.calls l.initial.port) (g.P.Port.calls l.port);
}
