use Rattle.std.proofs.Common.{◌≡◌, [], List, ℕ, true}
use Rattle.dover_port.specs.Causes.{StaysWell}
use Rattle.dialogue.proofs.Giving.{HasGiven}
use Rattle.lane_server.specs.Kept.{StandsFor, is_closed}
use Rattle.lanes_word.specs.Keeping.{parts_of}
use Rattle.lanes_word.proofs.Talking.{left_in}
use Rattle.lanes_word.proofs.hosting.put_left.Given as goal

-- Some of the lines were given and put, and the others are left.
abbrev pub invariant-loop : goal.invariant-loop
invariant-loop g l = record {
  given : (ls left : List (List ℕ)) → StandsFor l.initial.lanes ls left
      → HasGiven (left_in l.lanes ls)
      (g.P.Port.moves l.initial.port) (g.P.Port.moves l.port) l.initial.out l.out [] (parts_of left) l.counter;
  closed : is_closed l.lanes ≡ true;
  idle : l.comparisons ≡ l.initial.comparisons;
  writes : g.P.Port.write_faults l.port ≡ g.P.Port.write_faults l.initial.port;
  reads : g.P.Port.read_faults l.port ≡ g.P.Port.read_faults l.initial.port;
  calls : StaysWell (g.P.Port.calls l.initial.port) (g.P.Port.calls l.port);
}
