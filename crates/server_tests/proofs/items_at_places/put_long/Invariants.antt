use Rattle.std.proofs.Common.{◌≡◌, length}
use Rattle.server_tests.proofs.items_at_places.put_long.Given as goal

abbrev pub invariant-loop-key : goal.invariant-loop-key
invariant-loop-key g l = length l.heap ≡ 200
