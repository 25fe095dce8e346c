use Rattle.std.proofs.Common.{◌≡◌, length}
use Rattle.server_tests.proofs.items_at_places.come_so.Given as goal

abbrev pub invariant-loop-version : goal.invariant-loop-version
invariant-loop-version g l = length l.heap ≡ 200
