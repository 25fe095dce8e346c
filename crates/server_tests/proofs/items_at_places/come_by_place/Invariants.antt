use Rattle.std.proofs.Common.{◌≡◌, length}
use Rattle.server_tests.proofs.items_at_places.come_by_place.Given as goal

abbrev pub invariant-loop-place : goal.invariant-loop-place
invariant-loop-place g l = length l.heap ≡ 200
