use Rattle.std.proofs.Common.{◌≡◌, length}
use Rattle.server_tests.proofs.items_at_places.goes_as_listed.Given as goal

abbrev pub invariant-loop : goal.invariant-loop
invariant-loop g l = (length l.heap ≡ 200) × (length l.rows ≡ 200)
