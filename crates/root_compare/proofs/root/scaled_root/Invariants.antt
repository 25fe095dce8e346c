use Rattle.std.proofs.Common.{◌≤◌, ◌*◌, ◌+◌, ◌^◌, ◌<◌}
use Rattle.root_compare.proofs.root.scaled_root.Given as goal

-- the rest is at least this, and less than this and the next bit's double
abbrev pub invariant-loop-bit : goal.invariant-loop-bit
invariant-loop-bit l = record {
  within : (l.root * l.a + l.rest) * (l.root * l.a + l.rest) ≤ l.m * l.a * l.a;
  beyond : l.m * l.a * l.a < (l.root * l.a + (l.rest + 2 ^ l.bit)) * (l.root * l.a + (l.rest + 2 ^ l.bit));
  small : l.rest + 2 ^ l.bit ≤ 2 ^ 60;
}
