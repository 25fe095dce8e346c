use Rattle.std.proofs.Common.{◌≤◌, ◌*◌, ◌+◌, ◌^◌, ◌<◌}
use Rattle.root_compare.proofs.root.isqrt.Given as goal

-- the root is at least this, and less than this and the next bit's double
abbrev pub invariant-loop-bit : goal.invariant-loop-bit
invariant-loop-bit l = record {
  within : l.root * l.root ≤ l.x;
  beyond : l.x < (l.root + 2 ^ l.bit) * (l.root + 2 ^ l.bit);
  small : l.root + 2 ^ l.bit ≤ 2 ^ 64;
}
