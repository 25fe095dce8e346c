use Rattle.std.proofs.Common.{◌≡◌, ℕ, ◌+◌, ◌*◌, ◌^◌, ◌≤◌, ◌<◌, length, vec_capacity}
use Rattle.waiting_pool.specs.Pools.{orders_of}
use Rattle.ready_jobs.proofs.Displacing.{Displaces}
use Rattle.ready_jobs.proofs.taking.displace.Given as goal

abbrev pub invariant-loop-t : goal.invariant-loop-t
invariant-loop-t g l = record {
  displaces : Displaces l.initial.held.items l.held.items l.initial.pool l.pool;
  capacity : vec_capacity l.held ≡ vec_capacity l.initial.held;
  count : (d : ℕ) → length l.initial.held.items + length l.initial.pool.tasks + 1 < 2 ^ d →
      l.comparisons + orders_of l.initial.pool.version * d * length l.held.items
      ≤ l.initial.comparisons + orders_of l.initial.pool.version * d * length l.initial.held.items;
}

abbrev pub decreases-loop-t : goal.decreases-loop-t
decreases-loop-t g l = length l.held.items
