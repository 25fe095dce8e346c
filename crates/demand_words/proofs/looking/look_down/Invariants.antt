use Rattle.std.proofs.Common.{◌≤◌, ◌<◌, ◌+◌, ℕ}
use Rattle.task_laws.specs.Demand.{demand}
use Rattle.demand_words.specs.Demanded.{all_facts}
use Rattle.demand_words.proofs.looking.look_down.Given as goal

-- the windows from here on are met, and each look went down
abbrev pub invariant-loop : goal.invariant-loop
invariant-loop l = record {
  known : (ticks : ℕ) → l.left ≤ ticks → ticks < l.horizon → demand (all_facts l.tasks) ticks ≤ ticks;
  down : l.left + l.counter ≤ l.horizon;
}
