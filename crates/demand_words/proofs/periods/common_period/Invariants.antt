use Rattle.std.proofs.Common.{◌≤◌, ◌<◌, ◌^◌, ℕ}
use Rattle.std.specs.Int.{◌∣◌}
use Rattle.task_words.specs.budget.Budgets.{task_at}
use Rattle.demand_words.proofs.periods.common_period.Given as goal

-- a multiple of the periods so far
abbrev pub invariant-loop-task : goal.invariant-loop-task
invariant-loop-task l = record {
  each : (y : ℕ) → y < l.task-index → (task_at l.tasks y).period ∣ l.period;
  some : 1 ≤ l.period;
  small : l.period ≤ 2 ^ 62;
}
