use Rattle.std.proofs.Common.{◌≤◌, ◌<◌, ℕ}
use Rattle.task_words.specs.budget.Budgets.{task_at}
use Rattle.demand_words.proofs.periods.last_deadline.Given as goal

-- the greatest deadline so far
abbrev pub invariant-loop-task : goal.invariant-loop-task
invariant-loop-task l = record {
  each : (y : ℕ) → y < l.task-index → (task_at l.tasks y).deadline ≤ l.last;
  small : l.last ≤ 1_000_000_000_000;
}
