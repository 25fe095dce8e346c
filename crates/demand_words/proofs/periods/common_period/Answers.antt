use Rattle.std.proofs.Common.{◌≡◌, ℕ, ◌+◌, ◌<◌, ◌≤◌, ◌⊎◌, inl, inr, arith, subst}
use Rattle.std.proofs.lemmas.Bool.{cases_lt}
use Rattle.std.proofs.lemmas.Nat.Gcd.{dvd_trans}
use Rattle.std.specs.Int.{◌∣◌}
use Rattle.task_words.specs.budget.Budgets.{task_at}
use Rattle.demand_words.proofs.periods.common_period.Goals as goal

pub loop-task-preserved : goal.loop-task-preserved
loop-task-preserved c = record {
  each = λ y less. by_order y less (cases_lt y c.loop-task.task-index);
  some = c.in-Some.ensures.some;
  small = c.in-Some.ensures.small;
} where
  by_order : (y : ℕ) → y < c.loop-task.task-index + 1
      → (y < c.loop-task.task-index) ⊎ (c.loop-task.task-index ≤ y)
      → (task_at c.args.tasks.now y).period ∣ c.in-Some.multiple
  by_order y less (inl before) = dvd_trans (task_at c.args.tasks.now y).period
      (c.loop-task.invariant.each y before) c.in-Some.ensures.first
  by_order y less (inr at) =
      let here : c.loop-task.task-index ≡ y = omega (arith, less, at) in
      subst (λ n. (task_at c.args.tasks.now n).period ∣ c.in-Some.multiple) here c.in-Some.ensures.second
