use Rattle.std.proofs.Common.{◌≡◌, take}
use Rattle.task_words.specs.budget.Budgets.{budgeted}
use Rattle.task_words.specs.budget.Lines.{FitUpTo}
use Rattle.task_words.proofs.budget.paying.pay.Given as goal

-- the tasks so far have their budgets, which fit
abbrev pub invariant-loop-number : goal.invariant-loop-number
invariant-loop-number l = record {
  paid : l.budgets.items ≡ take l.number (budgeted l.ratio l.cost l.tasks);
  fit : FitUpTo (budgeted l.ratio l.cost l.tasks) l.number;
}
