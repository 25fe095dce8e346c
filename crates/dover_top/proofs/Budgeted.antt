-- What is promised of tasks that are written with budgets.
use Rattle.std.proofs.Common.{◌≡◌, ◌≤◌, ◌<◌, ℕ, List, length, Bool, sym, subst, inl, inr, arith}
use Rattle.dover_model.specs.Fraction.{Fraction}
use Rattle.dover_port.specs.Moves.{Move, ins, outs}
use Rattle.dover_port.specs.declared.status.Status.TheVariants.{Done, Refused}
use Rattle.task_words.specs.asking.Talk.{tasks_talk}
use Rattle.task_words.specs.declared.asking.question.TaskQuestion.TheVariants as tasks
use Rattle.task_words.specs.declared.tasks.task.PeriodicTask.{PeriodicTask}
use Rattle.task_words.specs.budget.Budgets.{AreOfTasks, budgeted, task_at}
use Rattle.task_words.specs.reading.Account.{account}
use Rattle.task_words.specs.tasks.Limits.{AreTasks, IsTask}
use Rattle.task_words.specs.tasks.Merging.{blank_task}
use Rattle.task_words.proofs.budget.Counted.{budgets_enough}
use Rattle.task_words.proofs.budget.Standing.{as_many, budget_there}
use Rattle.task_words.proofs.sure.Small.{at_place}
use Rattle.dover_top.specs.BudgetTasks.{KeepsBudgets}

-- the periods of tasks that have budgets
periods : (k : Fraction) (cost : ℕ) (tasks : List PeriodicTask) → AreTasks 0 k (budgeted k cost tasks) → (y : ℕ)
    → y < length tasks → 1 ≤ (task_at tasks y).period
periods k cost tasks are y less =
    let it : IsTask 0 (task_at (budgeted k cost tasks) y) =
    at_place (IsTask 0) (budgeted k cost tasks) blank_task are.each y (omega (arith, less, as_many k cost tasks)) in
    subst (λ (t : PeriodicTask). 1 ≤ t.period) (budget_there k cost tasks y less) it.period

pub budgeted_so : (cost : ℕ) (ended : Bool) (moves : List Move)
    → (tasks_talk (tasks.Budget cost)).answer (ins moves) ended Done (outs moves) → KeepsBudgets cost moves
budgeted_so cost ended moves (inl refused) = absurd (let e : Done ≡ Refused = refused.0 in cc)
budgeted_so cost ended moves (inr said) = record {
  rules = said.rules;
  rules_are = said.rules_are;
  text = said.said.1;
  stand = said.said.0;
  enough = λ J of t valid ratio are member done whole.
      budgets_enough J valid cost (account 0 (ins moves)).tasks of
      (subst (λ k. AreOfTasks (budgeted k cost (account 0 (ins moves)).tasks) of J) (sym ratio) are)
      (periods said.rules.ratio cost (account 0 (ins moves)).tasks said.said.0) t member done whole;
}
