-- What is promised of tasks that are written with budgets.
use Rattle.std.specs.Prelude.{◌≡◌, ◌≤◌, ℕ, List, true, Some}
use Rattle.dover_model.specs.declared.events.Task.{Task}
use Rattle.dover_model.specs.Common.{need, Declaration, Instance, IsValid, end_state, ran, IsMember, is_done}
use Rattle.task_laws.specs.Switches.{useful}
use Rattle.dover_port.specs.Moves.{Move, ins, outs}
use Rattle.task_words.specs.budget.Budgets.{AreOfTasks, budgeted, task_at}
use Rattle.task_words.specs.budget.Lines.{tasks_text}
use Rattle.task_words.specs.reading.Account.{account}
use Rattle.task_words.specs.tasks.Limits.{AreTasks}

-- the tasks that were read, and were written with budgets for changes of hands of at most so many ticks
pub record KeepsBudgets (cost : ℕ) (moves : List Move) : Type 0 where
  pub rules : Declaration
  pub rules_are : (account 0 (ins moves)).rules ≡ Some rules
  -- The rules are written as they were, and each task with its budget.
  pub text : outs moves ≡ tasks_text rules (budgeted rules.ratio cost (account 0 (ins moves)).tasks)
  -- These may stand together, as those that were read.
  pub stand : AreTasks 0 rules.ratio (budgeted rules.ratio cost (account 0 (ins moves)).tasks)
  -- Of a valid list of jobs of the written tasks, those of one task a period apart or more, each job that is done by
  -- its whole budget has had all the work of the task that was read, beside what the changes of hands cost.
  pub enough : (J : Instance) (of : ℕ → ℕ) (t : Task) → IsValid J → J.rules.ratio ≡ rules.ratio
      → AreOfTasks (budgeted rules.ratio cost (account 0 (ins moves)).tasks) of J → IsMember t (end_state J).tasks
      → is_done t ≡ true → need J.rules.finishes t.number t.job.work ≡ t.job.work
      → (task_at (account 0 (ins moves)).tasks (of t.number)).work ≤ useful cost (ran J) (t.number, t.job)
