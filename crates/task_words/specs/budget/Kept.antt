-- What is known of budgets before their lines are written.
use Rattle.std.specs.Prelude.{◌≡◌, ◌≤◌, ◌<◌, ℕ, List, length}
use Rattle.dover_model.specs.Common.{Fraction, most_value, most_work}
use Rattle.dover_port.specs.declared.status.Status.{Status}
use Rattle.dover_port.specs.declared.status.Status.TheVariants.{Refused}
use Rattle.task_words.specs.declared.tasks.task.PeriodicTask.{PeriodicTask}
use Rattle.task_words.specs.declared.budget.paying.Unpaid.{Unpaid}
use Rattle.task_words.specs.declared.budget.paying.Unpaid.TheVariants.{Window, NoMemory}
use Rattle.task_words.specs.budget.Budgets.{budgeted, most_gets, task_at}
use Rattle.task_words.specs.budget.Lines.{IsTooLong}

-- this is why the tasks have no budgets
abbrev pub IsUnpaidBy : Fraction → (cost : ℕ) → List PeriodicTask → Unpaid → Type 0
IsUnpaidBy k cost tasks (Window n gets) =
    IsTooLong (budgeted k cost tasks) n × (gets ≡ most_gets k tasks (task_at tasks n))
IsUnpaidBy k cost tasks NoMemory = Unit {0}

-- a task whose numbers leave room for a comparison of densities
pub record IsModest (task : PeriodicTask) : Type 0 where
  pub value : task.value ≤ most_value
  pub work : task.work ≤ most_work

abbrev pub AreModest : List PeriodicTask → Type 0
AreModest tasks = (y : ℕ) → y < length tasks → IsModest (task_at tasks y)

-- Refused with this text
abbrev pub SaysCause : (cause : List ℕ) → Status → List ℕ → Type 0
SaysCause cause Refused text = text ≡ cause
SaysCause cause _ text = ⊥
