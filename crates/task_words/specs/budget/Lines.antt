-- The lines of a task text, and what the word `budget` says.
use Rattle.std.specs.Prelude.{◌≡◌, ◌⊎◌, ℕ, ◌*◌, ◌<◌, ◌≤◌, List, [], ◌∷◌, ◌++◌, Bool, true, false, map, length, nat_le}
use Rattle.std.specs.Prelude.{codes}
use Rattle.dover_model.specs.Common.{Fraction, Declaration, in_lines, with_numbers}
use Rattle.dover_port.specs.declared.status.Status.{Status}
use Rattle.dover_port.specs.declared.status.Status.TheVariants.{Done, Refused}
use Rattle.task_words.specs.declared.tasks.task.PeriodicTask.{PeriodicTask}
use Rattle.task_words.specs.reading.Lines.{task_numbers}
use Rattle.task_words.specs.tasks.Limits.{AreTasks}
use Rattle.task_words.specs.tasks.Names.{name_text}
use Rattle.event_feed.specs.Feeds.{rules_text}
use Rattle.task_words.specs.budget.Budgets.{budgeted, most_gets, task_at}

-- ---- the text of tasks

-- the line of a task, with its name where it has one
abbrev pub task_text : PeriodicTask → List ℕ
task_text task = with_numbers (codes "task") (task_numbers task) ++ name_text task.name

-- the lines of tasks: their rules, each task, and the end
abbrev pub tasks_lines : Declaration → List PeriodicTask → List (List ℕ)
tasks_lines rules tasks = rules_text rules ∷ (map task_text tasks ++ with_numbers (codes "end") [] ∷ [])

-- their text
abbrev pub tasks_text : Declaration → List PeriodicTask → List ℕ
tasks_text rules tasks = in_lines (tasks_lines rules tasks)

-- ---- why tasks with their budgets aren't written

-- the works of the first so many tasks fit their deadlines
abbrev pub FitUpTo : List PeriodicTask → ℕ → Type 0
FitUpTo budgets n = (y : ℕ) → y < n → (task_at budgets y).work ≤ (task_at budgets y).deadline

-- the value of the first task by its work is at most the ratio times that of the second
abbrev pub keeps_ratio : Fraction → PeriodicTask → PeriodicTask → Bool
keeps_ratio k a b = nat_le (k.q * a.value * b.work) (k.p * b.value * a.work)

-- so it is against each of the first so many
abbrev pub KeepsUpTo : Fraction → List PeriodicTask → PeriodicTask → ℕ → Type 0
KeepsUpTo k budgets a n = (z : ℕ) → z < n → keeps_ratio k a (task_at budgets z) ≡ true

-- and so are the first so many against all
abbrev pub KeepUpTo : Fraction → List PeriodicTask → ℕ → Type 0
KeepUpTo k budgets n = (y : ℕ) → y < n → KeepsUpTo k budgets (task_at budgets y) (length budgets)

-- task n is the first whose budget doesn't fit its deadline
pub record IsTooLong (budgets : List PeriodicTask) (n : ℕ) : Type 0 where
  pub there : n < length budgets
  pub first : FitUpTo budgets n
  pub long : (task_at budgets n).deadline < (task_at budgets n).work

-- all fit; task n is the first that breaks the ratio with some other, and m the first with which it does
pub record IsTooDense (k : Fraction) (budgets : List PeriodicTask) (n m : ℕ) : Type 0 where
  pub fit : FitUpTo budgets (length budgets)
  pub there : n < length budgets
  pub first : KeepUpTo k budgets n
  pub other : m < length budgets
  pub first_other : KeepsUpTo k budgets (task_at budgets n) m
  pub breaks : keeps_ratio k (task_at budgets n) (task_at budgets m) ≡ false

-- the line of task n that is too long, with how often a job of it gets the processor at most
abbrev pub window_text : (n gets : ℕ) → List ℕ
window_text n gets = with_numbers (codes "refused window") (n ∷ gets ∷ []) ++ 10 ∷ []

-- the line of task n that breaks the ratio with task m
abbrev pub ratio_text : (n m : ℕ) → List ℕ
ratio_text n m = with_numbers (codes "refused ratio") (n ∷ m ∷ []) ++ 10 ∷ []

-- the tasks have no such budgets, and this says why
abbrev pub IsUnpaid : Fraction → (cost : ℕ) → List PeriodicTask → List ℕ → Type 0
IsUnpaid k cost tasks text =
    ((n : ℕ) × IsTooLong (budgeted k cost tasks) n × (text ≡ window_text n (most_gets k tasks (task_at tasks n))))
    ⊎ ((n : ℕ) × (m : ℕ) × IsTooDense k (budgeted k cost tasks) n m × (text ≡ ratio_text n m))

-- Done with the text of the tasks with their budgets, where these may stand together, and Refused where one doesn't fit
-- its deadline or breaks the ratio
abbrev pub SaysBudgets : (cost : ℕ) → Declaration → List PeriodicTask → Status → List ℕ → Type 0
SaysBudgets cost rules tasks Done text =
    AreTasks 0 rules.ratio (budgeted rules.ratio cost tasks)
    × (text ≡ tasks_text rules (budgeted rules.ratio cost tasks))
SaysBudgets cost rules tasks Refused text = IsUnpaid rules.ratio cost tasks text
SaysBudgets cost rules tasks _ text = ⊥
