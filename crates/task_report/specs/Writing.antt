-- The report as it is written, by the printed steps.
use Rattle.std.specs.Prelude.{ℕ, List, [], ◌∷◌, ◌++◌, map, length, decimal, Option}
use Rattle.std.specs.List.{enumerate_from}
use Rattle.dover_model.specs.declared.events.Event.{Event}
use Rattle.dover_model.specs.Lines.{in_lines}
use Rattle.task_words.specs.budget.Budgets.{task_at}
use Rattle.task_words.specs.declared.tasks.task.PeriodicTask.{PeriodicTask}
use Rattle.task_report.specs.Counting.{tally_in}
use Rattle.task_report.specs.Texts.{task_line, other_line, slack_field}
use Rattle.task_report.specs.declared.tally.Tally.{Tally}

-- the values behind the counts
abbrev pub values_text : Tally → List ℕ
values_text t = 32 ∷ decimal t.value ++ (32 ∷ decimal t.lost_value)

-- the least slack behind a space
abbrev pub slack_text : Option ℕ → List ℕ
slack_text slack = 32 ∷ slack_field slack

-- the times behind the values
abbrev pub times_text : Tally → List ℕ
times_text t = 32 ∷ decimal t.longest ++ (32 ∷ decimal t.responses ++ (32 ∷ decimal t.preempted ++ slack_text t.slack))

-- the line of task y
abbrev pub task_text : List PeriodicTask → List Event → (y : ℕ) → List ℕ
task_text tasks steps y = task_line y (tally_in tasks steps y) (task_at tasks y).name

-- the lines of all tasks
abbrev pub task_lines : List PeriodicTask → List Event → List (List ℕ)
task_lines tasks steps = map (λ n_t. task_text tasks steps n_t.0) (enumerate_from 0 tasks)

-- the report on the run that prints these steps
abbrev pub report_in : List PeriodicTask → List Event → List ℕ
report_in tasks steps =
    in_lines (task_lines tasks steps) ++ (other_line (tally_in tasks steps (length tasks)) ++ 10 ∷ [])
