-- The report on the jobs of tasks, as a text.
use Rattle.std.specs.Prelude.{ℕ, List, [], ◌∷◌, ◌++◌, map, length, decimal, codes, Option, Some, None}
use Rattle.std.specs.List.{enumerate_from}
use Rattle.dover_model.specs.Common.{Instance, in_lines, with_numbers}
use Rattle.task_words.specs.tasks.Names.{name_text}
use Rattle.task_words.specs.budget.Budgets.{task_at}
use Rattle.task_words.specs.declared.tasks.name.TaskName.{TaskName}
use Rattle.task_words.specs.declared.tasks.task.PeriodicTask.{PeriodicTask}
use Rattle.task_report.specs.Tallies.{task_tally}
use Rattle.task_report.specs.declared.tally.Tally.{Tally}

-- the numbers of a tally in the order of its line
abbrev pub tally_numbers : Tally → List ℕ
tally_numbers t = t.jobs ∷ t.completed ∷ t.lost ∷ t.value ∷ t.lost_value ∷ t.longest ∷ t.responses ∷ t.preempted ∷ []

-- the least slack, or a dash where no job completed
abbrev pub slack_field : Option ℕ → List ℕ
slack_field None = codes "-"
slack_field (Some ticks) = decimal ticks

-- the line of a task: its number, what became of its jobs, and its name where it has one
abbrev pub task_line : (number : ℕ) → Tally → TaskName → List ℕ
task_line number t name =
    with_numbers (codes "task") (number ∷ tally_numbers t) ++ (32 ∷ slack_field t.slack ++ name_text name)

-- the line of the jobs that are of no task
abbrev pub other_line : Tally → List ℕ
other_line t = with_numbers (codes "other") (tally_numbers t) ++ (32 ∷ slack_field t.slack)

-- the report on a run: a line for each task, in order, and that of the other jobs
abbrev pub report : List PeriodicTask → Instance → List ℕ
report tasks J = in_lines
    (map (λ n_t. task_line n_t.0 (task_tally tasks J n_t.0) (task_at tasks n_t.0).name) (enumerate_from 0 tasks)
    ++ other_line (task_tally tasks J (length tasks)) ∷ [])
