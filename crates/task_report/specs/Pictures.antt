-- What is said of a run by tasks: lines, or a picture.
use Rattle.std.specs.Prelude.{◌≡◌, ℕ, ◌+◌, List, [], ◌∷◌, ◌++◌, Bool, ◌==◌, if◌then◌else◌, map, length, codes}
use Rattle.std.specs.List.{list_any}
use Rattle.dover_model.specs.Common.{Instance, IsListable}
use Rattle.run_reports.specs.views.Templates.{Text, filled}
use Rattle.run_reports.specs.views.Timeline.{grouped_timeline}
use Rattle.task_words.specs.tasks.Names.{name_bytes}
use Rattle.task_words.specs.declared.tasks.name.TaskName.{TaskName}
use Rattle.task_words.specs.declared.tasks.task.PeriodicTask.{PeriodicTask}
use Rattle.task_report.specs.Tallies.{task_of}
use Rattle.task_report.specs.Texts.{report}
use Rattle.task_report.specs.declared.form.TaskForm.{TaskForm}
use Rattle.task_report.specs.declared.form.TaskForm.TheVariants.{Lines, Timeline, Svg}

-- the label of a task: its name, or its number where it has none
abbrev pub label_of : (number : ℕ) → TaskName → Text
label_of number name =
    if length (name_bytes name) == 0 then filled (codes "task @") (number ∷ []) else name_bytes name

-- the labels of these tasks, from this number on
abbrev pub labels_from : (number : ℕ) → List PeriodicTask → List Text
labels_from number [] = []
labels_from number (task ∷ tasks) = label_of number task.name ∷ labels_from (number + 1) tasks

-- and of the jobs that are of no task, if there are some
abbrev pub other_label : (some : Bool) → List Text
other_label some = if some then codes "other" ∷ [] else []

-- the labels of all tasks and of the other jobs, where the jobs are of these tasks
abbrev pub labels : List PeriodicTask → (of : List ℕ) → List Text
labels tasks of = labels_from 0 tasks ++ other_label (list_any (λ y. y == length tasks) of)

-- the number of the task of each job
abbrev pub tasks_of : List PeriodicTask → Instance → List ℕ
tasks_of tasks J = map (task_of tasks) J.jobs

-- the text is what is said of a run in this form: lines, or a picture for a terminal; a picture for a browser is some
-- text, which is tested and not proved
abbrev pub IsTaskReport : TaskForm → List PeriodicTask → Instance → (text : List ℕ) → Type 0
IsTaskReport Lines tasks J text = text ≡ report tasks J
IsTaskReport (Timeline window) tasks J text =
    text ≡ grouped_timeline window (tasks_of tasks J) (labels tasks (tasks_of tasks J)) J
IsTaskReport (Svg window) tasks J text = Unit {0}

-- a picture has no more jobs than a report keeps, and lines have any
abbrev pub Fits : TaskForm → Instance → Type 0
Fits Lines J = Unit {0}
Fits _ J = IsListable J
