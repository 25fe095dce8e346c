-- The forms of a task text's line.
use Rattle.std.specs.Prelude.{ℕ, List, [], ◌∷◌, take, drop, if◌then◌else◌, Option, Some, None, codes, bytes_eq}
use Rattle.std.specs.Prelude.{option_and_then}
use Rattle.dover_model.specs.Common.{is_too_long, fields_of, numerals, AreShort}
use Rattle.task_words.specs.tasks.Names.{is_name, named, unnamed}
use Rattle.task_words.specs.declared.tasks.name.TaskName.{TaskName}
use Rattle.task_words.specs.declared.tasks.task.PeriodicTask.{PeriodicTask}
use Rattle.task_words.specs.declared.reading.lines.TaskLine.{TaskLine}
use Rattle.task_words.specs.declared.reading.lines.TaskLine.TheVariants.{Declared, Factored, Task, End}

-- the task of the name and the five numbers of a line
abbrev pub task_of_numbers : (name : TaskName) → (offset period work deadline value : ℕ) → PeriodicTask
task_of_numbers name o p w d v =
    record { offset = o; period = p; work = w; deadline = d; value = v; name = name }

-- the ratio and perhaps the version, and behind that perhaps the factor
abbrev pub ratio_line : List ℕ → Option TaskLine
ratio_line (p ∷ q ∷ []) = Some (Declared p q None)
ratio_line (p ∷ q ∷ version ∷ []) = Some (Declared p q (Some version))
ratio_line (p ∷ q ∷ version ∷ b ∷ c ∷ []) = Some (Factored p q version b c)
ratio_line _ = None

-- a task's name and its five numbers
abbrev pub task_numbers_line : (name : TaskName) → List ℕ → Option TaskLine
task_numbers_line name (o ∷ p ∷ w ∷ d ∷ v ∷ []) = Some (Task (task_of_numbers name o p w d v))
task_numbers_line name _ = None

-- the name that stands behind a task's numbers, or none where nothing does
abbrev pub name_of : List (List ℕ) → Option TaskName
name_of [] = Some unnamed
name_of (field ∷ []) = if is_name field then Some (named field) else None
name_of _ = None

-- the task of these fields: five numbers, and perhaps a name
abbrev pub task_of_fields : List (List ℕ) → Option TaskLine
task_of_fields fields = option_and_then
    (λ name. option_and_then (task_numbers_line name) (numerals (take 5 fields))) (name_of (drop 5 fields))

-- nothing
abbrev pub end_line : List ℕ → Option TaskLine
end_line [] = Some End
end_line _ = None

-- the line of a word and the numbers after it, where it is no task's
abbrev pub line_of_word : List ℕ → List ℕ → Option TaskLine
line_of_word word numbers =
    if bytes_eq word (codes "k") then ratio_line numbers else
    (if bytes_eq word (codes "end") then end_line numbers else None)

-- the line of these fields
abbrev pub line_of_fields : List (List ℕ) → Option TaskLine
line_of_fields [] = None
line_of_fields (word ∷ fields) = if bytes_eq word (codes "task")
    then task_of_fields fields
    else option_and_then (line_of_word word) (numerals fields)

-- the line that these bytes spell, if they do
abbrev pub task_line : List ℕ → Option TaskLine
task_line bytes = if is_too_long bytes then None else line_of_fields (fields_of bytes)

-- the numbers of a task in the order of its line
abbrev pub task_numbers : PeriodicTask → List ℕ
task_numbers task = task.offset ∷ task.period ∷ task.work ∷ task.deadline ∷ task.value ∷ []

-- the numbers of a task that was read have numerals
abbrev pub HasNumerals : TaskLine → Type 0
HasNumerals (Declared p q version) = Unit {0}
HasNumerals (Factored p q version b c) = Unit {0}
HasNumerals (Task task) = AreShort (task_numbers task)
HasNumerals End = Unit {0}
