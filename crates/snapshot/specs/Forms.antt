-- The lines of a snapshot, read field by field.
use Rattle.std.specs.Prelude.{ℕ, List, [], ◌∷◌, Option, None, option_and_then}
use Rattle.dover_model.specs.declared.events.Task.{Task}
use Rattle.dover_model.specs.Common.{job_of_numbers, rules_with, numerals}
use Rattle.line_text.specs.Reading.{number_of_first}
use Rattle.snapshot.specs.Snapshot as model
use Rattle.snapshot.specs.Reading.{role_of_word, task_from}
use Rattle.snapshot.specs.declared.forms.Head.{Head}
use Rattle.snapshot.specs.declared.forms.StateLine.{StateLine}

-- what a first line names
abbrev pub head_in : Head → model.Head
head_in h = record { rules = rules_with h.ratio h.version; lines = h.lines; mark = h.mark; jobs = h.jobs }

-- the job that a line names
abbrev pub task_in : StateLine → Task
task_in s = record {
  number = s.number;
  job = job_of_numbers s.release s.work s.deadline s.value;
  role = s.role;
  had =
      s.had;
}

-- the job of this number, from the fields behind the number
abbrev pub behind_number : ℕ → List (List ℕ) → Option Task
behind_number n [] = None
behind_number n (role ∷ fields) =
    option_and_then (λ r. option_and_then (λ ns. task_from r (n ∷ ns)) (numerals fields)) (role_of_word role)

-- the job, from the fields behind the word
abbrev pub behind_word : List (List ℕ) → Option Task
behind_word fields = option_and_then (λ first. behind_number first.0 first.1) (number_of_first fields)
