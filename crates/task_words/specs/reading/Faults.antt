-- Which line of a task text is at fault, and with which task before it its ratio is broken.
use Rattle.std.specs.Prelude.{◌≡◌, ℕ, List, [], ◌∷◌, ◌++◌, map, Option, Some}
use Rattle.dover_model.specs.Common.{lines_of, Declaration as Rules, Open}
use Rattle.admission.specs.Answers.{IsOther}
use Rattle.event_feed.specs.declared.faults.Cause.{Cause}
use Rattle.event_feed.specs.declared.faults.Cause.TheVariants as cause
use Rattle.task_words.specs.tasks.Tasks.{tested_job}
use Rattle.task_words.specs.declared.tasks.task.PeriodicTask.{PeriodicTask}
use Rattle.task_words.specs.reading.Account.{TaskAccount, account_of_lines}
use Rattle.task_words.specs.reading.Lines.{task_line}
use Rattle.task_words.specs.declared.reading.intake.Progress.{Progress}
use Rattle.task_words.specs.declared.reading.intake.Progress.TheVariants as progress
use Rattle.task_words.specs.declared.reading.lines.TaskLine.{TaskLine}
use Rattle.task_words.specs.declared.reading.lines.TaskLine.TheVariants.{Task}

-- the line is a task's, and of the tasks before it the one of this number breaks the ratio with it, by the jobs that
-- they are tested by
pub record BreaksRatio (until : ℕ) (line : Option TaskLine) (rules : Option Rules) (tasks : List PeriodicTask)
    (other : ℕ) : Type 0 where
  pub under : Rules
  pub rules_are : rules ≡ Some under
  pub task : PeriodicTask
  pub line_is : line ≡ Some (Task task)
  pub earlier : IsOther under.ratio (map (tested_job until) tasks) (tested_job until task) other

-- where the ratio is broken, the other task is named
abbrev pub NamesOther : (until : ℕ) → Option TaskLine → Option Rules → List PeriodicTask → Cause → Type 0
NamesOther until line rules tasks cause.Lines = Unit {0}
NamesOther until line rules tasks cause.Line = Unit {0}
NamesOther until line rules tasks cause.Declared = Unit {0}
NamesOther until line rules tasks cause.Order = Unit {0}
NamesOther until line rules tasks cause.BadJob = Unit {0}
NamesOther until line rules tasks cause.Count = Unit {0}
NamesOther until line rules tasks cause.Total = Unit {0}
NamesOther until line rules tasks (cause.Ratio other) = BreaksRatio until line rules tasks other
NamesOther until line rules tasks cause.Short = Unit {0}

-- the same of how a text stands with one more line
abbrev pub NamesAt : (until : ℕ) → Option TaskLine → TaskAccount → Progress → Type 0
NamesAt until line a progress.Open = Unit {0}
NamesAt until line a progress.Ended = Unit {0}
NamesAt until line a (progress.Refused cause) = NamesOther until line a.rules a.tasks cause
NamesAt until line a progress.NoMemory = Unit {0}

-- the last of the lines of these bytes is the first that is at fault, and names the other task
pub record NamesFault (until : ℕ) (cause : Cause) (bytes : List ℕ) : Type 0 where
  pub before : List (List ℕ)
  pub line : List ℕ
  pub lines : lines_of bytes ≡ before ++ line ∷ []
  pub good : (account_of_lines until before).standing ≡ Open
  pub other : NamesOther until (task_line line) (account_of_lines until before).rules
      (account_of_lines until before).tasks cause

-- the same of how a text stands
abbrev pub NamesIn : (until : ℕ) → Progress → List ℕ → Type 0
NamesIn until progress.Open bytes = Unit {0}
NamesIn until progress.Ended bytes = Unit {0}
NamesIn until (progress.Refused cause) bytes = NamesFault until cause bytes
NamesIn until progress.NoMemory bytes = Unit {0}
