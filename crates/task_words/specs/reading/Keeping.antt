-- What is kept of a task text.
use Rattle.std.specs.Prelude.{◌≡◌, ◌<◌, ◌≤◌, ℕ, List, [], ◌∷◌, ◌++◌, length, take, map, true, false, Option, Some}
use Rattle.std.specs.Prelude.{None, is_some, Result, Ok, Err}
use Rattle.dover_model.specs.declared.events.Version.TheVariants.{Two}
use Rattle.dover_model.specs.Common.{last_tick_in, most_lines, IsRatio, Declaration as Rules, lines_of, rest_of}
use Rattle.dover_model.specs.Common.{is_too_long, Open, Ended, Faulty, rules_with, IsDeclarable}
use Rattle.admission.specs.Kept as admission
use Rattle.event_feed.specs.Kept.{cause_of_fault}
use Rattle.event_feed.specs.declared.faults.Cause.{Cause}
use Rattle.line_text.specs.Cutting as cutting
use Rattle.task_words.specs.tasks.Tasks.{tested_job}
use Rattle.task_words.specs.tasks.Limits.{AreTasks, task_rules}
use Rattle.task_words.specs.declared.tasks.task.PeriodicTask.{PeriodicTask}
use Rattle.task_words.specs.reading.Account.{TaskAccount, account_of_lines, account, cause_under, rules_of_line}
use Rattle.task_words.specs.reading.Faults.{NamesFault}
use Rattle.task_words.specs.declared.reading.lines.TaskLine.{TaskLine}
use Rattle.task_words.specs.declared.reading.lines.TaskLine.TheVariants.{Declared, Factored, Task, End}
use Rattle.task_words.specs.declared.reading.intake.Declaration.{Declaration}
use Rattle.task_words.specs.declared.reading.intake.TaskIntake.{TaskIntake}
use Rattle.task_words.specs.declared.reading.intake.Progress.{Progress}
use Rattle.task_words.specs.declared.reading.intake.Progress.TheVariants as progress
use Rattle.task_words.specs.declared.reading.text.TaskText.{TaskText}
use Rattle.task_words.specs.declared.reading.reader.TaskReader.{TaskReader}

-- a tick up to which tasks may release jobs
abbrev pub IsKnown : ℕ → Type 0
IsKnown until = until ≤ last_tick_in Two

-- a line that declares these rules, or nothing
abbrev pub Declares : TaskLine → Option Rules → Type 0
Declares (Declared p q version) declared = declared ≡ rules_of_line (Declared p q version)
Declares (Factored p q version b c) declared = declared ≡ rules_of_line (Factored p q version b c)
Declares (Task task) declared = ⊥
Declares End declared = ⊥

-- the rules that were declared, and of the tasks so far what the next one needs
pub record KeepsDeclared (until : ℕ) (d : Declaration) (rules : Rules) (tasks : List PeriodicTask) : Type 0 where
  pub rules_are : rules ≡ rules_with d.admission.rules.ratio d.version
  -- whatever version that is, tasks have the limits of Two
  pub limits : d.admission.rules ≡ task_rules rules.ratio
  pub ratio : IsRatio rules.ratio
  pub declarable : IsDeclarable rules
  pub tested : admission.StandsFor d.admission (map (tested_job until) tasks)
  pub are : AreTasks until rules.ratio tasks

-- the same, where there may be no ratio line yet, and then there is no task
abbrev pub KeepsRules : (until : ℕ) → Option Declaration → Option Rules → List PeriodicTask → Type 0
KeepsRules until None None tasks = tasks ≡ []
KeepsRules until None (Some rules) tasks = ⊥
KeepsRules until (Some d) None tasks = ⊥
KeepsRules until (Some d) (Some rules) tasks = KeepsDeclared until d rules tasks

-- this is kept of an account
pub record KeepsAccount (until : ℕ) (intake : TaskIntake) (a : TaskAccount) : Type 0 where
  pub until_is : intake.until ≡ until
  pub known : IsKnown until
  pub counted : intake.lines ≡ a.lines
  pub tasks_are : intake.tasks.items ≡ a.tasks
  pub rules : KeepsRules until intake.declared a.rules a.tasks

-- how the account stands
abbrev pub StandsAt : (until : ℕ) → Progress → TaskIntake → TaskAccount → Type 0
StandsAt until progress.Open intake a = (a.standing ≡ Open) × KeepsAccount until intake a
StandsAt until progress.Ended intake a = (a.standing ≡ Ended) × KeepsAccount until intake a
    × (is_some intake.declared ≡ true)
StandsAt until (progress.Refused cause) intake a = a.standing ≡ Faulty intake.lines (cause_of_fault cause)
StandsAt until progress.NoMemory intake a = Unit {0}

-- the task is taken in behind the others, or this is why it isn't
abbrev pub Takes : (until : ℕ) → PeriodicTask → Option Rules → List PeriodicTask → Option Declaration
    → Result (Unit {0}) Cause → Type 0
Takes until task rules tasks d (Ok done) =
    (cause_under until rules tasks (Task task) ≡ None) × KeepsRules until d rules (tasks ++ task ∷ [])
Takes until task rules tasks d (Err cause) = cause_under until rules tasks (Task task) ≡ Some (cause_of_fault cause)

-- what is kept of these lines, of which none ended the text or was faulty
pub record Keeps (until : ℕ) (intake : TaskIntake) (ls : List (List ℕ)) : Type 0 where
  pub few : intake.lines ≤ most_lines Two
  pub stands : (account_of_lines until ls).standing ≡ Open
  pub keeps : KeepsAccount until intake (account_of_lines until ls)

-- what is kept of these bytes, of which no line ended the text or was faulty
pub record TextStands (until : ℕ) (text : TaskText) (bytes : List ℕ) : Type 0 where
  pub cut : cutting.StandsFor text.lines bytes
  pub short : is_too_long (rest_of bytes) ≡ false
  pub keeps : Keeps until text.intake (lines_of bytes)

-- the text of these bytes goes on, or it has ended with the tasks that are kept, or this is its fault
abbrev pub IsSo : (until : ℕ) → Progress → TaskText → List ℕ → Type 0
IsSo until progress.Open text bytes = TextStands until text bytes
IsSo until progress.Ended text bytes = StandsAt until progress.Ended text.intake (account until bytes)
IsSo until (progress.Refused cause) text bytes =
    StandsAt until (progress.Refused cause) text.intake (account until bytes) × NamesFault until cause bytes
IsSo until progress.NoMemory text bytes = ⊥

-- the reader stands for the bytes
abbrev pub StandsFor : (until : ℕ) → TaskReader → List ℕ → Type 0
StandsFor until reader bytes = IsSo until reader.progress reader.text bytes

-- behind x so many bytes of the piece were taken
abbrev pub TakesFront : (until : ℕ) → TaskReader → (x piece : List ℕ) → ℕ → Type 0
TakesFront until reader x piece n = (0 < n) × (n ≤ length piece) × StandsFor until reader (x ++ take n piece)
