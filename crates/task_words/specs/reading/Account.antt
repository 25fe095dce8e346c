-- What a task text says, line by line.
use Rattle.std.specs.Prelude.{ℕ, suc, List, [], ◌∷◌, ◌++◌, Bool, true, false, nat_lt, if◌then◌else◌, Option, Some, None}
use Rattle.std.specs.Prelude.{is_some, fold, option_map}
use Rattle.dover_model.specs.declared.events.Version.TheVariants.{Two}
use Rattle.dover_model.specs.Common.{most_lines, fraction, with_factor, Declaration as Rules, lines_of, Cause, Standing}
use Rattle.dover_model.specs.Common.{Open, Ended, Faulty, NotAdmitted, declared_rules, factor_rules}
use Rattle.dover_model.specs.Feed as feed
use Rattle.task_words.specs.tasks.Limits.{task_refusal}
use Rattle.task_words.specs.declared.tasks.task.PeriodicTask.{PeriodicTask}
use Rattle.task_words.specs.reading.Lines.{task_line}
use Rattle.task_words.specs.declared.reading.lines.TaskLine.{TaskLine}
use Rattle.task_words.specs.declared.reading.lines.TaskLine.TheVariants.{Declared, Factored, Task, End}

-- what the lines so far say, up to the first faulty line or the end
pub record TaskAccount : Type 0 where
  pub lines : ℕ
  pub rules : Option Rules  -- from the ratio line on
  pub tasks : List PeriodicTask
  pub standing : Standing

-- the account of no lines
abbrev pub no_lines : TaskAccount
no_lines = record { lines = 0; rules = None; tasks = []; standing = Open }

-- ---- the cause of a line

-- the rules that a line declares, if it may
abbrev pub rules_of_line : TaskLine → Option Rules
rules_of_line (Declared p q version) = declared_rules (fraction p q) version
rules_of_line (Factored p q version b c) = factor_rules (with_factor (fraction p q) b c) version
rules_of_line (Task task) = None
rules_of_line End = None

-- the cause of the first line: it has to declare the rules
abbrev pub first_line_cause : TaskLine → Option Cause
first_line_cause line = if is_some (rules_of_line line) then None else Some feed.Declared

-- the cause of a later line, under these rules and behind these tasks
abbrev pub later_line_cause : (until : ℕ) → Rules → List PeriodicTask → TaskLine → Option Cause
later_line_cause until rules tasks (Declared p q version) = Some feed.Declared
later_line_cause until rules tasks (Factored p q version b c) = Some feed.Declared
later_line_cause until rules tasks (Task task) = option_map NotAdmitted (task_refusal until rules.ratio tasks task)
later_line_cause until rules tasks End = None

-- the first cause of a line that has one of the forms, under these rules, once they are declared, and behind these
-- tasks
abbrev pub cause_under : (until : ℕ) → Option Rules → List PeriodicTask → TaskLine → Option Cause
cause_under until None tasks line = first_line_cause line
cause_under until (Some rules) tasks line = later_line_cause until rules tasks line

-- the same in an account
abbrev pub cause_of : (until : ℕ) → TaskAccount → TaskLine → Option Cause
cause_of until a line = cause_under until a.rules a.tasks line

-- ---- what a line adds

-- the account with a faulty line, which is counted already
abbrev pub with_fault : TaskAccount → Cause → TaskAccount
with_fault a cause = record a { standing = Faulty a.lines cause }

-- the account with a good line
abbrev pub with_good_line : TaskAccount → TaskLine → TaskAccount
with_good_line a (Declared p q version) = record a { rules = rules_of_line (Declared p q version) }
with_good_line a (Factored p q version b c) = record a { rules = rules_of_line (Factored p q version b c) }
with_good_line a (Task task) = record a { tasks = a.tasks ++ task ∷ [] }
with_good_line a End = record a { standing = Ended }

-- the account with a line that has this first cause
abbrev pub with_line : TaskAccount → TaskLine → Option Cause → TaskAccount
with_line a line None = with_good_line a line
with_line a line (Some cause) = with_fault a cause

-- the account with a line that is counted already
abbrev pub read_line : (until : ℕ) → TaskAccount → List ℕ → TaskAccount
read_line until a bytes = if nat_lt (most_lines Two) a.lines then with_fault a feed.Lines else
    elim (task_line bytes) [ None ↦ with_fault a feed.Line | Some line ↦ with_line a line (cause_of until a line) ]

-- neither ended nor faulty
abbrev pub is_open : TaskAccount → Bool
is_open a = elim a.standing [ Open ↦ true | Ended ↦ false | Faulty line cause ↦ false ]

-- the next line; after the end or a fault, lines are disregarded
abbrev pub next_line : (until : ℕ) → TaskAccount → List ℕ → TaskAccount
next_line until a bytes = if is_open a then read_line until (record a { lines = suc a.lines }) bytes else a

-- what the lines say
abbrev pub account_of_lines : (until : ℕ) → List (List ℕ) → TaskAccount
account_of_lines until ls = fold (next_line until) no_lines ls

-- what the bytes say
abbrev pub account : (until : ℕ) → List ℕ → TaskAccount
account until bytes = account_of_lines until (lines_of bytes)
