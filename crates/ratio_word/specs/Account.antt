-- What a feed or a task text says to the word `ratio`, line by line: whatever its ratio is, and in whatever order.
use Rattle.std.specs.Prelude.{ℕ, suc, List, [], ◌∷◌, ◌++◌, length, Bool, true, false, ◌&&◌, nat_le, nat_lt, ◌==◌}
use Rattle.std.specs.Prelude.{if◌then◌else◌, Option, Some, None, is_some, fold}
use Rattle.dover_model.specs.declared.events.Refusal.TheVariants.{BadJob, Count}
use Rattle.dover_model.specs.declared.events.Version.{Version}
use Rattle.dover_model.specs.declared.events.Version.TheVariants.{Three}
use Rattle.dover_model.specs.Common.{last_tick_in, most_jobs, most_lines, Declaration as Rules, JobFacts, is_job}
use Rattle.dover_model.specs.Common.{job_of_numbers, lines_of, Cause, Standing, Open, Ended, Faulty, NotAdmitted}
use Rattle.dover_model.specs.Feed as feed
use Rattle.task_words.specs.tasks.Tasks.{job_at}
use Rattle.task_words.specs.reading.Account.{rules_of_line}
use Rattle.task_words.specs.declared.tasks.task.PeriodicTask.{PeriodicTask}
use Rattle.task_words.specs.declared.reading.lines.TaskLine.TheVariants.{Declared, Factored, Task, End}
use Rattle.ratio_word.specs.Lines.{text_line}
use Rattle.ratio_word.specs.declared.lines.TextLine.{TextLine}
use Rattle.ratio_word.specs.declared.lines.TextLine.TheVariants.{Plain, Job, Mark}

-- what the lines so far say, up to the first faulty line or the end
pub record TextAccount : Type 0 where
  pub lines : ℕ
  pub rules : Option Rules  -- from the ratio line on
  pub jobs : List JobFacts  -- of its job lines, and the first of each task
  pub standing : Standing

-- the account of no lines
abbrev pub no_lines : TextAccount
no_lines = record { lines = 0; rules = None; jobs = []; standing = Open }

-- the first job of a task
abbrev pub first_job : PeriodicTask → JobFacts
first_job task = job_at task task.offset

-- ---- the cause of a line

-- why a job can't stand behind so many in this version, if it can't
abbrev pub job_cause : Version → (count : ℕ) → JobFacts → Option Cause
job_cause version count j = if is_job j && nat_le j.deadline (last_tick_in version)
    then (if nat_lt count (most_jobs Three) then None else Some (NotAdmitted Count)) else Some (NotAdmitted BadJob)

-- the rules that a line declares, if it may
abbrev pub rules_of : TextLine → Option Rules
rules_of (Plain line) = rules_of_line line
rules_of (Job release work deadline value) = None
rules_of Mark = None

-- the cause of a line behind the one that declares this version, and behind so many jobs
abbrev pub later_cause : Version → (count : ℕ) → TextLine → Option Cause
later_cause version count (Plain (Declared p q number)) = Some feed.Declared
later_cause version count (Plain (Factored p q number b c)) = Some feed.Declared
later_cause version count (Plain (Task task)) =
    if task.period == 0 then Some (NotAdmitted BadJob) else job_cause version count (first_job task)
later_cause version count (Plain End) = None
later_cause version count (Job release work deadline value) =
    job_cause version count (job_of_numbers release work deadline value)
later_cause version count Mark = None

-- the first cause of a line that has one of the forms: the first line has to declare the rules
abbrev pub cause_under : Option Rules → (count : ℕ) → TextLine → Option Cause
cause_under None count line = if is_some (rules_of line) then None else Some feed.Declared
cause_under (Some rules) count line = later_cause rules.version count line

-- the same in an account
abbrev pub cause_of : TextAccount → TextLine → Option Cause
cause_of a line = cause_under a.rules (length a.jobs) line

-- ---- what a line adds

-- the account with a faulty line, which is counted already
abbrev pub with_fault : TextAccount → Cause → TextAccount
with_fault a cause = record a { standing = Faulty a.lines cause }

-- the account with one more job
abbrev pub with_job : TextAccount → JobFacts → TextAccount
with_job a j = record a { jobs = a.jobs ++ j ∷ [] }

-- the account with a good line
abbrev pub with_good_line : TextAccount → TextLine → TextAccount
with_good_line a (Plain (Declared p q version)) = record a { rules = rules_of_line (Declared p q version) }
with_good_line a (Plain (Factored p q version b c)) = record a { rules = rules_of_line (Factored p q version b c) }
with_good_line a (Plain (Task task)) = with_job a (first_job task)
with_good_line a (Plain End) = record a { standing = Ended }
with_good_line a (Job release work deadline value) = with_job a (job_of_numbers release work deadline value)
with_good_line a Mark = a

-- the account with a line that has this first cause
abbrev pub with_line : TextAccount → TextLine → Option Cause → TextAccount
with_line a line None = with_good_line a line
with_line a line (Some cause) = with_fault a cause

-- the account with a line that is counted already
abbrev pub read_line : TextAccount → List ℕ → TextAccount
read_line a bytes = if nat_lt (most_lines Three) a.lines then with_fault a feed.Lines else
    elim (text_line bytes) [ None ↦ with_fault a feed.Line | Some line ↦ with_line a line (cause_of a line) ]

-- neither ended nor faulty
abbrev pub is_open : TextAccount → Bool
is_open a = elim a.standing [ Open ↦ true | Ended ↦ false | Faulty line cause ↦ false ]

-- the next line; after the end or a fault, lines are disregarded
abbrev pub next_line : TextAccount → List ℕ → TextAccount
next_line a bytes = if is_open a then read_line (record a { lines = suc a.lines }) bytes else a

-- what the lines say
abbrev pub account_of_lines : List (List ℕ) → TextAccount
account_of_lines ls = fold next_line no_lines ls

-- what the bytes say
abbrev pub account : List ℕ → TextAccount
account bytes = account_of_lines (lines_of bytes)
