-- What a text says as a schedule, line by line.
use Rattle.std.specs.Prelude.{ℕ, suc, List, length, Bool, true, false, ◌==◌, nat_le, if◌then◌else◌, Option}
use Rattle.std.specs.Prelude.{Some, None, fold, codes, bytes_eq}
use Rattle.dover_model.specs.declared.events.Event.{Event}
use Rattle.dover_model.specs.declared.events.Event.TheVariants.{Release, End}
use Rattle.dover_model.specs.declared.events.Version.TheVariants.{Two}
use Rattle.dover_model.specs.Common.{last_tick_in, most_jobs, most_lines, lines_of, fields_of, is_too_long}
use Rattle.line_text.specs.traces.Reading.{line_of_fields}
use Rattle.line_text.specs.declared.traces.lines.TraceLine.{TraceLine}
use Rattle.line_text.specs.declared.traces.lines.TraceLine.TheVariants as line
use Rattle.schedule_judge.specs.declared.causes.Cause.{Cause}
use Rattle.schedule_judge.specs.declared.causes.Cause.TheVariants as cause
use Rattle.schedule_judge.specs.declared.intake.Standing.{Standing}
use Rattle.schedule_judge.specs.declared.intake.Standing.TheVariants.{Open, Ended, Wrong, TooMany}
use Rattle.schedule_judge.specs.Legal.{Schedule, blank, cause_of, after}

-- what the lines so far say, up to the first that is wrong or the end: how many they are, the schedule, and how it
-- stands
pub record Account : Type 0 where
  pub lines : ℕ
  pub schedule : Schedule
  pub standing : Standing

-- the account of no lines
abbrev pub no_lines : Account
no_lines = record { lines = 0; schedule = blank; standing = Open }

-- ---- a line

-- a job that the step releases is due by the last tick of version Two
abbrev pub is_due_in_two : Event → Bool
is_due_in_two (Release n j) = nat_le j.deadline (last_tick_in Two)
is_due_in_two _ = true

-- the step of a line of a trace, where a schedule may have it
abbrev pub step_of_read : Option TraceLine → Option Event
step_of_read None = None
step_of_read (Some (line.Header version p q factor)) = None
step_of_read (Some (line.Step e)) = if is_due_in_two e then Some e else None
step_of_read (Some (line.Refused at r c d v refusal)) = None
step_of_read (Some (line.RefusedDone at tick n)) = None

-- the step that a line is the text of, as in a trace of version Two
abbrev pub step_in : List ℕ → Option Event
step_in bytes = if is_too_long bytes then None else step_of_read (line_of_fields (fields_of bytes))

-- the account, which stands so from now on
abbrev pub standing_so : Account → Standing → Account
standing_so a s = record a { standing = s }

-- the step is the release of a job too many
abbrev pub is_too_many : Schedule → Event → Bool
is_too_many s (Release n j) = nat_le (most_jobs Two) (length s.jobs)
is_too_many s _ = false

-- how a text stands behind a good step
abbrev pub standing_after : Event → Standing
standing_after (End value) = Ended
standing_after _ = Open

-- the account with a step that has this first cause
abbrev pub with_step : Account → Event → Option Cause → Account
with_step a e None = record a { schedule = after a.schedule e; standing = standing_after e }
with_step a e (Some c) = standing_so a (Wrong c)

-- the account with a step, whose line is counted
abbrev pub read_step : Account → Event → Account
read_step a e = if is_too_many a.schedule e then standing_so a TooMany else with_step a e (cause_of a.schedule e)

-- the account with a line behind the first, which is counted
abbrev pub read_step_line : Account → List ℕ → Account
read_step_line a bytes =
    elim (step_in bytes) [ None ↦ standing_so a (Wrong cause.Line) | Some e ↦ read_step a e ]

-- the account with the first line, which is counted
abbrev pub read_header : Account → List ℕ → Account
read_header a bytes = if bytes_eq bytes (codes "schedule") then a else standing_so a (Wrong cause.Header)

-- the account with a line, which is counted
abbrev pub read_line : Account → List ℕ → Account
read_line a bytes = if a.lines == 1 then read_header a bytes else read_step_line a bytes

-- the account with its next line counted
abbrev pub counted : Account → Account
counted a = record a { lines = suc a.lines }

-- the text goes on
abbrev pub goes_on : Standing → Bool
goes_on Open = true
goes_on Ended = false
goes_on (Wrong c) = false
goes_on TooMany = false

abbrev pub is_open : Account → Bool
is_open a = goes_on a.standing

-- the next line; behind the end, a wrong line or one too many, lines are disregarded
abbrev pub next_line : Account → List ℕ → Account
next_line a bytes = if is_open a
    then (if nat_le (most_lines Two) a.lines then standing_so a TooMany else read_line (counted a) bytes) else a

-- what the lines say
abbrev pub account_of_lines : List (List ℕ) → Account
account_of_lines ls = fold next_line no_lines ls

-- what the bytes say
abbrev pub account : List ℕ → Account
account bytes = account_of_lines (lines_of bytes)
