-- What a word says that reports on a schedule, by the bytes got so far.
use Rattle.std.specs.Prelude.{◌≡◌, ℕ, List, [], ◌∷◌, ◌++◌, false, codes, decimal}
use Rattle.dover_model.specs.declared.events.Event.{Event}
use Rattle.dover_model.specs.Lines.{line_of, with_numbers}
use Rattle.dover_port.specs.declared.status.Status.{Status}
use Rattle.dover_port.specs.declared.status.Status.TheVariants.{Done, No, Refused}
use Rattle.dialogue.specs.Sizes.{size_text}
use Rattle.dialogue.specs.Talk.{Talk}
use Rattle.run_reports.specs.report.Rows.{schedule_table}
use Rattle.run_reports.specs.views.Timeline.{schedule_timeline}
use Rattle.schedule_judge.specs.Account.{Account, account, is_open}
use Rattle.schedule_judge.specs.declared.causes.Cause.{Cause}
use Rattle.schedule_judge.specs.declared.causes.Cause.TheVariants as cause
use Rattle.schedule_judge.specs.declared.intake.Standing.{Standing}
use Rattle.schedule_judge.specs.declared.intake.Standing.TheVariants.{Open, Ended, Wrong, TooMany}
use Rattle.trace_words.specs.declared.schedule.form.ScheduleForm.{ScheduleForm}
use Rattle.trace_words.specs.declared.schedule.form.ScheduleForm.TheVariants.{Table, Timeline, Svg}

-- the text is the table of a schedule with these steps, or a picture for a terminal; a picture for a browser is some
-- text, which is tested and not proved
abbrev pub IsDrawn : ScheduleForm → List Event → (text : List ℕ) → Type 0
IsDrawn Table run text = text ≡ schedule_table run
IsDrawn (Timeline window) run text = text ≡ schedule_timeline window run
IsDrawn (Svg window) run text = Unit {0}

-- the word for why a line is wrong
abbrev pub cause_word : Cause → List ℕ
cause_word cause.Header = codes "header"
cause_word cause.Line = codes "line"
cause_word cause.Order = codes "order"
cause_word cause.Late = codes "late"
cause_word cause.Work = codes "work"
cause_word cause.Number = codes "number"
cause_word cause.Job = codes "job"
cause_word cause.Busy = codes "busy"
cause_word cause.Turn = codes "turn"
cause_word cause.Early = codes "early"
cause_word cause.Open = codes "open"
cause_word cause.Value = codes "value"

-- the line of a wrong text: its first wrong line, and the cause
abbrev pub wrong_text : (line : ℕ) → Cause → List ℕ
wrong_text line c = line_of (codes "wrong" ∷ decimal line ∷ cause_word c ∷ []) ++ 10 ∷ []

-- what is said of a text of so many lines that isn't a legal schedule: where it is wrong, that it is short, or that it
-- has too many jobs or lines
abbrev pub stopped_text : (lines : ℕ) → Standing → List ℕ
stopped_text lines Open = with_numbers (codes "short") (lines ∷ []) ++ 10 ∷ []
stopped_text lines Ended = []
stopped_text lines (Wrong c) = wrong_text lines c
stopped_text lines TooMany = size_text

-- it is said of a text of this account
abbrev pub IsSaidBy : ScheduleForm → Account → Standing → (text : List ℕ) → Type 0
IsSaidBy form a Open text = text ≡ stopped_text a.lines Open
IsSaidBy form a Ended text = IsDrawn form a.schedule.steps text
IsSaidBy form a (Wrong c) text = text ≡ stopped_text a.lines (Wrong c)
IsSaidBy form a TooMany text = text ≡ stopped_text a.lines TooMany

-- and with which status
abbrev pub status_of : Standing → Status
status_of Open = No
status_of Ended = Done
status_of (Wrong c) = No
status_of TooMany = Refused

-- the account of these bytes is answered so
pub record IsSaid (form : ScheduleForm) (a : Account) (status : Status) (text : List ℕ) : Type 0 where
  pub status_is : status ≡ status_of a.standing
  pub text_is : IsSaidBy form a a.standing text

-- Nothing is due before the end, which comes with the schedule's, its first wrong line, a job or a line too many, or
-- the input's. Then this is said. Memory is lacking before the input's end alone.
abbrev pub schedule_talk : ScheduleForm → Talk
schedule_talk form = record {
  goes_on = λ bytes. is_open (account bytes);
  due = λ bytes. [];
  answer = λ bytes ended status text. IsSaid form (account bytes) status text;
  lacks = λ bytes ended. ended ≡ false;
}
