-- What the word says, by the bytes got so far.
use Rattle.std.specs.Prelude.{◌≡◌, ◌⊎◌, ℕ, List, [], Bool, true, false, not}
use Rattle.dover_model.specs.Common.{Standing, Open, Ended, Faulty, Session, IsValidSession, instance_of}
use Rattle.dover_model.specs.Verdict.{Accepted, verdict}
use Rattle.dover_port.specs.declared.status.Status.{Status}
use Rattle.dover_port.specs.declared.status.Status.TheVariants.{Done, No, Refused}
use Rattle.dialogue.specs.Sizes.{size_text}
use Rattle.dialogue.specs.Talk.{Talk}
use Rattle.task_words.specs.asking.Talk.{IsRefusedAt}
use Rattle.task_words.specs.asking.Texts.{refusal_text}
use Rattle.task_words.specs.reading.Account.{account}
use Rattle.task_words.specs.declared.tasks.task.PeriodicTask.{PeriodicTask}
use Rattle.trace_judge.specs.Judging.{is_wrong}
use Rattle.trace_words.specs.judge.Line.{verdict_text}
use Rattle.trace_words.specs.judge.Talk.{IsNoTrace, IsTrace}
use Rattle.task_report.specs.Behind.{behind}
use Rattle.task_report.specs.Pictures.{Fits, IsTaskReport}
use Rattle.task_report.specs.declared.form.TaskForm.{TaskForm}

-- the task text goes on, or it has ended without a fault and no line of what follows is a wrong one of a trace
abbrev pub goes_on : Standing → (trace : List ℕ) → Bool
goes_on Open trace = true
goes_on Ended trace = not (is_wrong (verdict trace))
goes_on (Faulty line cause) trace = false

-- the trace is that of a valid session, whose run fits the form, and the text is what is said of it
pub record IsReported (form : TaskForm) (tasks : List PeriodicTask) (trace text : List ℕ) : Type 0 where
  pub session : Session
  pub valid : IsValidSession session
  pub accepted : verdict trace ≡ Accepted session
  pub fits : Fits form (instance_of session)
  pub reports : IsTaskReport form tasks (instance_of session) text

-- the trace is that of a valid session, whose run doesn't fit the form
pub record IsTooMuch (form : TaskForm) (trace : List ℕ) : Type 0 where
  pub session : Session
  pub valid : IsValidSession session
  pub accepted : verdict trace ≡ Accepted session
  pub unfit : Fits form (instance_of session) → ⊥

-- Done with the report, Refused where a picture would have more jobs than a report keeps, or No with the line of the
-- verdict
abbrev pub SaysReport : TaskForm → List PeriodicTask → Status → (trace text : List ℕ) → Type 0
SaysReport form tasks Done trace text = IsReported form tasks trace text
SaysReport form tasks Refused trace text = IsTooMuch form trace × (text ≡ size_text)
SaysReport form tasks No trace text = IsNoTrace trace × (text ≡ verdict_text (verdict trace))
SaysReport form tasks _ trace text = ⊥

-- the task text has ended without a fault, and this is said of its tasks and of what follows it
abbrev pub IsSaid : TaskForm → Status → (text bytes : List ℕ) → Type 0
IsSaid form status text bytes =
    ((account 0 bytes).standing ≡ Ended) × SaysReport form (account 0 bytes).tasks status (behind bytes) text

-- Nothing is due before the end, which comes with the first fault of the task text, the first wrong line of the trace,
-- or the input's. Then the line that refuses the task text is, or what is said of the tasks and the trace. Where the
-- input has ended, memory may be lacking for a report alone.
abbrev pub task_report_talk : TaskForm → Talk
task_report_talk form = record {
  goes_on = λ bytes. goes_on (account 0 bytes).standing (behind bytes);
  due = λ bytes. [];
  answer = λ bytes ended status text.
      ((status ≡ Refused) × IsRefusedAt 0 bytes ended × (text ≡ refusal_text 0 bytes)) ⊎ IsSaid form status text bytes;
  lacks = λ bytes ended. ended ≡ true → ((account 0 bytes).standing ≡ Ended) × IsTrace (behind bytes);
}
