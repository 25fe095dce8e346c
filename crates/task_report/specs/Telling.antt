-- What is put of what is told.
use Rattle.std.specs.Prelude.{◌≡◌, ℕ, List, [], Option, Result, Ok, Err}
use Rattle.dover_model.specs.declared.events.Event.{Event}
use Rattle.dover_model.specs.declared.events.Version.{Version}
use Rattle.dover_model.specs.Common.{Fraction, Session, IsValidSession, instance_of, printed}
use Rattle.dover_port.specs.Moves.{Move, Passes, CutsShort}
use Rattle.dover_port.specs.declared.status.Status.{Status}
use Rattle.dialogue.specs.declared.talker.Stop.{Stop}
use Rattle.dialogue.specs.declared.talker.Stop.TheVariants.{NoMemory, Unwritten}
use Rattle.trace_words.specs.judge.Talk.{IsTrace}
use Rattle.task_words.specs.declared.tasks.task.PeriodicTask.{PeriodicTask}
use Rattle.task_report.specs.Talk.{SaysReport}
use Rattle.task_report.specs.declared.form.TaskForm.{TaskForm}

-- these are the version, the ratio and the printed steps of the run of a valid session
pub record IsRunBy (session : Session) (version : Version) (ratio : Fraction) (steps : List Event) : Type 0 where
  pub valid : IsValidSession session
  pub version_is : session.rules.version ≡ version
  pub ratio_is : session.rules.ratio ≡ ratio
  pub prints : steps ≡ printed (instance_of session)

-- what is to be said of the tasks and the trace was put, or a front of it that isn't all, or there was no memory for a
-- report
abbrev pub TellsBy : TaskForm → List PeriodicTask → (trace : List ℕ) → (old new : Option (List Move)) → (after : List ℕ)
    → Result Status Stop → Type 0
TellsBy form tasks trace old new after (Ok status) =
    (text : List ℕ) × SaysReport form tasks status trace text × Passes old new [] after text
TellsBy form tasks trace old new after (Err Unwritten) =
    (status : Status) × (text : List ℕ) × SaysReport form tasks status trace text × CutsShort old new [] text
TellsBy form tasks trace old new after (Err NoMemory) = IsTrace trace × Passes old new [] after []
