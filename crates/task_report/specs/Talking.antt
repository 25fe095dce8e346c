-- What is kept of the task text and of the trace.
use Rattle.std.specs.Prelude.{◌≡◌, ◌<◌, ◌^◌, ℕ, List, [], ◌++◌, length, true}
use Rattle.dover_model.specs.Spending.{CostsAtMost}
use Rattle.task_words.specs.reading.Account.{account, is_open}
use Rattle.task_words.specs.reading.Keeping as reading
use Rattle.task_words.specs.declared.reading.reader.TaskReader.{TaskReader}
use Rattle.trace_judge.specs.Judging.{Judged, HasPaidFor, StandsFor, jobs_named, keeps}
use Rattle.task_report.specs.Behind.{behind}
use Rattle.task_report.specs.declared.form.TaskForm.{TaskForm}

-- what a call is about: the form of its report, and the comparisons from which those of the call count
pub record Call : Type 0 where
  pub form : TaskForm
  pub start : ℕ

-- The report has this form, the reader stands for the front of the bytes that is a task text, and the judge for what
-- follows. What it cost since the start is paid for by that, and it keeps the steps of the run.
pub record IsReady (call : Call) (form : TaskForm) (reader : TaskReader) (judge : Judged) (steps : ℕ)
    (bytes : List ℕ) : Type 0 where
  pub asks : form ≡ call.form
  pub front : List ℕ
  pub cut : bytes ≡ front ++ behind bytes
  pub same : account 0 bytes ≡ account 0 front
  pub reads : reading.StandsFor 0 reader front
  pub few : length front < 2 ^ 40
  pub all : is_open (account 0 front) ≡ true → behind bytes ≡ []
  pub judges : StandsFor judge (behind bytes)
  pub paid : HasPaidFor judge (behind bytes) call.start steps
  pub keeps_steps : keeps judge ≡ true

-- the comparisons since `start` are few for the jobs that the lines behind the task text name
abbrev pub Costs : (start steps : ℕ) → List ℕ → Type 0
Costs start steps bytes = CostsAtMost (jobs_named (behind bytes)) start steps
