-- How many comparisons a call makes, for each row of words.
use Rattle.std.specs.Prelude.{◌≡◌, ℕ, List}
use Rattle.dover_model.specs.Spending.{CostsAtMost}
use Rattle.dover_port.specs.Moves.{Move}
use Rattle.feed_words.specs.serve.Spending as served
use Rattle.feed_words.specs.resume.Record as resumed
use Rattle.trace_words.specs.judge.Spending as judged
use Rattle.lanes_word.specs.Spending as hosted
use Rattle.question_words.specs.Spending as answered
use Rattle.task_report.specs.Spending as reported
use Rattle.task_words.specs.asking.Spending as asked
use Rattle.task_words.specs.declared.asking.question.TaskQuestion.TheVariants as tasks
use Rattle.dover_top.specs.declared.request.Request.{Request}
use Rattle.dover_top.specs.declared.request.Request.TheVariants.{Serve, Judge, Report, Trial, Bait, Ask, Lanes, Pause}
use Rattle.dover_top.specs.declared.request.Request.TheVariants.{Resume, Unroll, Duel, Draw, Sure, Budget, Ratio}
use Rattle.dover_top.specs.declared.request.Request.TheVariants.{Schedule, ReportTasks, FeasibleTasks}

-- how few comparisons it made, with so many before and now, for the jobs of what was read, at whatever status
abbrev pub IsFrugal : Request → (before now : ℕ) → List Move → Type 0
IsFrugal Serve before now = served.IsFrugal before now
IsFrugal Judge before now = judged.IsFrugal before now
IsFrugal (Report form) before now = judged.IsFrugal before now
IsFrugal (Schedule form) before now = λ moves. now ≡ before
IsFrugal (ReportTasks form) before now = reported.IsFrugal before now
IsFrugal Pause before now = served.IsFrugal before now
IsFrugal (Resume at_end) before now = resumed.IsFrugal before now
IsFrugal (Ask question) before now = answered.IsFrugal question before now
IsFrugal Lanes before now = hosted.IsFrugal before now
IsFrugal (Unroll until) before now = asked.IsFrugal (tasks.Unroll until) before now
IsFrugal Sure before now = asked.IsFrugal tasks.Sure before now
IsFrugal FeasibleTasks before now = λ moves. now ≡ before
IsFrugal Ratio before now = λ moves. now ≡ before
IsFrugal (Budget cost) before now = asked.IsFrugal (tasks.Budget cost) before now
IsFrugal _ before now = λ moves. Unit {0}

-- the same where the words alone tell how many jobs there are, and where none are served
abbrev pub IsFrugalAsAsked : Request → (before now : ℕ) → Type 0
IsFrugalAsAsked (Trial seed count k) before now = CostsAtMost count before now
IsFrugalAsAsked (Bait k rounds) before now = now ≡ before
IsFrugalAsAsked (Duel k share front) before now = now ≡ before
IsFrugalAsAsked (Draw seed count k) before now = now ≡ before
IsFrugalAsAsked _ before now = Unit {0}
