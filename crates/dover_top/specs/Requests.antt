-- What words ask for, as a value.
use Rattle.std.specs.Prelude.{List, String}
use Rattle.std.specs.declared.alloc.Global.{Global}
use Rattle.dover_top.specs.Words.{AsksServe, AsksJudge, AsksReport, AsksTrial, AsksBait, AsksQuestion, AsksLanes}
use Rattle.dover_top.specs.Words.{AsksPause, AsksResume, AsksUnroll, AsksDuel, AsksDraw, AsksSure, AsksBudget}
use Rattle.dover_top.specs.Words.{AsksRatio, AsksSchedule, AsksReportTasks, AsksFeasibleTasks}
use Rattle.dover_top.specs.declared.request.Request.{Request}
use Rattle.dover_top.specs.declared.request.Request.TheVariants.{Serve, Judge, Report, Trial, Bait, Ask, Lanes, Pause}
use Rattle.dover_top.specs.declared.request.Request.TheVariants.{Resume, Unroll, Duel, Draw, Sure, Budget, Ratio}
use Rattle.dover_top.specs.declared.request.Request.TheVariants.{Schedule, ReportTasks, FeasibleTasks}

-- the words ask for this
abbrev pub Asks : List (String Global) → Request → Type 0
Asks words Serve = AsksServe words
Asks words Judge = AsksJudge words
Asks words (Report form) = AsksReport words form
Asks words (Schedule form) = AsksSchedule words form
Asks words (ReportTasks form) = AsksReportTasks words form
Asks words (Trial seed count k) = AsksTrial words seed count k
Asks words (Bait k rounds) = AsksBait words k rounds
Asks words (Ask question) = AsksQuestion words question
Asks words Lanes = AsksLanes words
Asks words Pause = AsksPause words
Asks words (Resume at_end) = AsksResume words at_end
Asks words (Unroll until) = AsksUnroll words until
Asks words Sure = AsksSure words
Asks words FeasibleTasks = AsksFeasibleTasks words
Asks words Ratio = AsksRatio words
Asks words (Budget cost) = AsksBudget words cost
Asks words (Duel k share front) = AsksDuel words k share front
Asks words (Draw seed count k) = AsksDraw words seed count k
