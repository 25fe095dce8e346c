-- What the call of each request promises beyond what it says.
use Rattle.std.specs.Prelude.{◌≡◌, ◌<◌, ◌⊎◌, ℕ, List}
use Rattle.dover_port.specs.Moves.{Move, ins, outs}
use Rattle.dover_port.specs.declared.status.Status.{Status}
use Rattle.dover_port.specs.declared.status.Status.TheVariants.{Done, No, Refused}
use Rattle.task_report.specs.Behind.{behind}
use Rattle.lane_server.specs.Lanes.{lane_count}
use Rattle.trial_words.specs.Lists.{trial_instance}
use Rattle.dover_top.specs.Promises.{KeepsPromises, IsTraced, IsTracedIfEnded, IsResumed, IsAccepted, KeepsBaits, IsRun}
use Rattle.dover_top.specs.Promises.{AreServed, HaveEnded, KeepsDuel, IsKept, IsServedSoFar, IsResumedSoFar, feed_in}
use Rattle.dover_top.specs.SureTasks.{KeepsSure}
use Rattle.dover_top.specs.FeasibleTasks.{KeepsMet, KeepsUnmet}
use Rattle.dover_top.specs.BudgetTasks.{KeepsBudgets}
use Rattle.dover_top.specs.LegalSchedules.{IsLegal}
use Rattle.dover_top.specs.declared.request.Request.{Request}
use Rattle.dover_top.specs.declared.request.Request.TheVariants.{Serve, Judge, Report, Trial, Bait, Ask, Lanes, Pause}
use Rattle.dover_top.specs.declared.request.Request.TheVariants.{Resume, Unroll, Duel, Draw, Sure, Budget, Ratio}
use Rattle.dover_top.specs.declared.request.Request.TheVariants.{Schedule, ReportTasks, FeasibleTasks}

-- What serves a feed promises of the feed so far at every status, and more where all is done; what else is promised
-- stands by the status.
abbrev pub Keeps : Request → Status → List Move → Type 0
Keeps Serve status moves = IsServedSoFar (ins moves) (outs moves) × (status ≡ Done → IsTraced moves)
Keeps Judge status moves = status ≡ Done → IsAccepted (ins moves)
Keeps (Report form) status moves = status ≡ Done → IsAccepted (ins moves)
Keeps (Schedule form) status moves = status ≡ Done → IsLegal moves
Keeps (ReportTasks form) status moves = status ≡ Done → IsAccepted (behind (ins moves))
Keeps (Trial seed count k) status moves = status ≡ Done → KeepsPromises (trial_instance k seed count)
Keeps (Bait k rounds) status moves = status ≡ Done → KeepsBaits k rounds
Keeps (Ask question) status moves = status ≡ Done → IsRun moves
Keeps Lanes status moves = ((lane : ℕ) → lane < lane_count → IsKept (feed_in moves lane))
    × ((status ≡ Done) ⊎ (status ≡ Refused) → AreServed moves) × (status ≡ Done → HaveEnded moves)
Keeps Pause status moves = IsServedSoFar (ins moves) (outs moves) × (status ≡ Done → IsTracedIfEnded moves)
Keeps (Resume at_end) status moves = IsResumedSoFar moves × (status ≡ Done → IsResumed moves)
Keeps (Unroll until) status moves = Unit {0}
Keeps Sure status moves = status ≡ Done → KeepsSure moves
Keeps FeasibleTasks status moves = (status ≡ Done → KeepsMet moves) × (status ≡ No → KeepsUnmet moves)
Keeps Ratio status moves = Unit {0}
Keeps (Budget cost) status moves = status ≡ Done → KeepsBudgets cost moves
Keeps (Duel k share front) status moves = status ≡ Done → KeepsDuel k share front moves
Keeps (Draw seed count k) status moves = Unit {0}
