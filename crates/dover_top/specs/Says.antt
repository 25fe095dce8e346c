-- What the call of each request comes to, by its status.
use Rattle.std.specs.Prelude.{List}
use Rattle.dover_model.specs.Reports.{summary}
use Rattle.dover_port.specs.Moves.{Move}
use Rattle.dover_port.specs.declared.status.Status.{Status}
use Rattle.dialogue.specs.Talk.{Talks}
use Rattle.feed_words.specs.serve.Talk.{feed_talk}
use Rattle.feed_words.specs.declared.serve.at_end.AtEnd.TheVariants as ends
use Rattle.feed_words.specs.resume.Record.{Resumes}
use Rattle.trace_words.specs.judge.Talk.{judge_talk}
use Rattle.trace_words.specs.report.Talk.{report_talk}
use Rattle.trace_words.specs.schedule.Talk.{schedule_talk}
use Rattle.trial_words.specs.Record.{Writes}
use Rattle.trial_words.specs.Lists.{trial_instance}
use Rattle.trial_words.specs.Baited.{Baits}
use Rattle.trial_words.specs.Drawing.{Draws}
use Rattle.trial_words.specs.Dueled.{Duels}
use Rattle.question_words.specs.Questions.{says}
use Rattle.question_words.specs.Talk.{ask_talk}
use Rattle.lanes_word.specs.Record.{Serves}
use Rattle.demand_words.specs.Talk.{demand_talk}
use Rattle.ratio_word.specs.Talk.{ratio_talk}
use Rattle.task_report.specs.Talk.{task_report_talk}
use Rattle.task_words.specs.asking.Talk.{tasks_talk}
use Rattle.task_words.specs.declared.asking.question.TaskQuestion.TheVariants as tasks
use Rattle.dover_top.specs.declared.request.Request.{Request}
use Rattle.dover_top.specs.declared.request.Request.TheVariants.{Serve, Judge, Report, Trial, Bait, Ask, Lanes, Pause}
use Rattle.dover_top.specs.declared.request.Request.TheVariants.{Resume, Unroll, Duel, Draw, Sure, Budget, Ratio}
use Rattle.dover_top.specs.declared.request.Request.TheVariants.{Schedule, ReportTasks, FeasibleTasks}

-- What was got and put before each read, and in all. What reads says a talk; trial, bait, duel and draw read nothing
-- and write a text; and resume says of each feed with its snapshot what serving the feed on does.
abbrev pub Says : Request → Status → List Move → Type 0
Says Serve = Talks (feed_talk ends.Refuse)
Says Judge = Talks judge_talk
Says (Report form) = Talks (report_talk form)
Says (Schedule form) = Talks (schedule_talk form)
Says (ReportTasks form) = Talks (task_report_talk form)
Says (Trial seed count k) = λ status. Writes status (summary (trial_instance k seed count))
Says (Bait k rounds) = Baits k rounds
Says (Ask question) = Talks (ask_talk (says question))
Says Lanes = Serves
Says Pause = Talks (feed_talk ends.Pause)
Says (Resume at_end) = Resumes at_end
Says (Unroll until) = Talks (tasks_talk (tasks.Unroll until))
Says Sure = Talks (tasks_talk tasks.Sure)
Says FeasibleTasks = Talks demand_talk
Says Ratio = Talks ratio_talk
Says (Budget cost) = Talks (tasks_talk (tasks.Budget cost))
Says (Duel k share front) = Duels k share front
Says (Draw seed count k) = Draws k seed count
