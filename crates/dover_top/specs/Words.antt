-- The command line: the rows of words.
use Rattle.std.specs.Prelude.{◌≡◌, ℕ, ◌^◌, ◌<◌, ◌≤◌, List, [], ◌∷◌, map, codes, decimal, String, string_bytes}
use Rattle.std.specs.Prelude.{Option, Some, None}
use Rattle.std.specs.declared.alloc.Global.{Global}
use Rattle.dover_model.specs.Fraction.{Fraction, IsRatio}
use Rattle.dover_model.specs.declared.factors.Factor.{Factor}
use Rattle.dover_model.specs.declared.events.Version.TheVariants.{Two}
use Rattle.dover_model.specs.Limits.{most_digits, most_jobs, last_tick_in, most_work}
use Rattle.stated_jobs.specs.declared.duel.links.Share.{Share}
use Rattle.stated_jobs.specs.duel.Kept.{IsShare}
use Rattle.trace_words.specs.declared.report.form.Form.{Form}
use Rattle.trace_words.specs.declared.report.form.Form.TheVariants.{Text, Table, Chrome, Why, Timeline, Svg}
use Rattle.trace_words.specs.declared.schedule.form.ScheduleForm.{ScheduleForm}
use Rattle.trace_words.specs.declared.schedule.form.ScheduleForm.TheVariants as any
use Rattle.task_report.specs.declared.form.TaskForm.{TaskForm}
use Rattle.task_report.specs.declared.form.TaskForm.TheVariants as by_tasks
use Rattle.run_reports.specs.declared.views.window.Window.{Window}
use Rattle.feed_words.specs.declared.serve.at_end.AtEnd.{AtEnd}
use Rattle.feed_words.specs.declared.serve.at_end.AtEnd.TheVariants.{Refuse, Pause}
use Rattle.question_words.specs.declared.question.Question.{Question}
use Rattle.question_words.specs.declared.question.Question.TheVariants.{Feasible, Best, Compare, Loss}

-- the words as bytes
abbrev pub spelled : List (String Global) → List (List ℕ)
spelled words = map string_bytes words

-- the one word that asks for the serving of a feed
abbrev pub AsksServe : List (String Global) → Type 0
AsksServe words = spelled words ≡ codes "serve" ∷ []

-- the one word that asks for the judging of a text
abbrev pub AsksJudge : List (String Global) → Type 0
AsksJudge words = spelled words ≡ codes "judge" ∷ []

-- the words for a window of ticks, if there is one
abbrev pub window_words : Option Window → List (List ℕ)
window_words None = []
window_words (Some w) = decimal w.from ∷ decimal w.until ∷ []

-- the words for a form of report
abbrev pub form_words : Form → List (List ℕ)
form_words Text = codes "text" ∷ []
form_words Table = codes "csv" ∷ []
form_words Chrome = codes "chrome" ∷ []
form_words (Why n) = codes "why" ∷ decimal n ∷ []
form_words (Timeline window) = codes "timeline" ∷ window_words window
form_words (Svg window) = codes "svg" ∷ window_words window

-- a window that is asked for has some tick, and its numbers have numerals
abbrev pub IsWindow : Option Window → Type 0
IsWindow None = Unit {0}
IsWindow (Some w) = (w.from < w.until) × (w.until < 10 ^ most_digits)

-- the number of a job that is asked about is small, and a window is one
abbrev pub IsFormed : Form → Type 0
IsFormed (Why n) = n ≤ most_jobs Two
IsFormed (Timeline window) = IsWindow window
IsFormed (Svg window) = IsWindow window
IsFormed _ = Unit {0}

-- the words that ask for a report on a text, in this form
pub record AsksReport (words : List (String Global)) (form : Form) : Type 0 where
  pub row : spelled words ≡ codes "report" ∷ form_words form
  pub formed : IsFormed form

-- the words for a form of report on a schedule
abbrev pub schedule_words : ScheduleForm → List (List ℕ)
schedule_words any.Table = codes "csv" ∷ []
schedule_words (any.Timeline window) = codes "timeline" ∷ window_words window
schedule_words (any.Svg window) = codes "svg" ∷ window_words window

-- a window of it is one
abbrev pub IsScheduleForm : ScheduleForm → Type 0
IsScheduleForm any.Table = Unit {0}
IsScheduleForm (any.Timeline window) = IsWindow window
IsScheduleForm (any.Svg window) = IsWindow window

-- the words that ask for a report on a schedule, whichever policy made it, in this form
pub record AsksSchedule (words : List (String Global)) (form : ScheduleForm) : Type 0 where
  pub row : spelled words ≡ codes "report" ∷ codes "any" ∷ schedule_words form
  pub formed : IsScheduleForm form

-- the words for a form of report on tasks
abbrev pub task_form_words : TaskForm → List (List ℕ)
task_form_words by_tasks.Lines = []
task_form_words (by_tasks.Timeline window) = codes "timeline" ∷ window_words window
task_form_words (by_tasks.Svg window) = codes "svg" ∷ window_words window

-- a window of it is one
abbrev pub IsTaskForm : TaskForm → Type 0
IsTaskForm by_tasks.Lines = Unit {0}
IsTaskForm (by_tasks.Timeline window) = IsWindow window
IsTaskForm (by_tasks.Svg window) = IsWindow window

-- the words that ask what became of the jobs of tasks, in this form
pub record AsksReportTasks (words : List (String Global)) (form : TaskForm) : Type 0 where
  pub row : spelled words ≡ codes "report" ∷ codes "tasks" ∷ task_form_words form
  pub formed : IsTaskForm form

-- the words that ask for the run of so many jobs of a seed, within a ratio
pub record AsksTrial (words : List (String Global)) (seed count : ℕ) (k : Fraction) : Type 0 where
  pub row : spelled words ≡ codes "trial" ∷ decimal seed ∷ decimal count ∷ decimal k.p ∷ decimal k.q ∷ []
  pub small : seed < 2 ^ 31
  pub few : count ≤ most_jobs Two
  pub allowed : IsRatio k
  pub plain : k.factor ≡ None

-- the words that ask for the stated feed of so many jobs of a seed, within a ratio
pub record AsksDraw (words : List (String Global)) (seed count : ℕ) (k : Fraction) : Type 0 where
  pub row : spelled words ≡ codes "draw" ∷ decimal seed ∷ decimal count ∷ decimal k.p ∷ decimal k.q ∷ []
  pub small : seed < 2 ^ 31
  pub few : count ≤ most_jobs Two
  pub allowed : IsRatio k
  pub plain : k.factor ≡ None

-- the words for a factor, if there is one
abbrev pub factor_words : Option Factor → List (List ℕ)
factor_words None = []
factor_words (Some f) = decimal f.b ∷ decimal f.c ∷ []

-- the words that ask for the run of the baiting jobs of a ratio, with a factor or without, and with so many rounds
pub record AsksBait (words : List (String Global)) (k : Fraction) (rounds : ℕ) : Type 0 where
  pub row : spelled words ≡ codes "bait" ∷ decimal k.p ∷ decimal k.q ∷ decimal rounds ∷ factor_words k.factor
  pub some : 1 ≤ rounds
  pub few : rounds ≤ most_jobs Two
  pub allowed : IsRatio k

-- the word for a front, if there is one
abbrev pub front_words : Option ℕ → List (List ℕ)
front_words None = []
front_words (Some count) = decimal count ∷ []

-- a front that is asked for has some job, and no more than a feed may have
abbrev pub IsFront : Option ℕ → Type 0
IsFront None = Unit {0}
IsFront (Some count) = (1 ≤ count) × (count ≤ most_jobs Two)

-- the words that ask for the duel for a share, or for a front of it
pub record AsksDuel (words : List (String Global)) (k : Fraction) (share : Share) (front : Option ℕ) : Type 0 where
  pub row : spelled words ≡ codes "duel" ∷ decimal k.p ∷ decimal k.q ∷ decimal share.part ∷ decimal share.whole
      ∷ front_words front
  pub allowed : IsRatio k
  pub plain : k.factor ≡ None
  pub share_is : IsShare share
  pub formed : IsFront front

-- the word for a question
abbrev pub question_word : Question → List ℕ
question_word Feasible = codes "feasible"
question_word Best = codes "best"
question_word Compare = codes "compare"
question_word Loss = codes "loss"

-- the one word that asks this about the jobs of a feed
abbrev pub AsksQuestion : List (String Global) → Question → Type 0
AsksQuestion words question = spelled words ≡ question_word question ∷ []

-- the one word that asks for the serving of many feeds in one input
abbrev pub AsksLanes : List (String Global) → Type 0
AsksLanes words = spelled words ≡ codes "lanes" ∷ []

-- the one word that asks for the serving of a feed that pauses where its input ends
abbrev pub AsksPause : List (String Global) → Type 0
AsksPause words = spelled words ≡ codes "pause" ∷ []

-- the word for what is done where the input of a resumed feed ends, if there is one
abbrev pub end_words : AtEnd → List (List ℕ)
end_words Refuse = []
end_words Pause = codes "pause" ∷ []

-- the words that ask for a feed to be served on from its snapshot
abbrev pub AsksResume : List (String Global) → AtEnd → Type 0
AsksResume words at_end = spelled words ≡ codes "resume" ∷ end_words at_end

-- the words that ask for the feed of the jobs that tasks release before a tick
pub record AsksUnroll (words : List (String Global)) (until : ℕ) : Type 0 where
  pub row : spelled words ≡ codes "unroll" ∷ decimal until ∷ []
  pub known : until ≤ last_tick_in Two

-- the one word that asks of each task whether it passes a test by which no job of it is lost
abbrev pub AsksSure : List (String Global) → Type 0
AsksSure words = spelled words ≡ codes "sure" ∷ []

-- the words that ask whether the jobs of tasks can be met for all time
abbrev pub AsksFeasibleTasks : List (String Global) → Type 0
AsksFeasibleTasks words = spelled words ≡ codes "feasible" ∷ codes "tasks" ∷ []

-- the one word that asks for the least ratio that jobs or tasks keep
abbrev pub AsksRatio : List (String Global) → Type 0
AsksRatio words = spelled words ≡ codes "ratio" ∷ []

-- the words that ask for tasks with budgets that pay for changes of hands of at most so many ticks
pub record AsksBudget (words : List (String Global)) (cost : ℕ) : Type 0 where
  pub row : spelled words ≡ codes "budget" ∷ decimal cost ∷ []
  pub known : cost ≤ most_work
