-- A legal schedule, step by step: which step may come next behind others, and if not why.
use Rattle.std.specs.Prelude.{ℕ, ◌-◌, List, [], ◌∷◌, ◌++◌, length, Bool, true, false, not, ◌==◌, nat_lt, nat_le}
use Rattle.std.specs.Prelude.{if◌then◌else◌, Option, Some, None, slice_get, sum_by}
use Rattle.std.specs.List.{list_all}
use Rattle.std.specs.Option.{option_or, option_map_or}
use Rattle.dover_model.specs.JobFacts.{JobFacts}
use Rattle.dover_model.specs.declared.events.Event.{Event}
use Rattle.dover_model.specs.declared.events.Event.TheVariants.{Release, Run, Preempt, Take, Complete, Abandon, End}
use Rattle.schedule_judge.specs.declared.causes.Cause.{Cause}
use Rattle.schedule_judge.specs.declared.causes.Cause.TheVariants as cause
use Rattle.schedule_judge.specs.declared.jobs.ToldJob.{ToldJob}
use Rattle.schedule_judge.specs.declared.jobs.JobState.TheVariants.{Completed, Abandoned}
use Rattle.schedule_judge.specs.declared.book.Turn.{Turn}
use Rattle.schedule_judge.specs.Jobs.{fresh, ran, settled, told_of, is_over, may_run, value_done}

-- a schedule so far: its jobs by number, the one that runs and from which tick, the tick of the last step, and all
-- steps
pub record Schedule : Type 0 where
  pub jobs : List ToldJob
  pub turn : Option Turn
  pub clock : ℕ
  pub steps : List Event

-- before the first step
abbrev pub blank : Schedule
blank = record { jobs = []; turn = None; clock = 0; steps = [] }

-- ---- which step may come next

-- the cause, where this doesn't hold
abbrev pub unless : Bool → Cause → Option Cause
unless holds c = if holds then None else Some c

-- A job that has the processor from a tick on runs inside its window, and has no more ticks than its work.
abbrev pub ran_cause : ToldJob → (from at : ℕ) → Option Cause
ran_cause told from at = if nat_lt told.job.deadline at then Some cause.Late else
    (if nat_lt told.left (at - from) then Some cause.Work else None)

-- the same of the job that runs, if one does
abbrev pub turn_cause : Schedule → (at : ℕ) → Option Cause
turn_cause s at = option_map_or
    (λ turn. option_map_or (λ told. ran_cause told turn.from at) (slice_get s.jobs turn.number) None) s.turn None

-- Ticks don't go back.
abbrev pub tick_cause : Schedule → (at : ℕ) → Option Cause
tick_cause s at = if nat_lt at s.clock then Some cause.Order else turn_cause s at

-- the job of number n runs
abbrev pub runs : Schedule → (n : ℕ) → Bool
runs s n = option_map_or (λ turn. turn.number == n) s.turn false

-- none runs
abbrev pub is_idle : Schedule → Bool
is_idle s = option_map_or (λ turn. false) s.turn true

-- the job of number n, which runs, has had all of its work by this tick
abbrev pub is_served : Schedule → (at n : ℕ) → Bool
is_served s at n = option_map_or
    (λ turn. option_map_or (λ told. nat_le told.left (at - turn.from)) (slice_get s.jobs n) false) s.turn false

-- A job runs where none does, and where it is released and not over.
abbrev pub run_cause : Schedule → (n : ℕ) → Option Cause
run_cause s n = option_or (unless (is_idle s) cause.Busy) (unless (may_run s.jobs n) cause.Job)

-- It takes the processor from another one that runs.
abbrev pub switch_cause : Schedule → (stops starts : ℕ) → Option Cause
switch_cause s stops starts = option_or (unless (runs s stops) cause.Turn)
    (option_or (unless (may_run s.jobs starts) cause.Job) (unless (not (stops == starts)) cause.Job))

-- A job completes where it runs and has had all of its work.
abbrev pub complete_cause : Schedule → (at n : ℕ) → Option Cause
complete_cause s at n = option_or (unless (runs s n) cause.Turn) (unless (is_served s at n) cause.Early)

-- The job of number n is past its deadline at this tick.
abbrev pub is_past : List ToldJob → (at n : ℕ) → Bool
is_past jobs at n = option_map_or (λ told. nat_lt told.job.deadline at) (slice_get jobs n) false

-- A job is abandoned by its deadline at the latest, where it is released and not over.
abbrev pub abandon_cause : Schedule → (at n : ℕ) → Option Cause
abandon_cause s at n =
    option_or (unless (not (is_past s.jobs at n)) cause.Late) (unless (may_run s.jobs n) cause.Job)

-- At the end each job is completed or abandoned, and the value is that of the completed ones.
abbrev pub end_cause : Schedule → (value : ℕ) → Option Cause
end_cause s value = option_or (unless (list_all is_over s.jobs) cause.Open)
    (unless (sum_by value_done s.jobs == value) cause.Value)

-- the first cause why a step can't come next
abbrev pub cause_of : Schedule → Event → Option Cause
cause_of s (Release n j) = option_or (tick_cause s j.release) (unless (n == length s.jobs) cause.Number)
cause_of s (Run at n) = option_or (tick_cause s at) (run_cause s n)
cause_of s (Preempt at stops starts) = option_or (tick_cause s at) (switch_cause s stops starts)
cause_of s (Take at stops starts) = option_or (tick_cause s at) (switch_cause s stops starts)
cause_of s (Complete at n) = option_or (tick_cause s at) (complete_cause s at n)
cause_of s (Abandon at n) = option_or (tick_cause s at) (abandon_cause s at n)
cause_of s (End value) = end_cause s value

-- ---- what a step makes of it

-- the jobs, where the one that runs stops at this tick
abbrev pub jobs_stopped : List ToldJob → Option Turn → (at : ℕ) → List ToldJob
jobs_stopped jobs None at = jobs
jobs_stopped jobs (Some turn) at = told_of (ran (at - turn.from)) jobs turn.number

-- the job that runs, if one does, stops at this tick
abbrev pub stopped : Schedule → (at : ℕ) → Schedule
stopped s at = record s { jobs = jobs_stopped s.jobs s.turn at; turn = None }

-- a job is released
abbrev pub released : Schedule → JobFacts → Schedule
released s j = record s { jobs = s.jobs ++ fresh j ∷ []; clock = j.release }

-- the job of number n runs from this tick on
abbrev pub started : Schedule → (at n : ℕ) → Schedule
started s at n = record s { turn = Some (record { number = n; from = at }); clock = at }

-- this became of the job of number n at this tick
abbrev pub settled_at : Schedule → (at n : ℕ) → (List ToldJob → List ToldJob) → Schedule
settled_at s at n f = record s { jobs = f s.jobs; clock = at }

abbrev pub completed : Schedule → (at n : ℕ) → Schedule
completed s at n = settled_at (stopped s at) at n (λ jobs. told_of (settled Completed) jobs n)

abbrev pub abandoned : Schedule → (at n : ℕ) → Schedule
abandoned s at n =
    settled_at (if runs s n then stopped s at else s) at n (λ jobs. told_of (settled Abandoned) jobs n)

-- what a step makes of the jobs and the processor
abbrev pub moved : Schedule → Event → Schedule
moved s (Release n j) = released s j
moved s (Run at n) = started (stopped s at) at n
moved s (Preempt at stops starts) = started (stopped s at) at starts
moved s (Take at stops starts) = started (stopped s at) at starts
moved s (Complete at n) = completed s at n
moved s (Abandon at n) = abandoned s at n
moved s (End value) = s

-- the schedule with one step more
abbrev pub after : Schedule → Event → Schedule
after s e = moved (record s { steps = s.steps ++ e ∷ [] }) e
