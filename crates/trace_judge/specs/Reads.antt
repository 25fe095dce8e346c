-- What the judge keeps of the lines of a trace.
use Rattle.std.specs.Prelude.{◌≡◌, ◌≤◌, ◌+◌, ◌*◌, ℕ, List, [], ◌∷◌, ◌++◌, length, min, Bool, true, false, if◌then◌else◌}
use Rattle.std.specs.Prelude.{Option, Some, None, nat_lt, ◌==◌}
use Rattle.std.specs.Bool.{then_some}
use Rattle.std.specs.Option.{option_or}
use Rattle.admission.specs.Kept as admission
use Rattle.dover_model.specs.Common.{most_ready, last_tick_in, JobFacts, State, Step, printed, printed_of}
use Rattle.dover_model.specs.Common.{completed_value}
use Rattle.dover_model.specs.Common.{Item, JobItem, Session, instance_of, admitted_jobs, IsValidSession, EarlyFinish}
use Rattle.dover_model.specs.Common.{finish_at, may_finish_early, late_refusal, refusal_of, Declaration, text_of}
use Rattle.dover_model.specs.Common.{last_of, trace_lines, Idles, GoesOn, WaitsUntil}
use Rattle.dover_model.specs.declared.events.Event.{Event}
use Rattle.dover_model.specs.declared.events.Refusal.{Refusal}
use Rattle.dover_model.specs.declared.events.Refusal.TheVariants.{Full}
use Rattle.dover_model.specs.Verdict as model
use Rattle.dover_model.specs.declared.events.Event.TheVariants.{Release}
use Rattle.line_text.specs.declared.traces.lines.TraceLine.{TraceLine}
use Rattle.line_text.specs.declared.traces.lines.TraceLine.TheVariants as format
use Rattle.trace_judge.specs.Reading.{Sees, HasRoom, MayRelease, MayComplete}
use Rattle.trace_judge.specs.declared.stage.TraceStage.{TraceStage}
use Rattle.trace_judge.specs.declared.stage.TraceStage.TheVariants.{Opening, Going, Ended}
use Rattle.trace_judge.specs.declared.verdict.Expected.{Expected}
use Rattle.trace_judge.specs.declared.verdict.Expected.TheVariants.{Header, Step as Due, Nothing}
use Rattle.ready_jobs.specs.Course.{Course, Follows, new_course}
use Rattle.ready_jobs.specs.Spending.{HasPaidSince}
use Rattle.waiting_pool.specs.Pools.{IsByDensity}

-- what is kept of the lines: how far the trace has come, the run and the jobs admitted, how many items there are, the
-- floor, the steps where they are asked for, for how many jobs more there is room, and for how many steps in all, how
-- many lines were refused, and the tick of the last printed step
pub record Reading : Type 0 where
  pub stage : TraceStage
  pub course : Course
  pub kept : admission.Kept
  pub items : ℕ
  pub floor : ℕ
  pub keep : Bool
  pub steps : List Event
  pub spare : ℕ
  pub room : ℕ
  pub refused : ℕ
  pub last : ℕ

-- the steps that are kept
abbrev pub kept_steps : Bool → List Event → List Event
kept_steps keep steps = if keep then steps else []

-- up to here what the run cost is paid for, where the running job may finish till a step is printed at the clock
abbrev pub IsPaid : Reading → (start now : ℕ) → Type 0
IsPaid r start now = HasPaidSince r.course r.last start now

-- no line yet; the room of the course serves any version, since its own may choose by density
pub record Opens (r : Reading) (ls : List (List ℕ)) : Type 0 where
  pub lines : ls ≡ []
  pub course : r.course ≡ new_course r.course.rules r.course.room
  pub dense : IsByDensity r.course.rules.version
  pub items : r.items ≡ 0
  pub floor : r.floor ≡ 0
  pub steps : r.steps ≡ []
  pub refused : r.refused ≡ 0
  pub last : r.last ≡ 0

-- the lines come to the state z of the session's jobs, and the run that is kept has gone on to y
pub record Goes (r : Reading) (ls : List (List ℕ)) (S : Session) (z y : State) : Type 0 where
  pub sees : Sees ls S r.floor z
  pub idles : (xs : List Step) × Idles (instance_of S).rules z xs y
  pub follows : Follows r.course (instance_of S) y
  pub kept : admission.StandsFor r.kept (admitted_jobs S.items)
  pub rules : r.kept.rules ≡ S.rules
  pub items : r.items ≡ length S.items
  pub steps : r.steps ≡ kept_steps r.keep (printed_of sees.steps)
  pub refused : r.refused ≡ model.refused_count S
  pub last : r.last ≡ last_of (printed_of sees.steps)

-- the lines are a whole trace
pub record Ends (r : Reading) (ls : List (List ℕ)) (S : Session) : Type 0 where
  pub valid : IsValidSession S
  pub lines : ls ≡ trace_lines S
  pub rules : S.rules ≡ r.course.rules
  pub value : completed_value (instance_of S) ≡ r.course.done
  pub jobs : length (admitted_jobs S.items) ≡ r.course.jobs
  pub steps : r.steps ≡ kept_steps r.keep (printed (instance_of S))
  pub refused : r.refused ≡ model.refused_count S

-- this is kept of these lines, and the run may have gone on behind them
abbrev pub ReadsAhead : Reading → List (List ℕ) → Type 0
ReadsAhead r ls = elim r.stage [
  | Opening ↦ Opens r ls
  | Going ↦ (S : Session) × (z : State) × (y : State) × Goes r ls S z y
  | Ended ↦ (S : Session) × Ends r ls S
]

-- this is kept of these lines
abbrev pub Reads : Reading → List (List ℕ) → Type 0
Reads r ls = elim r.stage [
  | Opening ↦ Opens r ls
  | Going ↦ (S : Session) × (z : State) × Goes r ls S z z
  | Ended ↦ (S : Session) × Ends r ls S
]

-- there is room for so many jobs more, as far as they may be ready at once, and for their steps where they are kept
pub record HasSpare (r : Reading) : Type 0 where
  pub ready : min (length r.course.ready + r.spare) most_ready ≤ r.course.room
  pub steps : r.keep ≡ true → 5 * (r.course.jobs + r.spare) + 1 ≤ r.room

-- it is kept of some lines
pub record IsReader (r : Reading) : Type 0 where
  pub spare : HasSpare r
  pub lines : List (List ℕ)
  pub reads : ReadsAhead r lines

-- what is due, as the model has it
abbrev pub expected_of : Expected → model.Expected
expected_of Header = model.Header
expected_of (Due e) = model.Step e
expected_of Nothing = model.Nothing

-- ---- one line more

-- with the line the trace goes on, or it doesn't, and the lines before it are kept
pub record Took (old new : Reading) (line : List ℕ) (good : Bool) : Type 0 where
  pub yes : good ≡ true → (ls : List (List ℕ)) → Reads old ls → Reads new (ls ++ line ∷ [])
  pub no : good ≡ false → (ls : List (List ℕ)) → Reads old ls → (model.begins_trace (ls ++ line ∷ []) ≡ false)
      × ReadsAhead new ls

-- With the text of the step the trace goes on, or it doesn't where the text names nothing, and the lines before it are
-- kept. The run may have gone on before.
pub record Followed (old new : Reading) (e : Event) (good : Bool) : Type 0 where
  pub yes : good ≡ true → (ls : List (List ℕ)) → ReadsAhead old ls → Reads new (ls ++ text_of e ∷ [])
  pub no : good ≡ false → (ls : List (List ℕ)) (S : Session) (z y : State) → Goes old ls S z y
      → model.named_item S (text_of e) ≡ None → model.begins_trace (ls ++ text_of e ∷ []) ≡ false
  pub ahead : good ≡ false → (ls : List (List ℕ)) → ReadsAhead old ls → ReadsAhead new ls

-- what is kept now was kept of the same lines
abbrev pub StaysAhead : Reading → Reading → Type 0
StaysAhead old new = (ls : List (List ℕ)) → ReadsAhead old ls → ReadsAhead new ls

-- the same state at another tick
abbrev pub at_tick : ℕ → State → State
at_tick tick s = record s { clock = tick }

-- nothing is printed before the barrier of the tick, up to which the run has gone on
pub record Waited (r : Reading) (tick : ℕ) (ls : List (List ℕ)) (S : Session) (z y : State) : Type 0 where
  pub goes : Goes r ls S z y
  pub no_fall : r.floor ≤ tick
  pub low : r.course.clock ≤ tick
  pub there : GoesOn y → y.clock ≡ tick
  pub waits : WaitsUntil (instance_of S).rules tick z (at_tick tick y)

-- the job may be released next
pub record CanRelease (r : Reading) (j : JobFacts) (ls : List (List ℕ)) : Type 0 where
  pub session : Session
  pub from : State
  pub state : State
  pub waited : Waited r j.release ls session from state
  pub may : MayRelease session r.floor from j (at_tick j.release state)

-- the job of this number may finish early next, at this tick
pub record CanComplete (r : Reading) (at number : ℕ) (ls : List (List ℕ)) : Type 0 where
  pub session : Session
  pub from : State
  pub state : State
  pub waited : Waited r at ls session from state
  pub version : may_finish_early session.rules.version ≡ true
  pub known : at ≤ last_tick_in session.rules.version
  pub room : HasRoom session
  pub finish : EarlyFinish
  pub right : finish_at (instance_of session) at number ≡ Some finish

-- it may not, behind whichever lines this is kept of
abbrev pub MayNotComplete : Reading → (at number : ℕ) → Type 0
MayNotComplete r at number = (ls : List (List ℕ)) (S : Session) (z : State) → Goes r ls S z z →
    (f : EarlyFinish) (y : State) → MayComplete S r.floor z f y → f.at ≡ at → f.finish.number ≡ number → ⊥

-- why a job line is refused alone after these jobs and at this mark, if it is, where as many jobs are ready at the mark
-- as may be at once
abbrev pub refusal_if_full : Declaration → List JobFacts → ℕ → JobFacts → Option Refusal
refusal_if_full rules jobs mark j =
    if nat_lt j.release mark then late_refusal rules.version
    else option_or (refusal_of rules jobs j) (then_some (j.release == mark) Full)

-- the item is a job
abbrev pub is_job_item : Option Item → Bool
is_job_item (Some (JobItem j)) = true
is_job_item _ = false

-- the line names a job
abbrev pub is_job_line : List ℕ → Bool
is_job_line line = is_job_item (model.item_of line)

-- one for a line that names a job
abbrev pub job_lines_in : List ℕ → ℕ
job_lines_in line = if is_job_line line then 1 else 0

-- the same steps are asked for, there is as much spare room, and no further job was released
pub record IsUnchangedFor (old new : Reading) : Type 0 where
  pub keep : new.keep ≡ old.keep
  pub spare : new.spare ≡ old.spare
  pub jobs : new.course.jobs ≡ old.course.jobs

-- one for the release of a job
abbrev pub releases_in : Event → ℕ
releases_in (Release n j) = 1
releases_in _ = 0

-- one for the line of a release
abbrev pub jobs_in : TraceLine → ℕ
jobs_in (format.Header v p q factor) = 0
jobs_in (format.Step e) = releases_in e
jobs_in (format.Refused at r c d v cause) = 0
jobs_in (format.RefusedDone at tick number) = 0
