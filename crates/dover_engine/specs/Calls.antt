-- What the calls of an engine say.
use Rattle.std.specs.Prelude.{◌≡◌, ℕ, ◌+◌, ◌≤◌, ◌||◌, List, [], ◌∷◌, ◌++◌, map, Option, Some, None, true, false, nat_lt}
use Rattle.std.specs.Prelude.{if◌then◌else◌, drop, false, ◌<◌, IfSome}
use Rattle.dover_model.specs.declared.events.Version.{Version}
use Rattle.dover_model.specs.declared.events.Event.{Event}
use Rattle.dover_model.specs.declared.events.Refusal.{Refusal}
use Rattle.dover_model.specs.declared.events.Refusal.TheVariants as plain
use Rattle.dover_model.specs.Common.{JobFacts, Fraction, most_ready, last_tick_in, Instance, declared_by, with_jobs}
use Rattle.dover_model.specs.Common.{jobs_under, with_finishes, refusal_of, Finish, runner_of, may_finish_early}
use Rattle.dover_model.specs.Common.{last_of, printed, MayFollow, is_ready_after, is_end_given, no_jobs}
use Rattle.dover_model.specs.declared.events.Event.TheVariants.{Complete}
use Rattle.admission.specs.Kept.{StandsFor}
use Rattle.admission.specs.Answers.{IsOther}
use Rattle.dover_model.specs.declared.horizon.Horizon.{Horizon}
use Rattle.dover_model.specs.declared.horizon.Horizon.TheVariants.{Mark, End}
use Rattle.admission.specs.declared.refused.Refused.{Refused}
use Rattle.admission.specs.declared.refused.Refused.TheVariants as refused
use Rattle.ready_server.specs.NextStep.{ComesAt}
use Rattle.ready_server.specs.Serving.{GoesOnWith}
use Rattle.dover_engine.specs.declared.causes.NotMade.{NotMade}
use Rattle.dover_engine.specs.declared.causes.NotMade.TheVariants.{Capacity, Memory}
use Rattle.dover_engine.specs.declared.causes.NotAdmitted.{NotAdmitted}
use Rattle.dover_engine.specs.declared.causes.NotAdmitted.TheVariants.{Unsettled, BadJob, Count, Total, Ratio, Full}
use Rattle.dover_engine.specs.declared.causes.NotAdmitted.TheVariants.{Numbers}
use Rattle.dover_engine.specs.declared.causes.NotDone.{NotDone}
use Rattle.dover_engine.specs.declared.causes.NotDone.TheVariants as not_done
use Rattle.dover_engine.specs.declared.causes.NotStepped.{NotStepped}
use Rattle.dover_engine.specs.declared.causes.NotStepped.TheVariants.{Falls, Late, Finished}
use Rattle.dover_engine.specs.declared.decision.Decision.{Decision}
use Rattle.dover_engine.specs.Decisions.{event_in, events_in}
use Rattle.dover_engine.specs.Life.{Life, IsReadyFor, IsAtRest, most_numbered, spare_of, room_of}
use Rattle.dover_engine.specs.Life.{has_ended, clock_of, coming_of, successor_of}
use Rattle.dover_engine.specs.Given.{Gave, IsPrompt}

-- ---- making

-- why no engine was made
abbrev pub not_made : ℕ → NotMade
not_made capacity = if nat_lt most_ready capacity then Capacity else Memory

-- ---- jobs

-- whatever was given before, it is given with the job behind the others
abbrev pub TakesJob : Life → Life → JobFacts → Type 0
TakesJob v w job = (J : Instance) (events : List Event) → Gave v J events → Gave w (with_jobs J (job ∷ [])) events

-- the job was admitted under this number, which is that of the jobs before it, and its release is to be given next
pub record IsAdmitted (v w : Life) (job : JobFacts) (number : ℕ) : Type 0 where
  pub numbered : number ≡ v.forgotten + v.admission.count
  pub ready : IsReadyFor v job.release
  pub gave : TakesJob v w job
  pub last : w.last ≡ v.last
  pub spare : spare_of v ≤ spare_of w + 1
  pub room : room_of w ≡ room_of v

-- the jobs that were admitted since the last moment of rest
abbrev pub since_rest : Life → Instance → List JobFacts
since_rest v J = drop v.forgotten J.jobs

-- why the job may not follow those, if so
abbrev pub HasCause : Life → JobFacts → Option Refusal → Type 0
HasCause v job cause = (J : Instance) (events : List Event) → Gave v J events
    → refusal_of (declared_by J.rules) (since_rest v J) job ≡ cause

-- the job of this number breaks the ratio with it: of those since the last moment of rest the least dense one, or else
-- the densest
pub record IsBreaker (v : Life) (J : Instance) (job : JobFacts) (other : ℕ) : Type 0 where
  pub number : ℕ  -- among those jobs
  pub numbered : other ≡ v.forgotten + number
  pub is : IsOther J.rules.ratio (since_rest v J) job number

-- the cause holds, and none before it
abbrev pub IsCause : Life → JobFacts → NotAdmitted → Type 0
IsCause v job Unsettled = IsReadyFor v job.release → ⊥
IsCause v job BadJob = IsReadyFor v job.release × HasCause v job (Some plain.BadJob)
IsCause v job Count = IsReadyFor v job.release × HasCause v job (Some plain.Count)
IsCause v job Total = IsReadyFor v job.release × HasCause v job (Some plain.Total)
IsCause v job (Ratio other) = IsReadyFor v job.release × HasCause v job (Some plain.Ratio)
    × ((J : Instance) (events : List Event) → Gave v J events → IsBreaker v J job other)
IsCause v job Full = IsReadyFor v job.release × HasCause v job None × (spare_of v ≡ 0)
IsCause v job Numbers = IsReadyFor v job.release × HasCause v job None × (0 < spare_of v)
    × (most_numbered ≤ v.forgotten + v.admission.count)

-- the cause of a refusal among the jobs behind these
abbrev pub cause_behind : ℕ → Refused → NotAdmitted
cause_behind forgotten refused.BadJob = BadJob
cause_behind forgotten refused.Count = Count
cause_behind forgotten refused.Total = Total
cause_behind forgotten (refused.Ratio other) = Ratio (forgotten + other)

-- ---- early finishes

-- this is so of all jobs that were admitted, and of all decisions that were given
abbrev pub Holds : Life → (Instance → List Event → Type 0) → Type 0
Holds v Says = (J : Instance) (events : List Event) → Gave v J events → Says J events

-- by the decisions that were given, the job of this number has the processor
abbrev pub HasProcessor : Life → ℕ → Type 0
HasProcessor v number = Holds v (λ J events. runner_of events ≡ Some number)

-- so it hasn't
abbrev pub HasNoProcessor : Life → ℕ → Type 0
HasNoProcessor v number = Holds v (λ J events. runner_of events ≡ Some number → ⊥)

-- jobs may finish early, and all that is settled at the tick was given
pub record MayBeDone (v : Life) (at : ℕ) : Type 0 where
  pub early : Holds v (λ J events. may_finish_early J.rules.version ≡ true)
  pub ready : IsReadyFor v at

-- The job of this finish had the processor in the tick that ends at this one, and is done though it may have work left.
-- Whatever was given before, it is given of the jobs with this finish, and the completion is to be given next. Behind
-- it the processor goes to the one that the engine named.
pub record IsDone (v w : Life) (at : ℕ) (f : Finish) : Type 0 where
  pub may : MayBeDone v at
  pub runs : HasProcessor v f.number
  pub before : Holds v (λ J events. last_of events < at)
  pub gave : Holds v (λ J events. Gave w (with_finishes J (f ∷ [])) events)
  pub next : coming_of w ≡ Some (Complete at f.number)
  pub successor : Holds v (λ J events.
      GoesOnWith (with_finishes J (f ∷ [])) at (events ++ Complete at f.number ∷ []) (successor_of v))
  pub last : w.last ≡ v.last
  pub clock : clock_of w ≡ at
  pub spare : spare_of v ≤ spare_of w
  pub room : room_of w ≡ room_of v

-- the cause holds, and none before it
abbrev pub IsNotDone : Life → (at number : ℕ) → NotDone → Type 0
IsNotDone v at number not_done.Version = Holds v (λ J events. may_finish_early J.rules.version ≡ false)
IsNotDone v at number not_done.Unsettled = Holds v (λ J events. may_finish_early J.rules.version ≡ true)
    × (IsReadyFor v at → ⊥)
IsNotDone v at number not_done.NotRunning = MayBeDone v at × HasNoProcessor v number
IsNotDone v at number not_done.Behind = MayBeDone v at × HasProcessor v number
    × Holds v (λ J events. at ≤ last_of events)

-- ---- steps

-- why no step is taken to a mark
abbrev pub mark_refusal : Version → Horizon → ℕ → Option NotStepped
mark_refusal version End mark = Some Finished
mark_refusal version (Mark last) mark =
    if nat_lt mark last then Some Falls else if nat_lt (last_tick_in version) mark then Some Late else None

-- at rest all jobs are forgotten
abbrev pub BeginsAnew : Life → Type 0
BeginsAnew w = IsAtRest w → StandsFor w.admission []

-- a step to the horizon gave the next decision of the run, or None where all that are due by then were given
pub record Decides (to : Horizon) (v w : Life) (answer : Option Decision) : Type 0 where
  pub gave : (J : Instance) (events : List Event) → Gave v J events → Gave w J (events ++ events_in answer)
  pub prompt : (J : Instance) (events : List Event) → Gave v J events → IsPrompt to J events answer
  pub whole : (J : Instance) (events : List Event) → Gave v J events → has_ended w ≡ true
      → events ++ events_in answer ≡ printed J
  pub comes : IfSome (coming_of v) (λ e. event_in answer ≡ Some e)
  pub last : w.last ≡ to
  pub settled : w.settled ≡ is_ready_after to (event_in answer)
  pub ended : has_ended w ≡ (has_ended v || is_end_given (event_in answer))
  pub spare : spare_of v ≤ spare_of w
  pub room : room_of w ≡ room_of v
  pub anew : BeginsAnew w

-- ---- the next tick

-- Where all that is settled at a mark was given, what is to be given next is of this tick. Otherwise it is the clock.
-- Some job is open.
pub record IsDueAt (v : Life) (tick : ℕ) : Type 0 where
  pub comes : (J : Instance) (events : List Event) (mark : ℕ) → Gave v J events → IsReadyFor v mark
      → ComesAt J mark events tick
  pub unsettled : v.settled ≡ false → tick ≡ clock_of v
  pub some : v.server.ready.ready ≡ [] → ⊥

-- the tick for which to call next, or None where no job is open
abbrev pub IsNext : Life → Option ℕ → Type 0
IsNext v None = v.server.ready.ready ≡ []
IsNext v (Some tick) = IsDueAt v tick

-- ---- a life

-- a call that did something, with its answer
pub data Call : Type 0 where
  Admitted : JobFacts → (number : ℕ) → Call
  Done : (at : ℕ) → Finish → Call
  Stepped : Horizon → Option Decision → Call

-- it leads from v to w
abbrev pub Leads : Call → Life → Life → Type 0
Leads (Admitted job number) v w = IsAdmitted v w job number
Leads (Done at f) v w = IsDone v w at f
Leads (Stepped to answer) v w = MayFollow v.last to × Decides to v w answer

-- these calls lead from v to w, one after another
abbrev pub LeadsAll : List Call → Life → Life → Type 0
LeadsAll [] v w = w ≡ v
LeadsAll (call ∷ calls) v w = (u : Life) × Leads call v u × LeadsAll calls u w

-- an engine was made, and these calls lead to w
pub record Lives (version : Version) (k : Fraction) (calls : List Call) (w : Life) : Type 0 where
  pub made : Life
  pub fresh : Gave made (no_jobs version k) []
  pub lives : LeadsAll calls made w

-- the jobs that were admitted, each with its number
abbrev pub admitted : List Call → List (ℕ × JobFacts)
admitted [] = []
admitted (Admitted job number ∷ calls) = (number, job) ∷ admitted calls
admitted (call ∷ calls) = admitted calls

-- the jobs alone
abbrev pub jobs_in : List Call → List JobFacts
jobs_in calls = map (λ n_j. n_j.1) (admitted calls)

-- the early finishes: what each job that was done had had
abbrev pub finishes_in : List Call → List Finish
finishes_in [] = []
finishes_in (Done at f ∷ calls) = f ∷ finishes_in calls
finishes_in (call ∷ calls) = finishes_in calls

-- the instance of these jobs and finishes
abbrev pub all_jobs : Version → Fraction → List Call → Instance
all_jobs version k calls = with_finishes (jobs_under version k (jobs_in calls)) (finishes_in calls)

-- the decisions that were given
abbrev pub decided : List Call → List Event
decided [] = []
decided (Stepped to answer ∷ calls) = events_in answer ++ decided calls
decided (call ∷ calls) = decided calls
