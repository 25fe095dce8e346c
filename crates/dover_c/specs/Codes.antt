-- What the numbers say that go to a caller in C.
use Rattle.std.specs.Prelude.{◌≡◌, ℕ, [], Option, Some, None, not, ◌||◌, ◌==◌, nat_lt, if◌then◌else◌, Result, Ok, Err}
use Rattle.std.specs.Prelude.{◌/◌, ◌%◌, ◌^◌}
use Rattle.dover_model.specs.Common.{most_ready, Fraction, is_ratio, is_some_factor, IsRatio, fraction, version_number}
use Rattle.dover_model.specs.Common.{Finish, JobFacts, MayFollow, no_jobs}
use Rattle.dover_model.specs.declared.events.Event.{Event}
use Rattle.dover_model.specs.declared.events.Event.TheVariants.{Release, Run, Preempt, Take, Complete, Abandon, End}
use Rattle.dover_model.specs.declared.events.Version.{Version}
use Rattle.dover_model.specs.declared.horizon.Horizon.TheVariants as horizon
use Rattle.dover_engine.specs.declared.causes.NotAdmitted.{NotAdmitted}
use Rattle.dover_engine.specs.declared.causes.NotAdmitted.TheVariants.{Unsettled, BadJob, Count, Total, Ratio, Full}
use Rattle.dover_engine.specs.declared.causes.NotAdmitted.TheVariants.{Numbers}
use Rattle.dover_engine.specs.declared.causes.NotMade.{NotMade}
use Rattle.dover_engine.specs.declared.causes.NotMade.TheVariants as not_made
use Rattle.dover_engine.specs.declared.causes.NotDone.{NotDone}
use Rattle.dover_engine.specs.declared.causes.NotDone.TheVariants as not_done
use Rattle.dover_engine.specs.declared.causes.NotRestarted.{NotRestarted}
use Rattle.dover_engine.specs.declared.causes.NotRestarted.TheVariants as not_restarted
use Rattle.dover_engine.specs.declared.causes.NotStepped.{NotStepped}
use Rattle.dover_engine.specs.declared.causes.NotStepped.TheVariants as not_stepped
use Rattle.dover_engine.specs.declared.decision.Decision.{Decision}
use Rattle.dover_engine.specs.Decisions.{event_of}
use Rattle.dover_engine.specs.Life.{Life, done_value, spare_of, successor_of}
use Rattle.dover_engine.specs.Given.{Gave}
use Rattle.dover_engine.specs.Calls.{IsAdmitted, IsCause, IsDone, IsNotDone, Decides, IsNext, mark_refusal}
use Rattle.dover_engine.specs.Restarts.{IsRestarted, IsNotRestarted}
use Rattle.dover_c.specs.declared.Admitted.{Admitted}
use Rattle.dover_c.specs.declared.Decided.{Decided}
use Rattle.dover_c.specs.declared.Due.{Due}
use Rattle.dover_c.specs.declared.Named.{Named}
use Rattle.dover_c.specs.declared.Restarted.{Restarted}
use Rattle.dover_c.specs.declared.slot.Slot.{Slot}

-- ---- making

-- the number of a cause
abbrev pub made_code : NotMade → ℕ
made_code not_made.Capacity = 2
made_code not_made.Memory = 3

-- why no engine was made: the first of the limits that is broken, and 3 for want of memory where none is
abbrev pub status_of : Fraction → (version capacity : ℕ) → ℕ
status_of k version capacity =
    if not ((version == 1) || (version == 2) || (version == 3) || (version == 4)) then 4
    else if not (is_ratio (fraction k.p k.q)) then 1
    else if not (is_some_factor k.factor) then 6
    else if nat_lt most_ready capacity then 2 else 3

-- an engine of this ratio, with its factor if it has one, and version, with no jobs and room for so many open ones
pub record IsFresh (k : Fraction) (version capacity : ℕ) (v : Life) : Type 0 where
  pub which : Version
  pub version_is : version ≡ version_number which
  pub ratio : IsRatio k
  pub gave : Gave v (no_jobs which k) []
  pub last : v.last ≡ horizon.Mark 0
  pub room : spare_of v ≡ capacity

-- the status of a place with an engine
abbrev pub made_status : ℕ
made_status = 5

-- that status stands by an engine as it was asked for, and with none the status says why
abbrev pub Stands : Fraction → (version capacity : ℕ) → (status : ℕ) → Option Life → Type 0
Stands k version capacity status None = status ≡ status_of k version capacity
Stands k version capacity status (Some v) = (status ≡ made_status) × IsFresh k version capacity v

abbrev pub IsMade : Fraction → (version capacity : ℕ) → Slot → Type 0
IsMade k version capacity s = Stands k version capacity s.status s.engine

-- the status stands there, and nothing changed
abbrev pub StatusAnswers : Slot → Slot → ℕ → Type 0
StatusAnswers s t answer = (answer ≡ s.status) × (t ≡ s)

-- whatever there was, there is no engine, and the status is 0
abbrev pub DropAnswers : Slot → Slot → Type 0
DropAnswers s t = t ≡ record { status = 0; engine = None }

-- ---- a call of an engine, where there is one

-- with no engine the place stays as it is, and else an engine is left there that the call says this of
abbrev pub CallsOn : Option Life → Slot → Slot → (none : Type 0) → (Life → Life → Type 0) → Type 0
CallsOn None s t none Says = none × (t ≡ s)
CallsOn (Some v) s t none Says = (w : Life) × (t ≡ record s { engine = Some w }) × Says v w

abbrev pub Calls : Slot → Slot → (none : Type 0) → (Life → Life → Type 0) → Type 0
Calls s t none Says = CallsOn s.engine s t none Says

-- ---- jobs

-- the number of a cause
abbrev pub cause_code : NotAdmitted → ℕ
cause_code Unsettled = 1
cause_code BadJob = 2
cause_code Count = 3
cause_code Total = 4
cause_code (Ratio other) = 5
cause_code Full = 6
cause_code Numbers = 8

-- the job that it names, and 0 where it names none
abbrev pub other_in : NotAdmitted → ℕ
other_in (Ratio other) = other
other_in cause = 0

-- it wasn't admitted, for this cause, and nothing changed
pub record IsRefused (v w : Life) (job : JobFacts) (answer : Admitted) : Type 0 where
  pub cause : NotAdmitted
  pub code : answer.status ≡ cause_code cause
  pub other : answer.number ≡ other_in cause
  pub holds : IsCause v job cause
  pub same : w ≡ v

-- what the answer to a job says
pub record Admits (job : JobFacts) (answer : Admitted) (v w : Life) : Type 0 where
  pub ok : answer.status ≡ 0 → IsAdmitted v w job answer.number
  pub refused : (answer.status ≡ 0 → ⊥) → IsRefused v w job answer

-- no engine, where a number is asked for
abbrev pub no_number : Admitted
no_number = record { number = 0; status = 7 }

abbrev pub AdmitAnswers : Slot → Slot → JobFacts → Admitted → Type 0
AdmitAnswers s t job answer = Calls s t (answer ≡ no_number) (Admits job answer)

-- ---- early finishes

-- the number of a cause
abbrev pub done_code : NotDone → ℕ
done_code not_done.Version = 4
done_code not_done.Unsettled = 1
done_code not_done.NotRunning = 3
done_code not_done.Behind = 2

-- the job wasn't taken as done, for this cause, and nothing changed
pub record IsNotTaken (v w : Life) (tick job answer : ℕ) : Type 0 where
  pub cause : NotDone
  pub code : answer ≡ done_code cause
  pub holds : IsNotDone v tick job cause
  pub same : w ≡ v

-- what the answer to a job that is done says
pub record Ends (tick : ℕ) (f : Finish) (answer : ℕ) (v w : Life) : Type 0 where
  pub ok : answer ≡ 0 → IsDone v w tick f
  pub refused : (answer ≡ 0 → ⊥) → IsNotTaken v w tick f.number answer

abbrev pub DoneAnswers : ℕ → Finish → Slot → Slot → ℕ → Type 0
DoneAnswers tick f s t answer = Calls s t (answer ≡ 7) (Ends tick f answer)

-- so it is of what the job had
abbrev pub DoneSays : (tick job : ℕ) → Slot → Slot → ℕ → Type 0
DoneSays tick job s t answer = (had : ℕ) × DoneAnswers tick (record { number = job; had = had }) s t answer

-- ---- steps

-- how many times 2^64 a great number has, and what that leaves
abbrev pub high_word : ℕ → ℕ
high_word number = number / 2 ^ 64

abbrev pub low_word : ℕ → ℕ
low_word number = number % 2 ^ 64

-- no engine, where a decision is asked for
abbrev pub no_engine : Decided
no_engine = record { tick = 0; job = 0; other = 0; kind = 11 }

-- an event in numbers
abbrev pub shown : Event → Decided
shown (Release n job) = record { tick = job.release; job = n; other = 0; kind = 1 }
shown (Run at n) = record { tick = at; job = n; other = 0; kind = 2 }
shown (Preempt at stops starts) = record { tick = at; job = starts; other = stops; kind = 3 }
shown (Take at stops starts) = record { tick = at; job = starts; other = stops; kind = 4 }
shown (Complete at n) = record { tick = at; job = n; other = 0; kind = 5 }
shown (Abandon at n) = record { tick = at; job = n; other = 0; kind = 6 }
shown (End value) = record { tick = low_word value; job = 0; other = high_word value; kind = 7 }

-- an answer as a caller in C sees it
abbrev pub numbers_of : Option Decision → Decided
numbers_of None = record { tick = 0; job = 0; other = 0; kind = 0 }
numbers_of (Some decision) = shown (event_of decision)

-- the number of a cause
abbrev pub mark_code : NotStepped → ℕ
mark_code not_stepped.Falls = 8
mark_code not_stepped.Late = 9
mark_code not_stepped.Finished = 10

-- what the engine says of a step to a mark
abbrev pub IsStepOf : ℕ → Life → Life → Result (Option Decision) NotStepped → Type 0
IsStepOf mark v w (Ok answer) = MayFollow v.last (horizon.Mark mark) × Decides (horizon.Mark mark) v w answer
    × (mark_refusal v.admission.rules.version v.last mark ≡ None)
IsStepOf mark v w (Err cause) = (mark_refusal v.admission.rules.version v.last mark ≡ Some cause) × (w ≡ v)

-- the answer to a step to a mark: a decision, none, or why no step was taken
pub record Steps (mark : ℕ) (answer : Decided) (v w : Life) : Type 0 where
  pub says : Result (Option Decision) NotStepped
  pub step : IsStepOf mark v w says
  pub shown : answer ≡ elim says [
    | Ok decision ↦ numbers_of decision
    | Err cause ↦ record { tick = 0; job = 0; other = 0; kind = mark_code cause }
  ]

abbrev pub StepAnswers : ℕ → Slot → Slot → Decided → Type 0
StepAnswers mark s t answer = Calls s t (answer ≡ no_engine) (Steps mark answer)

-- the answer to a step to the end: a decision or none
pub record Finishes (answer : Decided) (v w : Life) : Type 0 where
  pub says : Option Decision
  pub step : Decides horizon.End v w says
  pub shown : answer ≡ numbers_of says

abbrev pub FinishAnswers : Slot → Slot → Decided → Type 0
FinishAnswers s t answer = Calls s t (answer ≡ no_engine) (Finishes answer)

-- ---- restarts

-- the number of a cause
abbrev pub restart_code : NotRestarted → ℕ
restart_code not_restarted.Finished = 10
restart_code not_restarted.Unsettled = 1
restart_code not_restarted.Open = 2

-- it didn't begin anew, for this cause, and nothing changed
pub record GoesOn (v w : Life) (answer : Restarted) : Type 0 where
  pub cause : NotRestarted
  pub shown : answer ≡ record { tick = 0; status = restart_code cause }
  pub holds : IsNotRestarted v cause
  pub same : w ≡ v

-- what the answer to a restart says
pub record Restarts (answer : Restarted) (v w : Life) : Type 0 where
  pub ok : answer.status ≡ 0 → IsRestarted v w answer.tick
  pub refused : (answer.status ≡ 0 → ⊥) → GoesOn v w answer

abbrev pub RestartAnswers : Slot → Slot → Restarted → Type 0
RestartAnswers s t answer = Calls s t (answer ≡ record { tick = 0; status = 7 }) (Restarts answer)

-- ---- questions

-- a tick for which to call next, as a caller in C sees it
abbrev pub due_of : Option ℕ → Due
due_of (Some tick) = record { tick = tick; status = 0 }
due_of None = record { tick = 0; status = 1 }

-- the tick for which to call next is told, or that no job is open, and nothing changed
pub record Awaits (answer : Due) (v w : Life) : Type 0 where
  pub says : Option ℕ
  pub next : IsNext v says
  pub shown : answer ≡ due_of says
  pub same : w ≡ v

abbrev pub NextAnswers : Slot → Slot → Due → Type 0
NextAnswers s t answer = Calls s t (answer ≡ record { tick = 0; status = 7 }) (Awaits answer)

-- who would be next, as a caller in C sees it
abbrev pub named_of : Option ℕ → Named
named_of (Some job) = record { job = job; status = 0 }
named_of None = record { job = 0; status = 1 }

-- who would get the processor if the job that runs were done is told, and nothing changed
abbrev pub SuccessorAnswers : Slot → Slot → Named → Type 0
SuccessorAnswers s t answer = Calls s t (answer ≡ record { job = 0; status = 7 })
    (λ v w. (answer ≡ named_of (successor_of v)) × (w ≡ v))

-- at this tick the processor goes to the job that is named, and where none is, there is no decision
abbrev pub shown_next : (tick : ℕ) → Named → Decided
shown_next tick named = if named.status == 0 then shown (Run tick named.job) else numbers_of None

-- the value of all jobs that completed is told by its low word and its high one, and nothing changed
abbrev pub ValueAnswers : Slot → Slot → ℕ → Type 0
ValueAnswers s t answer = Calls s t (answer ≡ 0) (λ v w. (answer ≡ low_word (done_value v)) × (w ≡ v))

abbrev pub HighAnswers : Slot → Slot → ℕ → Type 0
HighAnswers s t answer = Calls s t (answer ≡ 0) (λ v w. (answer ≡ high_word (done_value v)) × (w ≡ v))

-- for how many jobs there is room is told, and nothing changed
abbrev pub RoomAnswers : Slot → Slot → ℕ → Type 0
RoomAnswers s t answer = Calls s t (answer ≡ 0) (λ v w. (answer ≡ spare_of v) × (w ≡ v))
