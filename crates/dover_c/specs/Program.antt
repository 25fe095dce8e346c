-- What a program in C does with an engine, and what it is given.
use Rattle.dover_model.specs.Common.{Fraction, JobFacts, Instance, jobs_under, with_finishes, version_number, anew}
use Rattle.dover_model.specs.Common.{Turn, turn_under}
use Rattle.std.specs.Prelude.{◌≡◌, ℕ, List, [], ◌∷◌, ◌++◌, map, Bool, ◌&&◌, ◌==◌, nat_le, if◌then◌else◌, filter}
use Rattle.dover_model.specs.declared.events.Version.{Version}
use Rattle.dover_model.specs.Finishes as early
use Rattle.dover_c.specs.declared.Admitted.{Admitted}
use Rattle.dover_c.specs.declared.Decided.{Decided}
use Rattle.dover_c.specs.declared.slot.Slot.{Slot}
use Rattle.dover_c.specs.Codes.{made_status, IsMade, AdmitAnswers, StepAnswers, FinishAnswers, DropAnswers, DoneAnswers}
use Rattle.dover_c.specs.Codes.{RestartAnswers}

-- a call behind dover_init, with its answer
pub data Act : Type 0 where
  Admit : JobFacts → Admitted → Act
  Done : (tick : ℕ) → early.Finish → (answer : ℕ) → Act  -- the call names the job, and not what it had
  Step : ℕ → Decided → Act
  Finish : Decided → Act
  Ask : Act  -- for the status, the next tick, who would be next, the value, the room, or a restart that is refused
  Drop : Act

-- it leads from s to t
abbrev pub Does : Act → Slot → Slot → Type 0
Does (Admit job answer) s t = AdmitAnswers s t job answer
Does (Done tick f answer) s t = DoneAnswers tick f s t answer
Does (Step mark answer) s t = StepAnswers mark s t answer
Does (Finish answer) s t = FinishAnswers s t answer
Does Ask s t = t ≡ s
Does Drop s t = DropAnswers s t

-- these lead from s to t, one after another
abbrev pub DoesAll : List Act → Slot → Slot → Type 0
DoesAll [] s t = t ≡ s
DoesAll (act ∷ acts) s t = (u : Slot) × Does act s u × DoesAll acts u t

-- what a program did up to a restart, and the tick that it was told was taken off
pub record Past : Type 0 where
  pub acts : List Act
  pub tick : ℕ

-- these lead from s to t, one after another, each with its restart
abbrev pub DoesPast : List Past → Slot → Slot → Type 0
DoesPast [] s t = t ≡ s
DoesPast (past ∷ pasts) s t = (u : Slot) × DoesAll past.acts s u
    × ((x : Slot) × RestartAnswers u x (record { tick = past.tick; status = 0 }) × DoesPast pasts x t)

-- An engine was made, and the program did this with it, whatever and in whatever order: at first up to each restart,
-- and since the last one these acts.
pub record IsProgram (version : Version) (k : Fraction) (capacity : ℕ) (pasts : List Past) (acts : List Act) (t : Slot)
    : Type 0 where
  pub made : Slot
  pub is_made : IsMade k (version_number version) capacity made
  pub status : made.status ≡ made_status
  pub begun : Slot  -- behind the last restart
  pub before : DoesPast pasts made begun
  pub does : DoesAll acts begun t

-- the jobs that it was told were admitted, with the numbers that it was told
abbrev pub told : List Act → List (ℕ × JobFacts)
told [] = []
told (Admit job answer ∷ acts) = if answer.status == 0 then (answer.number, job) ∷ told acts else told acts
told (act ∷ acts) = told acts

-- the jobs alone
abbrev pub jobs_told : List Act → List JobFacts
jobs_told acts = map (λ n_j. n_j.1) (told acts)

-- the early finishes that it was told were taken
abbrev pub finishes_told : List Act → List early.Finish
finishes_told [] = []
finishes_told (Done tick f answer ∷ acts) = if answer == 0 then f ∷ finishes_told acts else finishes_told acts
finishes_told (act ∷ acts) = finishes_told acts

-- the instance of these jobs and finishes
abbrev pub all_told : Version → Fraction → List Act → Instance
all_told version k acts = with_finishes (jobs_under version k (jobs_told acts)) (finishes_told acts)

-- those jobs and finishes as a turn
abbrev pub turn_told : List Act → Turn
turn_told acts = record { jobs = jobs_told acts; finishes = finishes_told acts }

-- the instance of all jobs up to the restarts and since, in one time: behind a restart they come so much later, and
-- their numbers are behind those before
abbrev pub told_anew : Version → Fraction → List Past → List Act → Instance
told_anew version k pasts acts = turn_under (record { ratio = k; version = version; finishes = [] })
    (anew (map (λ past. (past.tick, turn_told past.acts)) pasts ++ (0, turn_told acts) ∷ []))

-- an answer that is a decision
abbrev pub is_decision : Decided → Bool
is_decision answer = nat_le 1 answer.kind && nat_le answer.kind 7

-- what it was answered by dover_step and dover_finish
abbrev pub answers : List Act → List Decided
answers [] = []
answers (Step mark answer ∷ acts) = answer ∷ answers acts
answers (Finish answer ∷ acts) = answer ∷ answers acts
answers (act ∷ acts) = answers acts

-- the decisions that it was given
abbrev pub given : List Act → List Decided
given acts = filter is_decision (answers acts)
