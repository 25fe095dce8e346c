-- Lives of an engine one after another, each begun anew by a restart.
use Rattle.std.specs.Prelude.{◌≡◌, ℕ, ◌+◌, List, [], ◌∷◌, ◌++◌, length, map, true, false}
use Rattle.std.specs.List.{sum_by}
use Rattle.dover_model.specs.declared.events.Version.{Version}
use Rattle.dover_model.specs.declared.events.Event.{Event}
use Rattle.dover_model.specs.Common.{Fraction, Instance, no_jobs, behind, later_event, Turn, turn_under, anew}
use Rattle.dover_model.specs.declared.horizon.Horizon.TheVariants.{Mark, End}
use Rattle.dover_engine.specs.declared.causes.NotRestarted.{NotRestarted}
use Rattle.dover_engine.specs.declared.causes.NotRestarted.TheVariants.{Finished, Unsettled, Open}
use Rattle.dover_engine.specs.Life.{Life, IsAtRest, spare_of, room_of, done_value}
use Rattle.dover_engine.specs.Given.{Gave}
use Rattle.dover_engine.specs.Calls.{Call, LeadsAll, jobs_in, finishes_in, decided}

-- ---- one restart

-- The engine was at rest at this tick. It is as one that was just made with the same rules and the room that it has.
pub record IsRestarted (v w : Life) (tick : ℕ) : Type 0 where
  pub rest : IsAtRest v
  pub at : v.last ≡ Mark tick
  pub gave : Gave w (no_jobs v.admission.rules.version v.admission.rules.ratio) []
  pub last : w.last ≡ Mark 0
  pub value : done_value w ≡ 0
  pub spare : spare_of w ≡ room_of v
  pub room : room_of w ≡ room_of v

-- the cause holds, and none before it
abbrev pub IsNotRestarted : Life → NotRestarted → Type 0
IsNotRestarted v Finished = v.last ≡ End
IsNotRestarted v Unsettled = (v.last ≡ End → ⊥) × (v.settled ≡ false)
IsNotRestarted v Open = (v.last ≡ End → ⊥) × (v.settled ≡ true) × (v.server.ready.ready ≡ [] → ⊥)

-- ---- lives

-- a life that a restart has ended: its calls, the tick that was taken off, and the value that the engine told then
pub record Past : Type 0 where
  pub calls : List Call
  pub tick : ℕ
  pub value : ℕ

-- these lives lead from v to w, one after another
abbrev pub LeadsThrough : List Past → Life → Life → Type 0
LeadsThrough [] v w = w ≡ v
LeadsThrough (past ∷ pasts) v w = (u : Life) × LeadsAll past.calls v u × (past.value ≡ done_value u)
    × ((x : Life) × IsRestarted u x past.tick × LeadsThrough pasts x w)

-- an engine was made and had these lives, and since the last restart these calls lead to w
pub record LivesOn (version : Version) (k : Fraction) (pasts : List Past) (calls : List Call) (w : Life) : Type 0 where
  pub made : Life
  pub fresh : Gave made (no_jobs version k) []
  pub begun : Life  -- behind the last restart
  pub before : LeadsThrough pasts made begun
  pub lives : LeadsAll calls begun w

-- ---- in one time

-- the jobs of a life, with their early finishes
abbrev pub turn_of : List Call → Turn
turn_of calls = record { jobs = jobs_in calls; finishes = finishes_in calls }

-- the lives as turns, each with the tick that was taken off behind it
abbrev pub turns_of : List Past → List Call → List (ℕ × Turn)
turns_of pasts calls = map (λ past. (past.tick, turn_of past.calls)) pasts ++ (0, turn_of calls) ∷ []

-- the instance of all jobs of all lives, in one time
abbrev pub jobs_anew : Version → Fraction → List Past → List Call → Instance
jobs_anew version k pasts calls =
    turn_under (record { ratio = k; version = version; finishes = [] }) (anew (turns_of pasts calls))

-- what was given in past lives, and then these events, in one time: what was given behind a restart is so much later,
-- of jobs that are numbered behind those before, and its End has the value of all
abbrev pub in_one_time : List Past → List Event → List Event
in_one_time [] events = events
in_one_time (past ∷ pasts) events = decided past.calls
    ++ map (behind (length (jobs_in past.calls)) past.value)
    (map (later_event past.tick) (in_one_time pasts events))

-- the value that was told before each restart, and that of now
abbrev pub value_anew : List Past → Life → ℕ
value_anew pasts w = sum_by (λ past. past.value) pasts + done_value w
