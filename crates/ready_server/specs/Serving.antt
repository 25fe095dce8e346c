-- How far a server has come.
use Rattle.std.specs.Prelude.{◌≡◌, ◌≤◌, ◌<◌, ◌+◌, ◌-◌, ◌^◌, ℕ, min, List, [], ◌∷◌, ◌++◌, length, Bool, true, false}
use Rattle.std.specs.Prelude.{Option, Some, None, MatchBool}
use Rattle.dover_model.specs.Common.{EarlyFinish, finish_at, Instance, with_finishes, most_ready, State, Step}
use Rattle.dover_model.specs.Common.{printed, printed_of, settled, last_of, GoesOn, IsWholeRun, IsBarrier, Begins}
use Rattle.dover_model.specs.Common.{HasPrinted, due_by}
use Rattle.dover_model.specs.declared.events.Event.{Event}
use Rattle.dover_model.specs.declared.events.Event.TheVariants as events
use Rattle.dover_model.specs.declared.horizon.Horizon.{Horizon}
use Rattle.dover_model.specs.declared.horizon.Horizon.TheVariants.{Mark, End}
use Rattle.ready_jobs.specs.Course.{Follows}
use Rattle.ready_jobs.specs.Spending as spending
use Rattle.ready_server.specs.declared.server.ReadyServer.{ReadyServer}

-- from this state on, the run prints what is left of it behind these events
pub record LeavesRest (J : Instance) (z : State) (events : List Event) : Type 0 where
  pub steps : List Step
  pub whole : IsWholeRun J.rules z steps
  pub prints : printed J ≡ events ++ printed_of steps

-- on the way to the horizon, these events were printed up to this state, or once it has ended, all
abbrev pub HasGiven : Bool → Instance → State → Horizon → List Event → Type 0
HasGiven ended J z (Mark t) events = (ended ≡ false) × HasPrinted J t z events
HasGiven ended J z End events = MatchBool ended (events ≡ printed J) (LeavesRest J z events)

-- up to a mark, this is the tick of the last of these events
abbrev pub IsLastOf : Horizon → (last : ℕ) → List Event → Type 0
IsLastOf (Mark t) last events = last ≡ last_of events
IsLastOf End last events = Unit {0}

-- its jobs are those of J that are ready in some state, up to which these events were given
pub record Serves (s : ReadyServer) (J : Instance) (to : Horizon) (events : List Event) : Type 0 where
  pub state : State
  pub follows : Follows s.ready J state
  pub given : HasGiven s.ended J state to events
  pub last : IsLastOf to s.last events

-- all that is settled at the mark was printed up to this state, and nothing more is till the clock is at the mark;
-- there it is now if some job isn't over
pub record IsThrough (J : Instance) (z : State) (mark : ℕ) : Type 0 where
  pub here : HasPrinted J mark z (settled J mark)
  pub waits : HasPrinted J mark (record z { clock = mark }) (settled J mark)
  pub barrier : IsBarrier J.rules mark (record z { clock = mark })
  pub clock : GoesOn z → z.clock ≡ mark

-- all that is due by the horizon was printed up to this state
abbrev pub HasGivenAll : Bool → Instance → State → Horizon → Type 0
HasGivenAll ended J z (Mark t) = (ended ≡ false) × IsThrough J z t
HasGivenAll ended J z End = ended ≡ true

-- its jobs are those of J that are ready in some state, up to which all that is due was given
pub record Rests (s : ReadyServer) (J : Instance) (to : Horizon) : Type 0 where
  pub state : State
  pub follows : Follows s.ready J state
  pub given : HasGivenAll s.ended J state to
  pub last : IsLastOf to s.last (due_by J to)

-- The answer to the finish of a job at a mark up to which all is given: its completion, if it is right. If it isn't,
-- all is as before.
abbrev pub Finishes : (old new : ReadyServer) → Instance → (at number : ℕ) → Option Event → Type 0
Finishes old new J at number (Some e) = (f : EarlyFinish) × (finish_at J at number ≡ Some f)
    × (e ≡ events.Complete at number)
    × Serves new (with_finishes J (f.finish ∷ [])) (Mark at) (settled J at ++ e ∷ [])
Finishes old new J at number None = (finish_at J at number ≡ None) × (new ≡ old)

-- behind these events, what is settled at the tick is that the job of this number gets the processor, or nothing more
abbrev pub GoesOnWith : Instance → (at : ℕ) → List Event → Option ℕ → Type 0
GoesOnWith J at before None = settled J at ≡ before
GoesOnWith J at before (Some n) = Begins (before ++ events.Run at n ∷ []) (settled J at)

-- there is room for one ready job more
abbrev pub HasPlace : ReadyServer → Type 0
HasPlace s = length s.ready.ready < s.ready.room

-- the same, unless as many jobs are ready as may be at once
abbrev pub HasPlaceUnlessFull : ReadyServer → Type 0
HasPlaceUnlessFull s = min (length s.ready.ready + 1) most_ready ≤ s.ready.room

-- no more comparisons were made than its jobs so far have called for
abbrev pub HasPaid : ReadyServer → (start now : ℕ) → Type 0
HasPaid s start now = spending.HasPaidSince s.ready s.last start now

-- the comparisons of one call are few
abbrev pub CostsOnce : ReadyServer → Option Event → (before now : ℕ) → Type 0
CostsOnce s answer before now = spending.CostsOnce s.ready answer before now

-- for how many ready jobs more there is room
abbrev pub spare_of : ReadyServer → ℕ
spare_of s = s.ready.room - length s.ready.ready

-- a value at the end that has 18 digits
abbrev pub HasShortValue : Event → Type 0
HasShortValue (events.End value) = value < 10 ^ 18
HasShortValue event = Unit {0}
