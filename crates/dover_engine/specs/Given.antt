-- What an engine has given of the run of all jobs that were ever admitted.
use Rattle.std.specs.Prelude.{[], ◌∷◌, ◌≡◌, ◌≤◌, ℕ, List, ◌++◌, length, map, true, false, Option, Some, None, IfSome}
use Rattle.std.specs.Prelude.{option_to_list}
use Rattle.dover_model.specs.declared.events.Event.{Event}
use Rattle.dover_model.specs.Common.{Instance, bare, declared_by, Prints, is_end, printed, NoneBefore, TurnsEnd, Turn}
use Rattle.dover_model.specs.Common.{behind, before_end, one_run, turn_under, turns_jobs, completed_turns, MayFollow}
use Rattle.dover_model.specs.Common.{due_by}
use Rattle.admission.specs.Kept.{StandsFor}
use Rattle.dover_model.specs.declared.horizon.Horizon.{Horizon}
use Rattle.dover_model.specs.declared.horizon.Horizon.TheVariants.{Mark, End}
use Rattle.ready_server.specs.Serving.{Serves, Rests}
use Rattle.dover_engine.specs.declared.decision.Decision.{Decision}
use Rattle.dover_engine.specs.Life.{Life, has_ended}

-- all that is due by the last horizon was given
pub record IsSettled (v : Life) (J : Instance) (events : List Event) : Type 0 where
  pub all : events ≡ due_by J v.last
  pub none : v.coming ≡ None
  pub rests : Rests v.server J v.last
  pub marked : v.last ≡ End → ⊥

-- These jobs were admitted since the last moment of rest, and of their run these events were given on the way to the
-- last horizon, where the release of the last job is still to be given if it is coming.
pub record GaveSince (v : Life) (J : Instance) (events : List Event) : Type 0 where
  pub admission : StandsFor v.admission J.jobs
  pub rules : v.admission.rules ≡ declared_by J.rules
  pub serves : Serves v.server J v.last (events ++ option_to_list v.coming)
  pub settled : v.settled ≡ true → IsSettled v J events
  pub unended : IfSome v.coming (λ e. (has_ended v ≡ false) × (is_end (Prints e) ≡ false))
  pub known : MayFollow (Mark 0) v.last

-- the horizon isn't before the tick
abbrev pub IsSince : ℕ → Horizon → Type 0
IsSince tick (Mark mark) = tick ≤ mark
IsSince tick End = Unit {0}

-- The jobs that were ever admitted are turns, each at rest before the next one, and the last turn is of those since.
-- The events are what the turns before print but for their Ends, and behind them what was given since.
pub record Gave (v : Life) (J : Instance) (events : List Event) : Type 0 where
  pub turns : List Turn
  pub tick : ℕ  -- of the last moment of rest
  pub over : TurnsEnd (bare J.rules) 0 turns tick
  pub since : Turn
  pub later : NoneBefore tick since.jobs
  pub passed : IsSince tick v.last
  pub all : J ≡ one_run J.rules (turns ++ since ∷ [])
  pub forgotten : v.forgotten ≡ length (turns_jobs turns)
  pub earned : v.earned ≡ completed_turns J.rules turns
  pub told : List Event
  pub gave : GaveSince v (turn_under J.rules since) told
  pub all_events : events ≡ before_end (printed (one_run J.rules turns)) ++ map (behind v.forgotten v.earned) told

-- None says that all that is due by the horizon was given
abbrev pub IsPrompt : Horizon → Instance → List Event → Option Decision → Type 0
IsPrompt to J events None = events ≡ due_by J to
IsPrompt to J events (Some decision) = Unit {0}
