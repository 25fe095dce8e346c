-- What a fresh job's work is tested against, step by step.
use Rattle.std.specs.Prelude.{ℕ, List, Option, filter_map, option_map}
use Rattle.dover_model.specs.declared.events.Event.{Event}
use Rattle.dover_model.specs.declared.events.Event.TheVariants.{Release, Preempt}
use Rattle.dover_model.specs.Common.{Instance, State, privileged, room, Step, event_of, run}

-- at a release and at a preemption, the room of the running and the held jobs before it
abbrev pub room_before : State → Event → ℕ
room_before s (Release n job) = room s.clock (privileged s)
room_before s (Preempt at stops starts) = room s.clock (privileged s)
room_before s _ = 0

-- the same of a step, if it is printed
abbrev pub room_of_step : Step → Option ℕ
room_of_step step = option_map (room_before step.before) (event_of step.move)

-- of each printed step of a run
abbrev pub rooms : Instance → List ℕ
rooms J = filter_map room_of_step (run J)
