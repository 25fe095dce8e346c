-- Decisions as events.
use Rattle.std.specs.Prelude.{List, Option, option_to_list, option_map}
use Rattle.dover_model.specs.declared.events.Event.{Event}
use Rattle.dover_model.specs.declared.events.Event.TheVariants as events
use Rattle.dover_engine.specs.declared.decision.Decision.{Decision}
use Rattle.dover_engine.specs.declared.decision.Decision.TheVariants.{Release, Run, Preempt, Take, Complete, Abandon}
use Rattle.dover_engine.specs.declared.decision.Decision.TheVariants.{End}

-- the event of a decision
abbrev pub event_of : Decision → Event
event_of (Release n job) = events.Release n job
event_of (Run at n) = events.Run at n
event_of (Preempt at stops starts) = events.Preempt at stops starts
event_of (Take at stops starts) = events.Take at stops starts
event_of (Complete at n) = events.Complete at n
event_of (Abandon at n) = events.Abandon at n
event_of (End value) = events.End value

-- the event of an answer, if it has one
abbrev pub event_in : Option Decision → Option Event
event_in answer = option_map event_of answer

-- the same as a list
abbrev pub events_in : Option Decision → List Event
events_in answer = option_to_list (event_in answer)
