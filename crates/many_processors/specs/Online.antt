-- What a run on several processors prints up to a tick, End left aside, and the finishes by which it completes jobs by
-- then.
use Rattle.std.specs.Prelude.{ℕ, nat_le, List, Option, None, if◌then◌else◌, filter_map, Bool, false, ◌&&◌, ◌==◌}
use Rattle.std.specs.List.{find, list_any}
use Rattle.dover_model.specs.declared.events.Event.{Event}
use Rattle.dover_model.specs.declared.events.Event.TheVariants.{Complete}
use Rattle.dover_model.specs.Finishes.{Finish, has_come_to}
use Rattle.dover_model.specs.Instance.{Instance}
use Rattle.many_processors.specs.Step.{Move, Prints}
use Rattle.many_processors.specs.Run.{Step, is_end, placed_event_of, run}

-- what the step prints, where it is taken at t or before, and isn't End
abbrev pub event_up_to : ℕ → Step → Option (ℕ × Event)
event_up_to t x = if nat_le x.before.clock t then (if is_end x.move then None else placed_event_of x.move) else None

-- what the run prints up to a tick, with the processors
abbrev pub printed_up_to : ℕ → ℕ → Instance → List (ℕ × Event)
printed_up_to processors t J = filter_map (event_up_to t) (run processors J)

-- the move completes the job of this finish
abbrev pub completes_it : Move → Finish → Bool
completes_it (Prints q (Complete at n)) f = f.number == n
completes_it _ f = false

-- the finish that a job had come to which the step completes, where it is taken at t or before
abbrev pub finish_up_to : List Finish → ℕ → Step → Option Finish
finish_up_to finishes t x = if nat_le x.before.clock t
    then find (λ f. completes_it x.move f && list_any (λ p. has_come_to p.task f) x.before.jobs) finishes else None

-- the finishes by which the run completes jobs up to a tick
abbrev pub finishes_up_to : ℕ → ℕ → Instance → List Finish
finishes_up_to processors t J = filter_map (finish_up_to J.rules.finishes t) (run processors J)
