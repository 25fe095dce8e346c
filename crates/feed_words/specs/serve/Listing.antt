-- The steps among the lines that are given for a feed, of which a roster is kept.
use Rattle.std.specs.Prelude.{ℕ, List, [], ◌∷◌, Option, None, filter_map, option_and_then}
use Rattle.dover_model.specs.declared.events.Event.{Event}
use Rattle.dover_model.specs.Common.{fields_of, numerals}
use Rattle.line_text.specs.traces.Reading.{step_of_word}
use Rattle.event_feed.specs.declared.due_line.DueLine.{DueLine}
use Rattle.event_feed.specs.declared.due_line.DueLine.TheVariants.{Step}
use Rattle.ready_server.specs.Roster.{Roll, with_event}

-- the step that these fields spell, by a word and the numerals behind it
abbrev pub step_of_fields : List (List ℕ) → Option Event
step_of_fields [] = None
step_of_fields (word ∷ fields) = option_and_then (step_of_word word) (numerals fields)

-- the steps that these lines spell
abbrev pub steps_in : List (List ℕ) → List Event
steps_in lines = filter_map (λ line. step_of_fields (fields_of line)) lines

-- a roll after a line that is given
abbrev pub with_line : Roll → DueLine → Roll
with_line p (Step e) = with_event p e
with_line p _ = p
