-- What the word `draw` writes.
use Rattle.std.specs.Prelude.{ℕ, List, [], ◌∷◌, ◌++◌, map, Some, None, flat_map}
use Rattle.dover_model.specs.Common.{Fraction, rules_with, FeedLine, JobLine, DoneLine, EndLine, feed_text, in_lines}
use Rattle.dover_model.specs.declared.events.Version.TheVariants.{Three}
use Rattle.dover_port.specs.Moves.{Move}
use Rattle.dover_port.specs.declared.status.Status.{Status}
use Rattle.stated_jobs.specs.trial.Turns.{drawn_turns}
use Rattle.stated_jobs.specs.declared.trial.turns.Turn.{Turn}
use Rattle.event_feed.specs.Feeds.{rules_text}
use Rattle.trial_words.specs.Record.{Puts}

-- the lines of a turn: its job, and what is done behind it
abbrev pub turn_lines : Turn → List FeedLine
turn_lines turn = JobLine turn.job ∷ elim turn.done [ None ↦ [] | Some done ↦ DoneLine done.tick done.number ∷ [] ]

-- these lines as they are written
abbrev pub text_of_lines : List FeedLine → List ℕ
text_of_lines lines = in_lines (map feed_text lines)

-- the text of a feed of version Three: its rules, these turns, and the end
abbrev pub feed_of_turns : Fraction → List Turn → List ℕ
feed_of_turns k turns =
    in_lines (rules_text (rules_with k Three) ∷ map feed_text (flat_map turn_lines turns ++ EndLine ∷ []))

-- Nothing is read, and the feed of so many turns of a seed was put: all of it, or a front of it where a write failed.
abbrev pub Draws : Fraction → (seed count : ℕ) → Status → List Move → Type 0
Draws k seed count status moves = Puts status (feed_of_turns k (drawn_turns seed count k)) moves
