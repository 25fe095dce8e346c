-- What a word says that answers on the jobs of a feed.
use Rattle.std.specs.Prelude.{◌≡◌, ◌⊎◌, ℕ, List, true, false, Option, Some, None}
use Rattle.dover_model.specs.Common.{Account, Instance, Session, IsValidSession, instance_of, next_line, no_lines}
use Rattle.dover_port.specs.declared.status.Status.{Status}
use Rattle.dover_port.specs.declared.status.Status.TheVariants.{Refused}
use Rattle.dialogue.specs.Reading.{Reading, SaysAt, lines_talk}
use Rattle.dialogue.specs.Sizes.{size_text}
use Rattle.dialogue.specs.Talk.{Talk}
use Rattle.event_feed.specs.Listing.{has_too_many, wants_more}

-- what a word has to say of these jobs: a status and a text
abbrev pub Says : Type 1
Says = Instance → Status → List ℕ → Type 0

-- this is said of the jobs of a session, and their finishes
abbrev pub SaysOf : Says → Option Session → Status → List ℕ → Type 0
SaysOf says None status text = ⊥
SaysOf says (Some S) status text = IsValidSession S × says (instance_of S) status text

-- jobs that are too many are refused, and else the feed is, or this is said of its jobs
abbrev pub Answers : Says → Account → Status → List ℕ → Type 0
Answers says a status text =
    ((has_too_many a ≡ true) × (status ≡ Refused) × (text ≡ size_text))
    ⊎ ((has_too_many a ≡ false) × SaysAt a.lines a.standing (SaysOf says a.session) status text)

-- More is read up to the end of the feed, its first fault, or its first job too many. Memory is lacking before the
-- input's end alone.
abbrev pub ask_reading : Says → Reading Account
ask_reading says = record {
  start = no_lines;
  next = next_line;
  goes_on = wants_more;
  answer = Answers says;
  lacks = λ a ended. ended ≡ false;
}

-- nothing is due before the answer
abbrev pub ask_talk : Says → Talk
ask_talk says = lines_talk (ask_reading says)
