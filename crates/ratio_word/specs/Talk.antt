-- What the word `ratio` says, by the bytes got so far.
use Rattle.std.specs.Prelude.{ℕ, List, Option, Some, None}
use Rattle.dover_model.specs.Common.{Declaration as Rules, JobFacts}
use Rattle.dover_port.specs.declared.status.Status.{Status}
use Rattle.dialogue.specs.Talk.{Talk}
use Rattle.dialogue.specs.Reading.{Reading, SaysAt, lines_talk}
use Rattle.ratio_word.specs.Account.{TextAccount, is_open, next_line, no_lines}
use Rattle.ratio_word.specs.Says.{SaysRatio}

-- what is said of these jobs under the rules that were declared
abbrev pub SaysUnder : Option Rules → List JobFacts → Status → List ℕ → Type 0
SaysUnder None jobs status text = ⊥
SaysUnder (Some rules) jobs status text = SaysRatio rules jobs status text

-- More is read up to the end of the text or its first fault. Then the line that refuses the text is the answer, or what
-- is to be said of its jobs. Memory is never lacking.
abbrev pub ratio_reading : Reading TextAccount
ratio_reading = record {
  start = no_lines;
  next = next_line;
  goes_on = is_open;
  answer = λ a. SaysAt a.lines a.standing (SaysUnder a.rules a.jobs);
  lacks = λ a ended. ⊥;
}

-- nothing is due before the answer
abbrev pub ratio_talk : Talk
ratio_talk = lines_talk ratio_reading
