-- The forms of a line of a feed or of a task text.
use Rattle.std.specs.Prelude.{ℕ, List, Option, Some, None, option_and_then}
use Rattle.dover_model.specs.FeedLine as form
use Rattle.dover_model.specs.FeedLine.{feed_line}
use Rattle.task_words.specs.reading.Lines.{HasNumerals, task_line}
use Rattle.ratio_word.specs.declared.lines.TextLine.{TextLine}
use Rattle.ratio_word.specs.declared.lines.TextLine.TheVariants.{Plain, Job, Mark}

-- a line that a feed alone may have
abbrev pub of_feed : form.FeedLine → Option TextLine
of_feed (form.RatioLine p q version) = None
of_feed (form.FactorLine p q version b c) = None
of_feed (form.JobLine j) = Some (Job j.release j.work j.deadline j.value)
of_feed (form.TickLine at) = Some Mark
of_feed (form.DoneLine at number) = Some Mark
of_feed form.EndLine = None

abbrev pub feed_only : List ℕ → Option TextLine
feed_only bytes = option_and_then of_feed (feed_line bytes)

-- the line that these bytes spell, if they do
abbrev pub text_line : List ℕ → Option TextLine
text_line bytes = elim (task_line bytes) [ Some line ↦ Some (Plain line) | None ↦ feed_only bytes ]

-- the numbers of a line of a task text are short
abbrev pub IsShort : TextLine → Type 0
IsShort (Plain line) = HasNumerals line
IsShort (Job release work deadline value) = Unit {0}
IsShort Mark = Unit {0}
