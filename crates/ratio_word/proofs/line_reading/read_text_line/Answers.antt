use Rattle.std.proofs.Common.{List, ℕ, Option, Some, None, IfSome, sym, subst, option_and_then}
use Rattle.dover_model.specs.FeedLine as form
use Rattle.dover_model.specs.FeedLine.{feed_line}
use Rattle.ratio_word.specs.Lines.{IsShort, feed_only, of_feed}
use Rattle.ratio_word.proofs.line_reading.read_text_line.Goals as goal

-- a line that a feed alone may have isn't one of a task text
feed_short : (bytes : List ℕ) → IfSome (feed_only bytes) IsShort
feed_short bytes = by (feed_line bytes) where
  by : (o : Option form.FeedLine) → IfSome (option_and_then of_feed o) IsShort
  by None = tt
  by (Some (form.RatioLine p q version)) = tt
  by (Some (form.FactorLine p q version b c)) = tt
  by (Some (form.JobLine j)) = tt
  by (Some (form.TickLine at)) = tt
  by (Some (form.DoneLine at number)) = tt
  by (Some form.EndLine) = tt

pub returns-in-Err-clause-short : goal.returns-in-Err-clause-short
returns-in-Err-clause-short c = subst (λ o. IfSome o IsShort) (sym c.feed_line.ensures) (feed_short c.args.line.now)
