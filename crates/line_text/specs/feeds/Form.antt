-- The line of a feed that a value stands for.
use Rattle.dover_model.specs.JobFacts.{job_of_numbers}
use Rattle.dover_model.specs.FeedLine as form
use Rattle.line_text.specs.declared.feeds.lines.FeedLine.{FeedLine}
use Rattle.line_text.specs.declared.feeds.lines.FeedLine.TheVariants.{Declared, Factored, Job, Tick, Done, End}

-- the line of the grammar that this is
abbrev pub form_of : FeedLine → form.FeedLine
form_of (Declared p q version) = form.RatioLine p q version
form_of (Factored p q version b c) = form.FactorLine p q version b c
form_of (Job release work deadline value) = form.JobLine (job_of_numbers release work deadline value)
form_of (Tick at) = form.TickLine at
form_of (Done at number) = form.DoneLine at number
form_of End = form.EndLine
