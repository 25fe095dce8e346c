-- The text of a form is read as that form.
use Rattle.dover_model.specs.FeedLine.{feed_text}
use Rattle.dover_model.proofs.texts.FeedLines.{feed_line-feed_text}
use Rattle.line_text.specs.feeds.Form.{form_of}
use Rattle.event_feed.proofs.intake.Intake.form.Goals as goal

pub returns-clause-stands : goal.returns-clause-stands
returns-clause-stands c ls it = c.take.ensures.stands ls (feed_text (form_of c.args.line))
    (feed_line-feed_text (form_of c.args.line) c.requires.numerals) it

pub returns-clause-answer : goal.returns-clause-answer
returns-clause-answer c ls it = c.take.ensures.answer ls (feed_text (form_of c.args.line))
    (feed_line-feed_text (form_of c.args.line) c.requires.numerals) it
