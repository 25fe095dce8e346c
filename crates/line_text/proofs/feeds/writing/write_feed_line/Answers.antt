use Rattle.dover_model.proofs.texts.FeedLines.{feed_line-feed_text}
use Rattle.line_text.specs.feeds.Form.{form_of}
use Rattle.line_text.proofs.feeds.writing.write_feed_line.Goals as goal

pub returns-clause-again : goal.returns-clause-again
returns-clause-again c = feed_line-feed_text (form_of c.args.line.now)
