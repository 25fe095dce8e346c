use Rattle.std.proofs.Common.{arith, subst}
use Rattle.dover_model.specs.Text.{text_of}
use Rattle.event_feed.specs.DueLines.{HasNumerals}
use Rattle.dialogue.proofs.lines.Sizes.{event_size, feed_size}
use Rattle.dialogue.proofs.lines.due_lines.write_out.Goals as goal

pub returns-in-Step-clause-fits : goal.returns-in-Step-clause-fits
returns-in-Step-clause-fits c = rw c.write_event.ensures (omega (
  arith,
  event_size c.in-Step.event (subst HasNumerals c.in-Step.is c.requires),
  feed_size (text_of c.in-Step.event),
))
