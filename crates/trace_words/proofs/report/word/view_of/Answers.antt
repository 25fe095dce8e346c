use Rattle.trace_words.proofs.report.Answering.{all_ok}
use Rattle.trace_words.proofs.report.word.view_of.Goals as goal

pub chrome-requires : goal.chrome-requires
chrome-requires c = c.requires.run

pub returns-in-Chrome : goal.returns-in-Chrome
returns-in-Chrome c J is under = rw c.in-Chrome.is (all_ok _)

pub why-requires : goal.why-requires
why-requires c = c.requires.run

pub returns-in-Why : goal.returns-in-Why
returns-in-Why c J is under = rw c.in-Why.is (c.why.ensures J is under)

pub timeline-requires : goal.timeline-requires
timeline-requires c = c.requires.run

pub returns-in-Timeline : goal.returns-in-Timeline
returns-in-Timeline c J is under = rw c.in-Timeline.is (c.timeline.ensures J is)

pub picture-requires : goal.picture-requires
picture-requires c = c.requires.run

pub returns-in-Svg : goal.returns-in-Svg
returns-in-Svg c J is under = rw c.in-Svg.is (all_ok _)
