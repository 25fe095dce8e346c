use Rattle.line_text.proofs.feeds.WhatIsRead.{read_text, read_short}
use Rattle.line_text.proofs.feeds.reading.read_feed_line.Goals as goal

pub returns-clause-text : goal.returns-clause-text
returns-clause-text c = read_text c.args.line.now c.read.result c.read.ensures.ok

pub returns-clause-short : goal.returns-clause-short
returns-clause-short c = read_short c.args.line.now c.read.result c.read.ensures.ok
