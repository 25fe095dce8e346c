use Rattle.std.proofs.Common.{◌∙◌, sym}
use Rattle.line_text.specs.traces.Form.{trace_text}
use Rattle.trace_judge.proofs.Unread.{ended_took_none}
use Rattle.trace_judge.proofs.reader.TraceReader.take_read.Goals as goal

pub returns-in-Ended-clause-took : goal.returns-in-Ended-clause-took
returns-in-Ended-clause-took g c =
    ended_took_none c.args.self.now (sym c.stage.ensures ∙ c.in-Ended.is)
    (trace_text c.args.read.now)

pub returns-in-Opening-clause-paid : goal.returns-in-Opening-clause-paid
returns-in-Opening-clause-paid g c start = c.take_first.ensures.paid start c.args.comparisons.now

pub returns-in-Going-clause-paid : goal.returns-in-Going-clause-paid
returns-in-Going-clause-paid g c = c.take_next.ensures.paid
