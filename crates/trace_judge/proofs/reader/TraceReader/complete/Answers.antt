use Rattle.trace_judge.proofs.Completing.{completion_took}
use Rattle.trace_judge.proofs.reader.TraceReader.complete.Goals as goal

pub returns-clause-took : goal.returns-clause-took
returns-clause-took g c = completion_took c.args.self.now c.requires.going c.args.at c.args.number c.requires.form
    c.finish_early.new.self c.follow.new.self c.follow.result (c.finish_early.ensures.stage c.if-finish_early.false)
    (c.finish_early.ensures.no c.if-finish_early.false) (c.finish_early.ensures.ahead c.if-finish_early.false)
    c.follow.ensures.followed

pub returns-clause-paid : goal.returns-clause-paid
returns-clause-paid g c start paid = c.follow.ensures.paid start (c.finish_early.ensures.paid start paid)

pub returns-then-finish_early-clause-took : goal.returns-then-finish_early-clause-took
returns-then-finish_early-clause-took g c = c.finish_early.ensures.yes c.if-finish_early.true

pub returns-then-finish_early-clause-paid : goal.returns-then-finish_early-clause-paid
returns-then-finish_early-clause-paid g c = c.finish_early.ensures.paid
