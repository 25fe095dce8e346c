use Rattle.std.proofs.Common.{arith}
use Rattle.dover_model.specs.Session.{instance_of}
use Rattle.trace_judge.proofs.Completing.{right_at}
use Rattle.trace_judge.proofs.reader.TraceReader.is_right_done.Goals as goal

pub returns : goal.returns
returns c ls S z y waited = right_at (instance_of S) c.args.at c.args.tick c.args.number c.is_right.result
    c.requires.low
    (omega (arith, c.if-tick-at.false)) (c.is_right.ensures ls S z y waited)
