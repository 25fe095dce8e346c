use Rattle.std.proofs.Common.{arith}
use Rattle.trace_judge.proofs.Unread.{unread_took, jobs_counted}
use Rattle.trace_judge.proofs.reader.TraceReader.take.Goals as goal

pub returns-in-Ok-clause-room : goal.returns-in-Ok-clause-room
returns-in-Ok-clause-room g c room = c.take_read.ensures.room
    (omega (arith, jobs_counted c.in-Ok.read c.args.line.now c.in-Ok.ensures.item, room))

pub returns-in-Ok-clause-spare : goal.returns-in-Ok-clause-spare
returns-in-Ok-clause-spare g c =
    omega (arith, c.take_read.ensures.spare, jobs_counted c.in-Ok.read c.args.line.now c.in-Ok.ensures.item)

pub returns-in-Ok-clause-jobs : goal.returns-in-Ok-clause-jobs
returns-in-Ok-clause-jobs g c =
    omega (arith, c.take_read.ensures.jobs, jobs_counted c.in-Ok.read c.args.line.now c.in-Ok.ensures.item)

pub returns-in-Err-clause-took : goal.returns-in-Err-clause-took
returns-in-Err-clause-took g c = unread_took c.args.self.now c.args.line.now
    (λ x form text. let one = c.read_trace_line.ensures.only x form text in let other = c.in-Err.is in cc)
