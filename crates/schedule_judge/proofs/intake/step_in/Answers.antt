use Rattle.std.proofs.Common.{ap, sym, ◌∙◌, arith, None}
use Rattle.schedule_judge.specs.Account.{step_of_read}
use Rattle.schedule_judge.proofs.Reading.{read_as, step_read}
use Rattle.schedule_judge.proofs.intake.step_in.Goals as goal

pub returns-in-Ok : goal.returns-in-Ok
returns-in-Ok c = step_read c.args.line.now c.read_trace_line.result c.step_of.result
    (omega (arith, c.if-line-ge-LINE_BYTES.false)) c.read_trace_line.ensures.form c.read_trace_line.ensures.text
    c.read_trace_line.ensures.only (ap (λ r. step_of_read (read_as r)) c.in-Ok.is ∙ sym c.step_of.ensures)

pub returns-in-Err : goal.returns-in-Err
returns-in-Err c = step_read c.args.line.now c.read_trace_line.result None
    (omega (arith, c.if-line-ge-LINE_BYTES.false)) c.read_trace_line.ensures.form c.read_trace_line.ensures.text
    c.read_trace_line.ensures.only (ap (λ r. step_of_read (read_as r)) c.in-Err.is)
