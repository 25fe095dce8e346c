-- What is kept of the numbers changes nothing of what stands for the lines.
use Rattle.std.proofs.Common.{arith, ap, ◌∙◌}
use Rattle.event_feed.specs.Kept.{Kept, has_ended, fault_of}
use Rattle.event_feed.proofs.intake.Intake.line.Goals as goal

pub take-requires-clause-unended : goal.take-requires-clause-unended
take-requires-clause-unended c = ap has_ended c.self.view_is ∙ c.requires

pub returns-in-Ok-clause-again : goal.returns-in-Ok-clause-again
returns-in-Ok-clause-again c = λ fault is.
    let it = c.take.ensures.again fault (ap fault_of c.self.view_is ∙ is) in (it.0, it.1 ∙ c.self.view_is)

pub returns-in-Err-clause-stands : goal.returns-in-Err-clause-stands
returns-in-Err-clause-stands c ls it = c.take-in-Err.ensures.stands ls c.args.line.now c.in-Err.ensures.err it

pub returns-in-Err-clause-answer : goal.returns-in-Err-clause-answer
returns-in-Err-clause-answer c ls it = c.take-in-Err.ensures.answer ls c.args.line.now c.in-Err.ensures.err it

pub returns-in-Ok-clause-counted : goal.returns-in-Ok-clause-counted
returns-in-Ok-clause-counted c = omega (arith, c.take.ensures.counted, ap (λ (k : Kept). k.lines) c.self.view_is)
