use Rattle.dover_model.specs.Due.{fault_text}
use Rattle.event_feed.specs.Kept.{cause_of_fault}
use Rattle.question_words.proofs.asking.refused.Goals as goal

pub returns-in-Fault-clause-text : goal.returns-in-Fault-clause-text
returns-in-Fault-clause-text c = let fault = c.in-Fault.fault in
    rw c.in-Fault.is (c.refused.ensures.text (fault_text fault.line (cause_of_fault fault.cause)) c.fault_line.ensures)
