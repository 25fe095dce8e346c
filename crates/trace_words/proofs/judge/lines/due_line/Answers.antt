use Rattle.trace_judge.proofs.Dues.{due_short}
use Rattle.trace_words.proofs.judge.lines.due_line.Goals as goal

pub write_event-requires-clause-numbers : goal.write_event-requires-clause-numbers
write_event-requires-clause-numbers c =
    due_short c.requires.0 c.requires.1 c.in-Step.event (rw c.in-Step.is at c.requires.2)
