use Rattle.trace_judge.proofs.Seeing.{sees_begins, sees_some_next}
use Rattle.trace_judge.proofs.laws.lines_seen_begin_a_trace.Goals as goal

pub returns-clause-begins : goal.returns-clause-begins
returns-clause-begins c = sees_begins

pub returns-clause-next : goal.returns-clause-next
returns-clause-next c = sees_some_next
