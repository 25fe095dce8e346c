use Rattle.trace_judge.proofs.judge.Judge.note.Goals as goal

pub returns-clause-paid : goal.returns-clause-paid
returns-clause-paid g c = c.miss.ensures.paid
