use Rattle.ready_jobs.proofs.ready.Ready.settle.Goals as goal

pub returns-in-Some-clause-kept : goal.returns-in-Some-clause-kept
returns-in-Some-clause-kept g c = c.due_before.ensures.kept

pub returns-in-None-clause-kept : goal.returns-in-None-clause-kept
returns-in-None-clause-kept g c = c.due_before.ensures.kept

pub returns-in-Some-clause-fewer : goal.returns-in-Some-clause-fewer
returns-in-Some-clause-fewer g c = c.due_before.ensures.fewer

pub returns-in-None-clause-fewer : goal.returns-in-None-clause-fewer
returns-in-None-clause-fewer g c = c.due_before.ensures.fewer

pub returns-in-Some-clause-low : goal.returns-in-Some-clause-low
returns-in-Some-clause-low g c = c.due_before.ensures.low

pub returns-in-None-clause-low : goal.returns-in-None-clause-low
returns-in-None-clause-low g c = c.due_before.ensures.low

pub returns-in-Some-clause-paid : goal.returns-in-Some-clause-paid
returns-in-Some-clause-paid g c = c.due_before.ensures.paid

pub returns-in-None-clause-paid : goal.returns-in-None-clause-paid
returns-in-None-clause-paid g c = c.due_before.ensures.paid

pub returns-in-Some-clause-freely : goal.returns-in-Some-clause-freely
returns-in-Some-clause-freely g c = c.due_before.ensures.freely

pub returns-in-None-clause-freely : goal.returns-in-None-clause-freely
returns-in-None-clause-freely g c = c.due_before.ensures.freely
