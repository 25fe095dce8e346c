use Rattle.schedule_judge.proofs.RunTexts.{run_is_legal}
use Rattle.schedule_judge.proofs.Worth.{worth_it, within_bound}
use Rattle.schedule_judge.proofs.laws.legal_schedules_are_schedules.Goals as goal

pub returns-clause-worth : goal.returns-clause-worth
returns-clause-worth c = λ bytes J ended jobs. worth_it bytes J jobs

pub returns-clause-bound : goal.returns-clause-bound
returns-clause-bound c = λ bytes J valid ended jobs. within_bound bytes J valid jobs

pub returns-clause-runs : goal.returns-clause-runs
returns-clause-runs c = λ J valid listable bare few. run_is_legal J valid listable bare few
