use Rattle.task_words.proofs.sure.Promised.{sure_completed, raised}
use Rattle.task_words.proofs.sure.laws.sure_tasks_lose_no_job.Goals as goal

pub returns-clause-completed : goal.returns-clause-completed
returns-clause-completed c = sure_completed

pub returns-clause-raised : goal.returns-clause-raised
returns-clause-raised c = λ k w streams x v ratio less spread small. raised k w streams x v ratio less spread small
