use Rattle.task_words.proofs.tasks.Released.{unrolled_valid}
use Rattle.task_words.proofs.tasks.laws.unrolled_jobs_are_valid.Goals as goal

pub returns : goal.returns
returns c = unrolled_valid
