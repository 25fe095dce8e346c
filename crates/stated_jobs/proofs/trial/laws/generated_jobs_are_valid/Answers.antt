use Rattle.stated_jobs.proofs.trial.Drawn.{valid}
use Rattle.stated_jobs.proofs.trial.laws.generated_jobs_are_valid.Goals as goal

pub returns : goal.returns
returns c seed count k version ratio few = valid k ratio seed count version few
