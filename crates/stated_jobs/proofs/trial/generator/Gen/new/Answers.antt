use Rattle.stated_jobs.proofs.trial.Drawn.{so_many}
use Rattle.stated_jobs.proofs.trial.generator.Gen.new.Goals as goal

pub returns-clause-count : goal.returns-clause-count
returns-clause-count c = so_many c.args.k c.args.count c.from.result 0
