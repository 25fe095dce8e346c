use Rattle.stated_jobs.proofs.duel.Giving.{all_to_come}
use Rattle.stated_jobs.proofs.duel.coming.Coming.new.Goals as goal

pub returns-clause-jobs : goal.returns-clause-jobs
returns-clause-jobs c = all_to_come c.args.k c.args.share.whole c.args.share.part 1_000_000 1 c.first_work.result
    c.first_work.ensures.is
