use Rattle.std.proofs.Common.{arith}
use Rattle.dover_model.proofs.valid.JobLimits.{ratio_limits}
use Rattle.stated_jobs.proofs.duel.Giving.{leaving_fits}
use Rattle.stated_jobs.proofs.duel.links.leaving.Goals as goal

pub overflow_mul-result-3 : goal.overflow_mul-result-3
overflow_mul-result-3 c =
    let limits = ratio_limits c.p.ensures.ratio in
    leaving_fits c.from.result c.from-p.result c.from-2.result c.from-q.result c.from-3.result (omega arith)
    (omega (arith, limits)) (omega (arith, limits)) (omega arith)
