use Rattle.std.proofs.Common.{arith}
use Rattle.stated_jobs.proofs.duel.Giving.{root_small}
use Rattle.dover_model.proofs.valid.JobLimits.{ratio_limits}
use Rattle.stated_jobs.proofs.duel.links.is_too_much.Goals as goal

pub overflow_mul-result-5 : goal.overflow_mul-result-5
overflow_mul-result-5 c =
    let limits = ratio_limits c.p.ensures.ratio in
    omega (
      arith,
      root_small c.from-p.result c.from-q.result c.from-part.result (omega (arith, limits)) (omega (arith, limits))
          (omega arith),
    )
