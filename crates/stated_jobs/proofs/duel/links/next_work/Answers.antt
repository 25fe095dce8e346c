use Rattle.std.proofs.Common.{ℕ, ◌+◌, ◌*◌, ◌/◌, ◌<◌, ◌≤◌, Fits, w64, arith}
use Rattle.std.specs.Int.{w128}
use Rattle.dover_model.proofs.valid.JobLimits.{ratio_limits}
use Rattle.stated_jobs.proofs.duel.Giving.{next_small}
use Rattle.stated_jobs.proofs.duel.links.next_work.Goals as goal

-- what is missing, as the next link pays it
small : (c : goal.After-saturating_sub-missing)
    → c.saturating_sub-missing.result / (c.from-part.result * c.from-q.result) < 1_000_000_000_000_001
small c =
    let limits = ratio_limits c.p.ensures.ratio in
    next_small c.from-whole.result c.from-q.result c.from.result c.from-part.result _ c.saturating_sub-missing.result
    (omega arith) (omega arith) (omega arith) (omega (arith, limits)) c.saturating_sub-missing.ensures

fits_wide : (n : ℕ) → n < 1_000_000_000_000_001 → Fits w128 (n + 1)
fits_wide n low = omega (arith, low)

fits : (n : ℕ) → n < 1_000_000_000_000_001 → Fits w64 (n + 1)
fits n low = omega (arith, low)

no_more : (n : ℕ) → n < 1_000_000_000_000_001 → n + 1 ≤ 1_000_000_000_000_001
no_more n low = omega (arith, low)

pub overflow_add-result : goal.overflow_add-result
overflow_add-result c = fits_wide _ (small c)

pub overflow_cast-result : goal.overflow_cast-result
overflow_cast-result c = fits _ (small c)

pub returns-clause-small : goal.returns-clause-small
returns-clause-small c = no_more _ (small c)
