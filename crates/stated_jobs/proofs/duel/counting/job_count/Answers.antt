use Rattle.std.proofs.Common.{refl, arith}
use Rattle.stated_jobs.specs.duel.Jobs.{duel_jobs}
use Rattle.stated_jobs.proofs.duel.Admitting.{links_order, too_large, one_refused, one_admitted}
use Rattle.dover_model.proofs.valid.JobLimits.{ratio_limits}
use Rattle.dover_model.proofs.lists.Tests.{never}
use Rattle.stated_jobs.proofs.duel.counting.job_count.Goals as goal

pub returns-in-TooLarge-clause-valid : goal.returns-in-TooLarge-clause-valid
returns-in-TooLarge-clause-valid c = (
  never,
  λ valid. absurd (too_large _ _ _ _ c.loop-coming.invariant c.in-TooLarge.ensures valid),
)

pub returns-then-not-admit-clause-valid : goal.returns-then-not-admit-clause-valid
returns-then-not-admit-clause-valid c = (
  never,
  λ valid. absurd (one_refused _ _ _ _ c.loop-coming.invariant _ _ c.in-Job.ensures
      (c.if-not-admit.ensures.refused c.loop-coming.invariant.done c.loop-coming.invariant.stands refl) valid),
)

pub loop-coming-preserved : goal.loop-coming-preserved
loop-coming-preserved c =
    let it = c.if-not-admit.ensures.admitted c.loop-coming.invariant.done c.loop-coming.invariant.stands refl in
    one_admitted c.args.k (duel_jobs c.args.k c.args.share.whole c.args.share.part) c.loop-coming.admission
    c.loop-coming.coming c.loop-coming.invariant c.in-Job.job c.next_job.new.self c.in-Job.ensures
    c.admit.new.admission
    (links_order _ _ _ _ _ (ratio_limits c.new-coming.ensures.ratio).above_one (omega arith))
    it.0 it.1 c.if-not-admit.ensures.rules
