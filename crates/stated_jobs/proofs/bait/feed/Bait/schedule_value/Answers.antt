use Rattle.std.proofs.Common.{◌∙◌, ap, sym}
use Rattle.dover_model.specs.Common.{bait_plan, plan_value, worth}
use Rattle.stated_jobs.specs.bait.BaitingRuns.{version_for, baiting_feed}
use Rattle.stated_jobs.proofs.bait.Plans.{plan_worth}
use Rattle.stated_jobs.specs.bait.Baiting.{Baiting}
use Rattle.stated_jobs.proofs.bait.Giving.{kept_plan, tick_low, product_fits, plan_fits}
use Rattle.stated_jobs.proofs.bait.feed.Bait.schedule_value.Goals as goal

pub overflow_mul-result : goal.overflow_mul-result
overflow_mul-result c = product_fits _ _ c.unit.ensures.small (tick_low c.self.inside c.self.invariant)

pub overflow_add-result : goal.overflow_add-result
overflow_add-result c = plan_fits c.unit.result c.self.inside.bait_tick c.self.inside.chain.light c.unit.ensures.small
    (tick_low c.self.inside c.self.invariant) c.self.invariant.modest

pub returns-clause-plan : goal.returns-clause-plan
returns-clause-plan c = kept_plan c.self.inside c.self.invariant c.unit.result c.unit.ensures.is
    ∙ ap (λ (b : Baiting). plan_value b.ratio b.rounds) c.self.view_is

pub returns-clause-worth : goal.returns-clause-worth
returns-clause-worth c = kept_plan c.self.inside c.self.invariant c.unit.result c.unit.ensures.is
    ∙ sym (plan_worth c.self.inside.k c.self.inside.rounds (version_for c.self.inside.k))
    ∙ ap (λ (b : Baiting). worth (baiting_feed b.ratio b.rounds) (bait_plan b.ratio b.rounds)) c.self.view_is
