use Rattle.std.proofs.Common.{◌≤◌, ◌∙◌, ap, subst, length}
use Rattle.dover_model.specs.Bait.{bait_jobs}
use Rattle.stated_jobs.specs.bait.Baiting.{Baiting, FitsLimits}
use Rattle.stated_jobs.proofs.bait.Giving.{kept_count, kept_fits, tick_low, tick_fits, all_fit, jobs_fit}
use Rattle.stated_jobs.proofs.bait.feed.Bait.jobs.Goals as goal

pub overflow_cast-result : goal.overflow_cast-result
overflow_cast-result c = tick_fits c.self.inside.bait_tick (tick_low c.self.inside c.self.invariant)

pub overflow_add-result : goal.overflow_add-result
overflow_add-result c = all_fit c.self.inside.bait_tick c.self.inside.rounds c.self.inside.chain.sum
    c.self.invariant.bait_tick c.self.invariant.numbers.few

pub overflow_add-result-2 : goal.overflow_add-result-2
overflow_add-result-2 c = jobs_fit c.self.inside.bait_tick c.self.inside.rounds c.self.inside.chain.sum
    c.self.invariant.bait_tick c.self.invariant.numbers.few

pub returns-clause-some : goal.returns-clause-some
returns-clause-some c = subst (λ (b : Baiting). 1 ≤ b.rounds) c.self.view_is c.self.invariant.rounds

pub returns-clause-count : goal.returns-clause-count
returns-clause-count c = kept_count c.self.inside c.self.invariant
    ∙ ap (λ (b : Baiting). length (bait_jobs b.ratio b.rounds)) c.self.view_is

pub returns-clause-fits : goal.returns-clause-fits
returns-clause-fits c = subst (λ (b : Baiting). FitsLimits b.ratio b.rounds) c.self.view_is
    (kept_fits c.self.inside c.self.invariant)
