-- Each refusal is the first cause that holds, and a job that passes each test isn't refused.
use Rattle.std.proofs.Common.{ap, arith, refl}
use Rattle.dover_model.specs.Common.{last_tick_in, most_jobs, most_total}
use Rattle.admission.proofs.Refusing.{not_refused, count_refused, total_refused, ratio_refused}
use Rattle.admission.proofs.admitting.Admission.check_job.Goals as goal

pub returns-then-self-most_jobs-clause-refusal : goal.returns-then-self-most_jobs-clause-refusal
returns-then-self-most_jobs-clause-refusal c jobs stands =
    count_refused c.args.self.now.rules jobs c.args.job c.deadline.ensures.job
    (omega (arith, ap (λ k. last_tick_in k.rules.version) c.self.view_is))
    (omega (
      arith,
      ap (λ k. k.count) c.self.view_is,
      ap (λ k. most_jobs k.rules.version) c.self.view_is,
      stands.count,
    ))

pub returns-then-most_total-self-clause-refusal : goal.returns-then-most_total-self-clause-refusal
returns-then-most_total-self-clause-refusal c jobs stands =
    total_refused c.args.self.now.rules jobs c.args.job c.deadline.ensures.job
    (omega (arith, ap (λ k. last_tick_in k.rules.version) c.self.view_is))
    (omega (
      arith,
      ap (λ k. k.count) c.self.view_is,
      ap (λ k. most_jobs k.rules.version) c.self.view_is,
      stands.count,
    ))
    (omega (
      arith,
      ap (λ k. k.total) c.self.view_is,
      ap (λ k. most_total k.rules.version) c.self.view_is,
      stands.total,
    ))

pub returns-in-Some-clause-refusal : goal.returns-in-Some-clause-refusal
returns-in-Some-clause-refusal c jobs stands =
    ratio_refused c.args.self.now.rules jobs c.args.job c.in-Some.other c.deadline.ensures.job
    (omega (arith, ap (λ k. last_tick_in k.rules.version) c.self.view_is))
    (omega (
      arith,
      ap (λ k. k.count) c.self.view_is,
      ap (λ k. most_jobs k.rules.version) c.self.view_is,
      stands.count,
    ))
    (omega (
      arith,
      ap (λ k. k.total) c.self.view_is,
      ap (λ k. most_total k.rules.version) c.self.view_is,
      stands.total,
    ))
    (c.in-Some.ensures.other jobs stands)

pub returns-in-None-clause-refusal : goal.returns-in-None-clause-refusal
returns-in-None-clause-refusal c jobs stands =
    not_refused c.args.self.now.rules jobs c.args.job c.deadline.ensures.job
    (omega (arith, ap (λ k. last_tick_in k.rules.version) c.self.view_is))
    (omega (
      arith,
      ap (λ k. k.count) c.self.view_is,
      ap (λ k. most_jobs k.rules.version) c.self.view_is,
      stands.count,
    ))
    (omega (
      arith,
      ap (λ k. k.total) c.self.view_is,
      ap (λ k. most_total k.rules.version) c.self.view_is,
      stands.total,
    ))
    (c.in-None.ensures.none jobs stands refl)
