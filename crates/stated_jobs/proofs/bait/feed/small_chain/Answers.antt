use Rattle.std.proofs.Common.{◌≡◌, ◌+◌, ◌-◌, ◌<◌, ◌∙◌, ap, subst, refl, arith, sum}
use Rattle.dover_model.specs.declared.events.Version.TheVariants.{Two}
use Rattle.dover_model.specs.Common.{most_jobs, chain, last_link, most_light}
use Rattle.dover_model.proofs.lists.Tests.{never}
use Rattle.stated_jobs.proofs.bait.Chains.{sum_step, last_step, all_to_come, last_to_come, from_nothing, first_low}
use Rattle.stated_jobs.proofs.bait.Chains.{nothing_few, no_more, one_fewer, low_step, last_fits, sum_fits, some_step}
use Rattle.stated_jobs.proofs.bait.Chains.{all_summed, last_summed, all_done, some_done, sum_part}
use Rattle.stated_jobs.proofs.bait.feed.small_chain.Goals as goal

pub loop-init : goal.loop-init
loop-init c = record {
  total = from_nothing _ _ (ap (λ ws. sum ws)
      (all_to_come c.args.k c.args.rounds c.first_value-first.result c.first_value-first.ensures.some
      c.first_value-first.ensures.is));
  end = last_to_come c.args.k c.args.rounds c.first_value-first.result c.first_value-first.ensures.some
      c.first_value-first.ensures.is;
  few = nothing_few;
  low = first_low c.first_value-first.result c.first_value-first.ensures.small;
  lights = λ h. no_more h;
  some = λ h. no_more h;
}

pub overflow_sub-light : goal.overflow_sub-light
overflow_sub-light c = c.first_value-first.ensures.some

pub overflow_add-last : goal.overflow_add-last
overflow_add-last c = last_fits c.loop.light c.loop.invariant.low

pub overflow_add-sum : goal.overflow_add-sum
overflow_add-sum c = sum_fits c.loop.sum c.loop.light c.loop.invariant.few c.loop.invariant.low

pub light_value-light-requires : goal.light_value-light-requires
light_value-light-requires c = omega (arith, c.from.ensures, c.most_jobs.ensures, c.if-sum-from.false)

pub loop-preserved : goal.loop-preserved
loop-preserved c = record {
  total = sum_step _ _ _ _ _ _ _ (one_fewer c.args.rounds c.loop.counter c.loop-test.true)
      c.light_value-light.ensures.is c.loop.invariant.total;
  end = last_step _ _ _ _ _ _ _ (one_fewer c.args.rounds c.loop.counter c.loop-test.true) c.light_value-light.ensures.is
      c.loop.invariant.end;
  few = omega (arith, c.from.ensures, c.most_jobs.ensures, c.if-sum-from.false);
  low = low_step c.loop.sum c.loop.light c.light_value-light.result
      (omega (arith, c.from.ensures, c.most_jobs.ensures, c.if-sum-from.false)) c.light_value-light.ensures.most;
  lights = λ h. c.light_value-light.ensures.is;
  some = λ h. some_step c.loop.light c.light_value-light.result c.light_value-light.ensures.least;
}

pub returns-then-sum-from-clause-small : goal.returns-then-sum-from-clause-small
returns-then-sum-from-clause-small c = (
  never,
  sum_part c.args.k (c.args.rounds - c.loop.counter) (c.args.rounds - (c.loop.counter + 1))
      (c.loop.light + 1) c.loop.sum
      (sum (chain c.args.k c.args.rounds))
      (one_fewer c.args.rounds c.loop.counter c.loop-test.true) c.loop.invariant.total
      (omega (arith, c.from.ensures, c.most_jobs.ensures, c.if-sum-from.true)),
)

pub returns-clause-small : goal.returns-clause-small
returns-clause-small c = (
  λ h. subst (λ n. n < most_jobs Two) (all_summed _ _ _ _ _ _
      (all_done c.args.rounds c.loop.counter c.loop.auto.counter-end c.loop-test.false) c.loop.invariant.total)
      c.loop.invariant.few,
  λ h. refl,
)

pub returns-clause-numbers : goal.returns-clause-numbers
returns-clause-numbers c =
    let over : c.loop.counter ≡ c.args.rounds =
    all_done c.args.rounds c.loop.counter c.loop.auto.counter-end c.loop-test.false in
    let last : c.loop.last ≡ last_link c.args.k c.args.rounds =
    last_summed _ _ _ _ _ _ over c.loop.invariant.end in
    record {
      first = c.first_value-first.ensures.is;
      last = last;
      sum = all_summed _ _ _ _ _ _ over c.loop.invariant.total;
      light = c.loop.invariant.lights (some_done c.args.rounds c.loop.counter c.requires over)
          ∙ ap (λ w. most_light c.args.k w) last;
      few = c.loop.invariant.few;
      some = c.loop.invariant.some (some_done c.args.rounds c.loop.counter c.requires over);
    }
