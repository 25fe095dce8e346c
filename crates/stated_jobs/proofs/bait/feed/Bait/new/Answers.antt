use Rattle.std.proofs.Common.{◌<◌, ◌≤◌, ap, subst, refl}
use Rattle.dover_model.specs.declared.events.Version.TheVariants.{Two}
use Rattle.dover_model.specs.Limits.{most_jobs, most_value}
use Rattle.dover_model.proofs.lists.Tests.{never}
use Rattle.stated_jobs.proofs.bait.Feeds.{small, modest, fits}
use Rattle.stated_jobs.proofs.bait.Giving.{baiting, too_heavy, rounds_low, first_some, tick_and_rounds, new_left}
use Rattle.stated_jobs.proofs.bait.Giving.{new_jobs, at_once}
use Rattle.stated_jobs.proofs.bait.feed.Bait.new.Goals as goal

pub returns-in_err-chain-clause-fits : goal.returns-in_err-chain-clause-fits
returns-in_err-chain-clause-fits c = rw c.from_residual.ensures
    (never, λ within. c.in_err-chain.ensures.small.1 (small c.args.k c.args.rounds within))

pub returns-then-chain-gt-MOST_VALUE-clause-fits : goal.returns-then-chain-gt-MOST_VALUE-clause-fits
returns-then-chain-gt-MOST_VALUE-clause-fits c = (
  never,
  λ within. too_heavy c.in_ok-chain.chain.light _ c.in_ok-chain.ensures.numbers.light c.if-chain-gt-MOST_VALUE.true
      (modest c.args.k c.args.rounds within),
)

pub overflow_sub-result : goal.overflow_sub-result
overflow_sub-result c = rounds_low _ _ _ _ c.from.ensures c.in_ok-chain.ensures.numbers.sum

pub invariant_of-result : goal.invariant_of-result
invariant_of-result c = record {
  ratio = c.in_ok-chain.ensures.ratio;
  rounds = c.requires;
  numbers = c.in_ok-chain.ensures.numbers;
  modest = c.if-chain-gt-MOST_VALUE.false;
  bait_tick = tick_and_rounds c.in_ok-chain.chain.sum c.from.result c.args.rounds c.from.ensures
      (rounds_low _ _ _ _ c.from.ensures c.in_ok-chain.ensures.numbers.sum);
  early = at_once;
  work = first_some c.args.k c.in_ok-chain.chain.first c.in_ok-chain.ensures.numbers.first;
  left = new_left c.args.k c.args.rounds c.in_ok-chain.chain.first c.in_ok-chain.chain.sum c.from.result
      c.in_ok-chain.ensures.numbers.first
      c.in_ok-chain.ensures.numbers.sum c.from.ensures
      (rounds_low _ _ _ _ c.from.ensures c.in_ok-chain.ensures.numbers.sum);
}

pub returns-clause-fits : goal.returns-clause-fits
returns-clause-fits c = (
  λ h. fits c.args.k c.args.rounds c.in_ok-chain.ensures.ratio
      (subst (λ n. n < most_jobs Two) c.in_ok-chain.ensures.numbers.sum
      c.in_ok-chain.ensures.numbers.few)
      (subst (λ v. v ≤ most_value) c.in_ok-chain.ensures.numbers.light c.if-chain-gt-MOST_VALUE.false),
  λ h. refl,
)

pub returns-clause-feed : goal.returns-clause-feed
returns-clause-feed c = ap (baiting c.args.k c.args.rounds)
    (new_jobs _ _ _ _ _ _ c.in_ok-chain.ensures.numbers.light c.in_ok-chain.ensures.numbers.first
    c.in_ok-chain.ensures.numbers.sum c.from.ensures)
