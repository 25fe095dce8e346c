use Rattle.std.proofs.Common.{◌≡◌, ◌≤◌, ◌<◌, ◌+◌, ◌-◌, sum}
use Rattle.dover_model.specs.declared.events.Version.TheVariants.{Two}
use Rattle.dover_model.specs.Common.{most_jobs, most_light, chain_from, chain, last_link}
use Rattle.stated_jobs.proofs.bait.Chains.{last_from}
use Rattle.stated_jobs.proofs.bait.feed.small_chain.Given as goal

-- the values so far and those that are to come are the chain's
abbrev pub invariant-loop : goal.invariant-loop
invariant-loop l = record {
  total : l.sum + sum (chain_from l.k (l.rounds - l.counter) (l.light + 1)) ≡ sum (chain l.k l.rounds);
  end : last_from l.last (chain_from l.k (l.rounds - l.counter) (l.light + 1)) ≡ last_link l.k l.rounds;
  few : l.sum < most_jobs Two;
  low : l.light ≤ 1_000_000_000_000;
  lights : 1 ≤ l.counter → l.light ≡ most_light l.k l.last;
  some : 1 ≤ l.counter → 1 ≤ l.light;
}
