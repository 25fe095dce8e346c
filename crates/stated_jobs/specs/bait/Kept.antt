-- What the fields of a Bait, and the numbers of its chain, stand for.
use Rattle.std.specs.Prelude.{◌≡◌, ℕ, ◌+◌, ◌-◌, ◌≤◌, ◌<◌, [], if◌then◌else◌, sum}
use Rattle.dover_model.specs.declared.events.Version.TheVariants.{Two}
use Rattle.dover_model.specs.Common.{most_jobs, most_value, Fraction, IsRatio, unit_value, first_link, chain_from}
use Rattle.dover_model.specs.Common.{chain, last_link, bait_value, chain_jobs_from}
use Rattle.stated_jobs.specs.declared.bait.feed.Chain.{Chain}
use Rattle.stated_jobs.specs.declared.bait.feed.Bait.TheInside.{Inside}
use Rattle.stated_jobs.specs.bait.Baiting.{Baiting, jobs_from}

-- the numbers of a chain of so many rounds, which is small
pub record HasNumbers (k : Fraction) (rounds : ℕ) (c : Chain) : Type 0 where
  pub first : c.first ≡ first_link k
  pub last : c.last ≡ last_link k rounds
  pub sum : c.sum ≡ sum (chain k rounds)
  pub light : c.light ≡ bait_value k rounds
  pub few : c.sum < most_jobs Two
  pub some : 1 ≤ c.light

-- the ratio, the rounds, and what is still to come
abbrev pub baiting_of : Inside → Baiting
baiting_of a = record {
  ratio = a.k;
  rounds = a.rounds;
  jobs = if a.is_over then [] else jobs_from (unit_value a.k) a.chain.light a.bait_tick
      (chain_jobs_from a.release (chain_from a.k a.links a.work))
      a.tick (a.bait_tick - a.tick);
}

-- the fields are those of a small feed under way
pub record IsKept (a : Inside) : Type 0 where
  pub ratio : IsRatio a.k
  pub rounds : 1 ≤ a.rounds
  pub numbers : HasNumbers a.k a.rounds a.chain
  pub modest : a.chain.light ≤ most_value
  pub bait_tick : a.bait_tick + a.rounds ≡ a.chain.sum
  -- neither the tick nor the next link has passed the bait's tick, which the links that are left lead to
  pub early : a.tick ≤ a.release
  pub work : 1 ≤ a.work
  pub left : a.release + sum (chain_from a.k a.links a.work) ≡ a.bait_tick + a.links
