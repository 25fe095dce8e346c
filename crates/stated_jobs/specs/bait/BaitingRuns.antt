-- A baiting feed with its rules, and what its run completes.
use Rattle.std.specs.Prelude.{◌≡◌, ℕ, None, Some}
use Rattle.std.specs.List.{count_by, last_or}
use Rattle.dover_model.specs.declared.events.Version.{Version}
use Rattle.dover_model.specs.declared.events.Version.TheVariants.{One, Three}
use Rattle.dover_model.specs.declared.events.Event.TheVariants.{Complete}
use Rattle.dover_model.specs.Common.{Fraction, Instance, jobs_under, bait_jobs, chain_jobs, last_link, Prints, run}
use Rattle.dover_model.specs.Common.{completed_value, is_complete, Each}

-- the jobs of a baiting feed, and the rules that it declares
abbrev pub baiting : Fraction → Version → (rounds : ℕ) → Instance
baiting k version rounds = jobs_under version k (bait_jobs k rounds)

-- the first version in which a feed may declare the ratio: a factor may be declared from version Three on
abbrev pub version_for : Fraction → Version
version_for k = elim k.factor [ None ↦ One | Some f ↦ Three ]

-- the baiting feed as it is declared
abbrev pub baiting_feed : Fraction → (rounds : ℕ) → Instance
baiting_feed k rounds = baiting k (version_for k) rounds

-- the run of J completes the last job of the chain, and no other
pub record CompletesLastAlone (k : Fraction) (rounds : ℕ) (J : Instance) : Type 0 where
  pub worth : completed_value J ≡ last_link k rounds
  pub once : count_by (λ x. is_complete x.move) (run J) ≡ 1
  pub last : (at n : ℕ) → Each (λ x. x.move ≡ Prints (Complete at n)
      → Each (λ t. t.number ≡ n → last_or None (chain_jobs k rounds) ≡ Some t.job) x.before.tasks) (run J)
