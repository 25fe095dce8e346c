-- The ready jobs of a whole run.
use Rattle.std.specs.Prelude.{[], ◌≡◌, ℕ, List, false, filter}
use Rattle.dover_model.specs.Common.{Fraction, Rules, Instance, IsValid, State, is_coming, is_done, value_sum, Step}
use Rattle.dover_model.specs.Common.{Each, Keeps, Settles, is_ready}
use Rattle.waiting_pool.specs.Reordered.{IsReordered}
use Rattle.ready_jobs.specs.Parts.{Parted, ready_of}

-- these are the jobs that aren't over, of these jobs in this state
pub record PartOf (p : Parted) (J : Instance) (z : State) : Type 0 where
  pub valid : IsValid J
  pub keeps : Keeps J z
  pub version : J.rules.version ≡ p.version
  pub clock : z.clock ≡ p.clock
  pub pressed : z.pressed ≡ p.pressed
  pub ready : IsReordered (filter is_ready z.tasks) (ready_of p)
  pub released : Each (λ t. is_coming t ≡ false) z.tasks

-- they are those of some jobs in some state
abbrev pub IsPart : Rules → Parted → Type 0
IsPart rules p = (J : Instance) × (z : State) × PartOf p J z × (J.rules ≡ rules)

-- silent steps, each before any late one at the mark or after it, lead from z to where these are its jobs; no job is
-- done by them
pub record SettlesTo (p : Parted) (J : Instance) (z : State) (mark : ℕ) : Type 0 where
  pub state : State
  pub steps : List Step
  pub settles : Settles J.rules mark z steps state
  pub part : PartOf p J state
  pub done : value_sum (filter is_done state.tasks) ≡ value_sum (filter is_done z.tasks)

-- they do from whatever state these are the jobs of, to where those are
abbrev pub SettlesFrom : Fraction → ℕ → (p q : Parted) → Type 0
SettlesFrom k mark p q = (J : Instance) (z : State) → J.rules ≡ record { ratio = k; version = p.version; finishes = [] }
    → PartOf p J z → SettlesTo q J z mark
