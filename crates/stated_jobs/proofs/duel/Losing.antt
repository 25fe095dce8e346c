-- Within the limits each on-line scheduler loses on a front of the duel's jobs.
use Rattle.std.proofs.Common.{◌≡◌, ℕ, ◌≤◌, sym, subst, length, arith}
use Rattle.dover_model.specs.declared.events.Version.{Version}
use Rattle.dover_model.specs.declared.events.Version.TheVariants.{One}
use Rattle.dover_model.specs.Common.{Fraction, most_jobs}
use Rattle.stated_jobs.specs.duel.Game.{Scheduler, IsOnline, AreValid, LosesOnFront}
use Rattle.stated_jobs.specs.duel.Jobs.{jobs_of_links, first_link, duel_jobs}
use Rattle.stated_jobs.proofs.duel.Phases.{jobs_from}
use Rattle.stated_jobs.proofs.duel.Chain.{phases_of, last_of, as_phases, traps_of, first_cheap}
use Rattle.stated_jobs.proofs.duel.Duel.{valid_ones_do}
use Rattle.dover_model.proofs.valid.ValidParts.{valid_parts}
use Rattle.dover_model.proofs.valid.JobLimits.{ratio_limits}

-- the jobs of at most so many links
links_lose : (version : Version) (k : Fraction) (a b more : ℕ) (scheduler : Scheduler) → 1 ≤ b
    → AreValid version k (jobs_of_links k a b more (first_link k a b))
    → length (jobs_of_links k a b more (first_link k a b)) ≤ more
    → IsOnline (AreValid version k) scheduler
    → LosesOnFront k a b scheduler (jobs_of_links k a b more (first_link k a b))
links_lose version k a b more scheduler some_b valid few online =
    subst (λ js. LosesOnFront k a b scheduler js) (sym same)
    (valid_ones_do version k a b scheduler (phases_of k a b more (first_link k a b))
    (last_of k a b more (first_link k a b)) some_b
    (traps_of k a b (ratio_limits (valid_parts valid).ratio).least some_b more (first_link k a b) (omega arith)
    (first_cheap k a b (ratio_limits (valid_parts valid).ratio).least some_b) few)
    (subst (λ js. AreValid version k js) same valid) online) where
      same : jobs_of_links k a b more (first_link k a b) ≡ jobs_from k.p k.q 0 (phases_of k a b more (first_link k a b))
          (last_of k a b more (first_link k a b))
      same = as_phases k a b more (first_link k a b) (omega arith)

pub each_loses : (version : Version) (k : Fraction) (a b : ℕ) (scheduler : Scheduler) → 1 ≤ b
    → AreValid version k (duel_jobs k a b) → length (duel_jobs k a b) ≤ most_jobs One
    → IsOnline (AreValid version k) scheduler
    → LosesOnFront k a b scheduler (duel_jobs k a b)
each_loses version k a b scheduler some_b valid few online =
    links_lose version k a b 1_000_000 scheduler some_b valid few online
