-- What the two policies make of some lists, beside the machine, by computation.
use Rattle.std.proofs.Common.{◌≡◌, ℕ, List, [], ◌∷◌, refl}
use Rattle.dover_model.specs.Common.{Instance, completed_value, worth}
use Rattle.dover_model.proofs.rows.Written.{job, one}
use Rattle.policy_lab.specs.PolicyRun.{policy_run}
use Rattle.policy_lab.specs.Standard.{earliest_deadline, greatest_density}

-- what the machine's run is worth, and the schedules of the two policies
abbrev values : Instance → List ℕ
values J = completed_value J ∷ worth J (policy_run earliest_deadline J.jobs) ∷ worth J
    (policy_run greatest_density J.jobs) ∷ []

-- a job that the machine takes late
taken : values (one 1 1 (job 0 10 10 10 ∷ job 0 21 21 21 ∷ [])) ≡ 21 ∷ 10 ∷ 10 ∷ []
taken = refl

-- a job of greater density that isn't heavy
dense : values (one 4 1 (job 0 4 4 4 ∷ job 1 3 5 12 ∷ [])) ≡ 4 ∷ 4 ∷ 12 ∷ []
dense = refl

-- ticks before, between and behind jobs are idle
by_deadline : policy_run earliest_deadline (job 1 2 4 2 ∷ job 1 3 9 6 ∷ job 3 2 5 5 ∷ job 9 1 10 1 ∷ [])
    ≡ 4_000_000_000 ∷ 0 ∷ 0 ∷ 2 ∷ 2 ∷ 1 ∷ 1 ∷ 1 ∷ 4_000_000_000 ∷ 3 ∷ []
by_deadline = refl

-- the denser job runs, and then the others are late
by_density : policy_run greatest_density (job 1 2 4 2 ∷ job 1 3 9 6 ∷ job 3 2 5 5 ∷ job 9 1 10 1 ∷ [])
    ≡ 4_000_000_000 ∷ 1 ∷ 1 ∷ 1 ∷ 4_000_000_000 ∷ 4_000_000_000 ∷ 4_000_000_000 ∷ 4_000_000_000 ∷ 4_000_000_000 ∷ 3 ∷ []
by_density = refl

-- of jobs of one deadline, and of one density, the first runs
equal_deadlines : policy_run earliest_deadline (job 0 1 3 1 ∷ job 0 1 3 1 ∷ []) ≡ 0 ∷ 1 ∷ 4_000_000_000 ∷ []
equal_deadlines = refl

equal_densities : policy_run greatest_density (job 0 1 3 2 ∷ job 0 2 3 4 ∷ []) ≡ 0 ∷ 1 ∷ 1 ∷ []
equal_densities = refl
