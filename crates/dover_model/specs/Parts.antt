-- Jobs that are parted into lists.
use Rattle.std.specs.Prelude.{ℕ, ◌==◌, List, map}
use Rattle.std.specs.List.{filter, enumerate_from, sum_by}
use Rattle.dover_model.specs.JobFacts.{JobFacts}
use Rattle.dover_model.specs.Instance.{Rules, Instance}
use Rattle.dover_model.specs.Run.{completed_value}
use Rattle.dover_model.specs.Bound.{bound}
use Rattle.dover_model.specs.Sound.{IsMember, Each}

-- the jobs of a part, in their order: those whose numbers the owner gives to it
abbrev pub part_of : (ℕ → ℕ) → ℕ → List JobFacts → List JobFacts
part_of owner part jobs = map (λ n_j. n_j.1) (filter (λ n_j. owner n_j.0 == part) (enumerate_from 0 jobs))

-- the owner gives each job to one of these parts
abbrev pub IsParted : (ℕ → ℕ) → List ℕ → List JobFacts → Type 0
IsParted owner parts jobs = Each (λ n_j. IsMember (owner n_j.0) parts) (enumerate_from 0 jobs)

-- the instance of one part, under rules of its own
abbrev pub part_under : (ℕ → Rules) → (ℕ → ℕ) → List JobFacts → ℕ → Instance
part_under rules owner jobs part = record { rules = rules part; jobs = part_of owner part jobs }

-- the sum of what the runs of the parts complete
abbrev pub completed_in_parts : (ℕ → Rules) → (ℕ → ℕ) → List ℕ → List JobFacts → ℕ
completed_in_parts rules owner parts jobs = sum_by (λ part. completed_value (part_under rules owner jobs part)) parts

-- the sum of their bounds
abbrev pub bounds_of_parts : (ℕ → Rules) → (ℕ → ℕ) → List ℕ → List JobFacts → ℕ
bounds_of_parts rules owner parts jobs =
    sum_by (λ part. bound (rules part).ratio (completed_value (part_under rules owner jobs part))) parts
