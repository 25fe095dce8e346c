-- Lanes: feeds that stand apart, each with a run on a processor of its own, beside schedules of all their jobs
-- together.
use Rattle.std.specs.Prelude.{ℕ, suc, ◌+◌, List, [], ◌∷◌, map, filter, ◌==◌}
use Rattle.dover_model.specs.Instance.{Instance}
use Rattle.dover_model.specs.Schedules.{numbered}
use Rattle.many_processors.specs.Schedules.{worth}

-- A schedule of the jobs of all lanes: place t of the list has the jobs that tick t is given to, each by the number of
-- its lane and its own number there.
abbrev pub LaneSchedule : Type 0
LaneSchedule = List (List (ℕ × ℕ))

-- what it gives to the jobs of lane i
abbrev pub given_to : (i : ℕ) → LaneSchedule → List (List ℕ)
given_to i schedule = map (λ names. map (λ n. n.1) (filter (λ n. n.0 == i) names)) schedule

-- what it is worth by the jobs of these lanes, of which the first is lane i
abbrev pub worth_from : (i : ℕ) → List Instance → LaneSchedule → ℕ
worth_from i [] schedule = 0
worth_from i (J ∷ lanes) schedule = worth (numbered J) (given_to i schedule) + worth_from (suc i) lanes schedule

-- of all lanes
abbrev pub worth_of_lanes : List Instance → LaneSchedule → ℕ
worth_of_lanes lanes schedule = worth_from 0 lanes schedule
