-- Clairvoyant schedules of many processors: place t of a list has the numbers of the jobs that tick t is given to. A
-- job may go on on another processor. No queue, no decision.
use Rattle.std.specs.Prelude.{ℕ, ◌≤◌, List, take, drop, length, Bool, ◌==◌, nat_le, if◌then◌else◌}
use Rattle.std.specs.List.{count_by, sum_by, list_any}
use Rattle.dover_model.specs.JobFacts.{JobFacts}
use Rattle.dover_model.specs.Sound.{Each}

-- n is one of the numbers
abbrev pub is_named : ℕ → List ℕ → Bool
is_named n numbers = list_any (λ m. m == n) numbers

-- each tick is given to at most so many jobs
abbrev pub IsFor : ℕ → List (List ℕ) → Type 0
IsFor processors schedule = Each (λ numbers. length numbers ≤ processors) schedule

-- how many ticks from a job's release to its deadline the schedule gives to number n
abbrev pub ticks_given : List (List ℕ) → ℕ → JobFacts → ℕ
ticks_given schedule n j = count_by (is_named n) (drop j.release (take j.deadline schedule))

-- whether the job of number n gets all of its work within its window
abbrev pub is_served : List (List ℕ) → ℕ × JobFacts → Bool
is_served schedule (n, j) = nat_le j.work (ticks_given schedule n j)

-- what the schedule earns by this job
abbrev pub earned : List (List ℕ) → ℕ × JobFacts → ℕ
earned schedule (n, j) = if is_served schedule (n, j) then j.value else 0

-- the sum of the values of the served ones of these jobs
abbrev pub worth : List (ℕ × JobFacts) → List (List ℕ) → ℕ
worth jobs schedule = sum_by (earned schedule) jobs
