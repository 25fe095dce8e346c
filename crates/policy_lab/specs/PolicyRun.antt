-- The schedule that a policy makes: in each tick it picks from the jobs that are ready.
use Rattle.std.specs.Prelude.{ℕ, zero, suc, ◌+◌, List, [], ◌∷◌, map, Bool, ◌&&◌, nat_lt, nat_le}
use Rattle.std.specs.Prelude.{unwrap_or, filter}
use Rattle.dover_model.specs.Common.{idle, JobFacts, entry_of, to_come, left, last_deadline, given}
use Rattle.dover_model.specs.declared.events.Task.{Task}
use Rattle.policy_lab.specs.Picks.{Picks}

-- released by tick t, not served fully, and still in time
abbrev pub is_ready : ℕ → Task → Bool
is_ready t task = nat_le task.job.release t && nat_lt 0 (left task) && nat_le (t + left task) task.job.deadline

-- the number that is picked at tick t, or the idle number
abbrev pub picked : Picks → ℕ → List Task → ℕ
picked picks t tasks = unwrap_or (picks (map entry_of (filter (is_ready t) tasks))) idle

-- the schedule of so many ticks from tick t on
abbrev pub policy_run_from : Picks → (ticks : ℕ) → ℕ → List Task → List ℕ
policy_run_from picks zero t tasks = []
policy_run_from picks (suc ticks) t tasks =
    let number = picked picks t tasks in number ∷ policy_run_from picks ticks (t + 1) (map (given number) tasks)

-- the schedule up to the greatest deadline
abbrev pub policy_run : Picks → List JobFacts → List ℕ
policy_run picks jobs = policy_run_from picks (last_deadline jobs) 0 (to_come 0 jobs)
