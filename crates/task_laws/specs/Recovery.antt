-- How long a run takes to come to rest, by the work that is released.
use Rattle.std.specs.Prelude.{◌≡◌, ℕ, ◌≤◌, ◌⊎◌, true, ◌&&◌, nat_lt, if◌then◌else◌}
use Rattle.dover_model.specs.JobFacts.{JobFacts}
use Rattle.dover_model.specs.Instance.{Instance}
use Rattle.dover_model.specs.State.{is_over, is_coming}
use Rattle.dover_model.specs.Sound.{IsMember, Each}
use Rattle.dover_model.specs.Run.{Step, run}

-- the work of a job that is released before one tick, and due behind another
abbrev pub work_due_behind : (due until : ℕ) → JobFacts → ℕ
work_due_behind due until j = if nat_lt j.release until && nat_lt due j.deadline then j.work else 0

-- at this tick of the run each job is over, or comes at the tick or later (where the run ends before, all are over)
abbrev pub RestsAt : Instance → ℕ → Type 0
RestsAt J tick = (x : Step) × IsMember x (run J) × (x.before.clock ≤ tick)
    × Each (λ t. (is_over t ≡ true) ⊎ ((is_coming t ≡ true) × (tick ≤ t.job.release))) x.before.tasks

-- some tick from one to another is such a one
abbrev pub RestsWithin : Instance → (from until : ℕ) → Type 0
RestsWithin J from until = (tick : ℕ) × (from ≤ tick) × (tick ≤ until) × RestsAt J tick
