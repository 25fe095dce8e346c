-- A state of the machine on several processors: a clock, and for each job its role, the ticks that it has had, and its
-- processor.
use Rattle.std.specs.Prelude.{ℕ, List, map, Bool, false, ◌&&◌, ◌==◌, not}
use Rattle.std.specs.Prelude.{if◌then◌else◌}
use Rattle.dover_model.specs.declared.events.Role.TheVariants.{Done}
use Rattle.dover_model.specs.declared.events.Task.{Task}
use Rattle.dover_model.specs.JobFacts.{JobFacts}
use Rattle.dover_model.specs.State.{is_privileged, to_come}
use Rattle.dover_model.specs.State as single
use Rattle.dover_model.specs.Step.{with_role}

-- a job, with the processor that it runs on or is held on
pub record Placed : Type 0 where
  pub task : Task
  pub owner : ℕ

-- a clock and the jobs
pub record State : Type 0 where
  pub clock : ℕ
  pub jobs : List Placed
  pub pressed : Bool  -- a job was abandoned, and since then each completion left a job that waits or is held

-- a job on no processor
abbrev pub unplaced : Task → Placed
unplaced t = record { task = t; owner = 0 }

-- the state in which a run begins
abbrev pub opening : List JobFacts → State
opening jobs = record { clock = 0; jobs = map unplaced (to_come 0 jobs); pressed = false }

-- the jobs as tasks
abbrev pub tasks_of : List Placed → List Task
tasks_of jobs = map (λ p. p.task) jobs

-- for processor q the job is over: it runs on another processor, or is held on another
abbrev pub is_elsewhere : ℕ → Placed → Bool
is_elsewhere q p = is_privileged p.task && not (p.owner == q)

-- the job as processor q sees it
abbrev pub seen_by : ℕ → Placed → Task
seen_by q p = if is_elsewhere q p then with_role p.task Done else p.task

-- the state as processor q sees it: one of the machine on one processor
abbrev pub seen_from : ℕ → State → single.State
seen_from q s = record { clock = s.clock; tasks = map (seen_by q) s.jobs; pressed = s.pressed }
