-- A job at a moment, as it is kept in little room.
use Rattle.std.specs.Prelude.{ℕ, ◌^◌, ◌-◌}
use Rattle.dover_model.specs.JobFacts.{JobFacts, IsJob, job_of_numbers}
use Rattle.dover_model.specs.Packing.{joined}
use Rattle.dover_model.specs.declared.events.Task.{Task}
use Rattle.waiting_pool.specs.declared.short.ShortTask.TheInside.{Inside}

-- the number of no job
abbrev pub no_number : ℕ
no_number = 2 ^ 32 - 1

-- what the fields stand for
abbrev pub job_in : Inside → JobFacts
job_in s = job_of_numbers s.release (joined s.work s.work_high) s.deadline s.value

abbrev pub task_in : Inside → Task
task_in s = record { number = s.number; job = job_in s; role = s.role; had = s.had }

-- a job that is kept is within the limits
abbrev pub IsShort : Inside → Type 0
IsShort s = IsJob (job_in s)
