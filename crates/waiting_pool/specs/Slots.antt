-- A place, in which a job waits or none.
use Rattle.std.specs.Prelude.{◌==◌, if◌then◌else◌, Option, Some, None, option_map}
use denote.Ref.{Bor}
use Rattle.dover_model.specs.declared.events.Task.{Task}
use Rattle.waiting_pool.specs.Short.{no_number}

-- the job, or none where it has the number of none
abbrev pub job_or_none : Task → Option Task
job_or_none t = if t.number == no_number then None else Some t

-- the job that is looked at, if one is
abbrev pub seen : Option (Bor Task) → Option Task
seen o = option_map (λ t. t.now) o
