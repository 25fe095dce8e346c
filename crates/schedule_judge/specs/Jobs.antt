-- The jobs of a schedule, as its lines so far tell of them.
use Rattle.std.specs.Prelude.{ℕ, ◌-◌, List, length, set, Bool, true, false, not, nat_lt, if◌then◌else◌, slice_get}
use Rattle.std.specs.Prelude.{slice_index_or}
use Rattle.std.specs.Option.{option_map_or}
use Rattle.dover_model.specs.JobFacts.{JobFacts}
use Rattle.schedule_judge.specs.declared.jobs.JobState.{JobState}
use Rattle.schedule_judge.specs.declared.jobs.JobState.TheVariants.{Open, Completed, Abandoned}
use Rattle.schedule_judge.specs.declared.jobs.ToldJob.{ToldJob}

-- a job at its release
abbrev pub fresh : JobFacts → ToldJob
fresh j = record { job = j; left = j.work; state = Open }

-- no job
abbrev pub nobody : ToldJob
nobody = record { job = record { release = 0; work = 0; deadline = 0; value = 0 }; left = 0; state = Abandoned }

-- a job that had so many ticks more
abbrev pub ran : ℕ → ToldJob → ToldJob
ran ticks told = record told { left = told.left - ticks }

-- a job of which this became
abbrev pub settled : JobState → ToldJob → ToldJob
settled state told = record told { state = state }

-- the jobs, where this is done to the one of number n, if there is one
abbrev pub told_of : (ToldJob → ToldJob) → List ToldJob → ℕ → List ToldJob
told_of f jobs n = if nat_lt n (length jobs) then set jobs n (f (slice_index_or jobs n nobody)) else jobs

-- neither completed nor abandoned
abbrev pub is_open_state : JobState → Bool
is_open_state Open = true
is_open_state Completed = false
is_open_state Abandoned = false

abbrev pub is_open : ToldJob → Bool
is_open told = is_open_state told.state

-- completed or abandoned
abbrev pub is_over : ToldJob → Bool
is_over told = not (is_open told)

-- the job of number n is released, and neither completed nor abandoned
abbrev pub may_run : List ToldJob → ℕ → Bool
may_run jobs n = option_map_or is_open (slice_get jobs n) false

-- its value, if it completed
abbrev pub value_by : JobState → ℕ → ℕ
value_by Completed value = value
value_by _ value = 0

abbrev pub value_done : ToldJob → ℕ
value_done told = value_by told.state told.job.value
