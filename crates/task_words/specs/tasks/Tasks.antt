-- Periodic tasks, and the jobs that they release.
use Rattle.std.specs.Prelude.{ℕ, zero, suc, ◌+◌, ◌-◌, ◌*◌, ◌%◌, List, [], ◌++◌, map, Bool, ◌&&◌, ◌==◌, nat_le, filter}
use Rattle.std.specs.Int.{div_ceil}
use Rattle.dover_model.specs.Common.{JobFacts, job_of_numbers, Declaration, under, Instance}
use Rattle.task_words.specs.declared.tasks.task.PeriodicTask.{PeriodicTask}

-- ---- the jobs of tasks

-- a job is released at this tick: the first at the offset, and one more each period
abbrev pub releases : PeriodicTask → (tick : ℕ) → Bool
releases task tick = nat_le task.offset tick && ((tick - task.offset) % task.period == 0)

-- the job that the task releases at a tick
abbrev pub job_at : PeriodicTask → (tick : ℕ) → JobFacts
job_at task tick = job_of_numbers tick task.work (tick + task.deadline) task.value

-- the jobs that are released at a tick, in the order of the tasks
abbrev pub released_at : (tick : ℕ) → List PeriodicTask → List JobFacts
released_at tick tasks = map (λ task. job_at task tick) (filter (λ task. releases task tick) tasks)

-- the jobs that are released before a tick: those before the last tick, and then those at it
abbrev pub jobs_before : (until : ℕ) → List PeriodicTask → List JobFacts
jobs_before zero tasks = []
jobs_before (suc tick) tasks = jobs_before tick tasks ++ released_at tick tasks

-- ---- how many, and the last

-- how many jobs a task releases before a tick
abbrev pub count_before : (until : ℕ) → PeriodicTask → ℕ
count_before until task = div_ceil (until - task.offset) task.period

-- the job that a task is tested by: its last one before a tick, or its first where none is before it
abbrev pub tested_job : (until : ℕ) → PeriodicTask → JobFacts
tested_job until task = job_at task (task.offset + (count_before until task - 1) * task.period)

-- the jobs that the tasks release before a tick, under these rules
abbrev pub unrolled : (until : ℕ) → Declaration → List PeriodicTask → Instance
unrolled until rules tasks = record { rules = under rules []; jobs = jobs_before until tasks }
