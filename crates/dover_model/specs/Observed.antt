-- The jobs of a run as they were observed: what a completed job had stands for its work.
use Rattle.std.specs.Prelude.{ℕ, List, map, if◌then◌else◌, fold}
use Rattle.dover_model.specs.declared.events.Task.{Task}
use Rattle.dover_model.specs.JobFacts.{JobFacts}
use Rattle.dover_model.specs.Instance.{Instance}
use Rattle.dover_model.specs.State.{State, opening, is_done}
use Rattle.dover_model.specs.Run.{run}

-- the state in which the last step of a run is taken
abbrev pub end_state : Instance → State
end_state J = fold (λ s x. x.before) (opening J.jobs) (run J)

-- the ticks that each job has had by then, by number
abbrev pub served : Instance → List ℕ
served J = map (λ t. t.had) (end_state J).tasks

-- the job that asks for what it had, where it is done, and for all its work otherwise
abbrev pub observing : Task → JobFacts
observing t = record {
  release = t.job.release;
  work = if is_done t then t.had else t.job.work;
  deadline = t.job.deadline;
  value = t.job.value;
}

-- the instance of such jobs, at the end of the run
abbrev pub observed : Instance → Instance
observed J = record { rules = J.rules; jobs = map observing (end_state J).tasks }
