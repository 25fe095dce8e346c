-- The jobs of a run on several processors as they were observed: what a completed job had stands for its work.
use Rattle.std.specs.Prelude.{ℕ, map, fold}
use Rattle.dover_model.specs.Instance.{Instance}
use Rattle.dover_model.specs.Observed.{observing}
use Rattle.many_processors.specs.State.{State, opening, tasks_of}
use Rattle.many_processors.specs.Run.{run}

-- the state in which the last step of a run is taken
abbrev pub end_state : ℕ → Instance → State
end_state processors J = fold (λ s x. x.before) (opening J.jobs) (run processors J)

-- the instance of such jobs, at the end of the run
abbrev pub observed : ℕ → Instance → Instance
observed processors J = record {
  rules = J.rules;
  jobs = map observing (tasks_of (end_state processors J).jobs);
}
