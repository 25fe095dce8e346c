-- The jobs of a state that aren't over: all that the next steps depend on.
use Rattle.std.specs.Prelude.{Bool, not, ℕ, ◌∷◌, ◌++◌, [], filter}
use Rattle.dover_model.specs.declared.events.Task.{Task}
use Rattle.dover_model.specs.State.{is_over, State}
use Rattle.dover_model.specs.declared.events.Role.TheVariants.{Fresh}
use Rattle.dover_model.specs.JobFacts.{JobFacts}

-- neither done nor gone
abbrev pub is_ready : Task → Bool
is_ready t = not (is_over t)

-- the state of the jobs that aren't over
abbrev pub ready_part : State → State
ready_part s = record s { tasks = filter is_ready s.tasks }

-- the state with the job of this number, which was released last
abbrev pub with_fresh : State → ℕ → JobFacts → State
with_fresh z n j = record z {
  clock = j.release;
  tasks = z.tasks ++ record {
    number = n;
    job = j;
    role = Fresh;
    had = 0;
  } ∷ [];
}
