-- What every state of a run on several processors keeps.
use Rattle.std.specs.Prelude.{◌≡◌, ℕ, ◌<◌, true}
use Rattle.dover_model.specs.Instance.{Instance}
use Rattle.dover_model.specs.State.{is_privileged}
use Rattle.dover_model.specs.Sound.{Each, IsSound, jobs_of}
use Rattle.many_processors.specs.State.{State, tasks_of, seen_from}

-- where the jobs are, on so many processors
pub record ArePlaced (processors : ℕ) (s : State) : Type 0 where
  pub owners : Each (λ p. is_privileged p.task ≡ true → p.owner < processors) s.jobs

-- a state of the jobs of an instance that is sound as each processor sees it
pub record Keeps (processors : ℕ) (J : Instance) (s : State) : Type 0 where
  pub sound : (q : ℕ) → IsSound (seen_from q s)
  pub jobs : jobs_of (tasks_of s.jobs) ≡ J.jobs
  pub placed : ArePlaced processors s
