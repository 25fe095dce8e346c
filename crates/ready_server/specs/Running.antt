-- How far a list was run, and what was shown of it.
use Rattle.std.specs.Prelude.{ℕ, ◌≤◌, List, [], ◌∷◌, Option, Some, None}
use Rattle.std.specs.List.{AllByRecursion}
use Rattle.dover_model.specs.declared.events.Event.{Event}
use Rattle.dover_model.specs.Common.{Instance, IsValid, with_jobs, with_finishes, JobFacts, EarlyFinish, finish_at}
use Rattle.dover_model.specs.Common.{MayFollow}
use Rattle.dover_model.specs.declared.horizon.Horizon.{Horizon}
use Rattle.dover_model.specs.declared.horizon.Horizon.TheVariants.{Mark, End}
use Rattle.ready_server.specs.Serving.{Serves}
use Rattle.ready_server.specs.declared.server.ReadyServer.{ReadyServer}

-- The server has taken the run of these jobs towards the horizon, and the watcher has seen what it printed.
pub record HasShown {W : Type 0}
    (seen : W → List Event → Type 0) (server : ReadyServer) (watcher : W) (J : Instance) (to : Horizon) : Type 0 where
  pub events : List Event
  pub served : Serves server J to events
  pub shown : seen watcher events

-- these jobs may be fed behind those of J, where the horizon is this one
pub record CanFeed (J : Instance) (to : Horizon) (jobs : List JobFacts) : Type 0 where
  pub valid : IsValid (with_jobs J jobs)
  pub follow : AllByRecursion (λ j. MayFollow to (Mark j.release)) jobs
  pub ends : MayFollow to End

-- a tick may follow the horizon, and the release of each of these jobs
abbrev pub MayReach : Horizon → List JobFacts → ℕ → Type 0
MayReach from jobs t = MayFollow from (Mark t) × AllByRecursion (λ j. j.release ≤ t) jobs

-- The jobs were fed behind others, at this horizon, and the watcher has seen what was printed. What may follow them may
-- come next.
pub record HasFed {W : Type 0} (seen : W → List Event → Type 0) (server : ReadyServer) (watcher : W)
    (J : Instance) (from : Horizon) (jobs : List JobFacts) : Type 0 where
  pub to : Horizon
  pub shown : HasShown seen server watcher (with_jobs J jobs) to
  pub reach : (t : ℕ) → MayReach from jobs t → MayFollow to (Mark t)
  pub ends : MayFollow to End

-- the jobs with a finish, if it is one
abbrev pub with_finish : Instance → Option EarlyFinish → Instance
with_finish J None = J
with_finish J (Some f) = with_finishes J (f.finish ∷ [])

-- the jobs, where that of a number finishes at a tick if that is right
abbrev pub finished_at : Instance → (at number : ℕ) → Instance
finished_at J at number = with_finish J (finish_at J at number)
