-- The steps on the way to a horizon, as they are shown.
use Rattle.std.proofs.Common.{◌≤◌, ◌+◌, ℕ, List, [], ◌∷◌, ◌++◌, length, arith, length-append}
use Rattle.dover_model.specs.declared.events.Event.{Event}
use Rattle.dover_model.specs.Common.{Instance, IsValid, Begins, MayFollow, due_by}
use Rattle.dover_model.proofs.lists.Beginnings.{begins_length}
use Rattle.dover_model.specs.declared.horizon.Horizon.{Horizon}
use Rattle.dover_model.proofs.settled.Horizons.{follows_on, due_few}
use Rattle.dover_model.proofs.valid.Limiting.{jobs_most}
use Rattle.ready_server.specs.Running.{HasShown}
use Rattle.ready_server.specs.Serving.{Serves}
use Rattle.ready_server.specs.declared.server.ReadyServer.{ReadyServer}

-- on the way to the horizon so many steps, or more, were shown
pub record IsShowing {W : Type 0} (seen : W → List Event → Type 0) (server : ReadyServer) (watcher : W)
    (J : Instance) (to : Horizon) (count : ℕ) : Type 0 where
  pub from : Horizon
  pub follows : MayFollow from to
  pub so_far : HasShown seen server watcher J from
  pub many : count ≤ length so_far.events

module _ (valid : (s : ReadyServer) (J : Instance) (to : Horizon) (events : List Event) → Serves s J to events
    → IsValid J)
    (begins : (s : ReadyServer) (J : Instance) (to : Horizon) (events : List Event) → Serves s J to events
    → Begins events (due_by J to)) where
  -- what was printed is few steps
  pub served_few : (v : ReadyServer) (J : Instance) (to : Horizon) (events : List Event) → Serves v J to events
      → length events ≤ 20_000_000_001
  served_few v J to events served = omega (
    arith,
    begins_length events (due_by J to) (begins v J to events served),
    due_few J to (valid v J to events served),
    jobs_most J.rules.version,
  )

  -- so there were fewer before the last
  pub room_before : (v : ReadyServer) (J : Instance) (to : Horizon) (events : List Event) (e : Event)
      → Serves v J to (events ++ e ∷ []) → length events ≤ 20_000_000_000
  room_before v J to events e served =
      omega (arith, served_few v J to (events ++ e ∷ []) served, length-append events (e ∷ []))

-- with one step more
pub showing_more : {W : Type 0} {seen : W → List Event → Type 0} (v u : ReadyServer) (w x : W)
    (J : Instance) (to : Horizon) (count : ℕ) (it : IsShowing seen v w J to count) (e : Event)
    → Serves u J to (it.so_far.events ++ e ∷ []) → seen x (it.so_far.events ++ e ∷ [])
    → IsShowing seen u x J to (count + 1)
showing_more v u w x J to count it e served shown = record {
  from = to;
  follows = follows_on it.from to it.follows;
  so_far = record { events = it.so_far.events ++ e ∷ []; served = served; shown = shown };
  many = omega (arith, it.many, length-append it.so_far.events (e ∷ []));
}
