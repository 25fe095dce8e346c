-- When a run prints its next step.
use Rattle.std.specs.Prelude.{◌≡◌, ◌≤◌, ◌<◌, ℕ, List, ◌∷◌, ◌++◌, false}
use Rattle.dover_model.specs.declared.events.Event.{Event}
use Rattle.dover_model.specs.Common.{Instance, is_end, printed, settled, tick_of_event, Prints}

-- These events are settled at the mark, and nothing more is at any later one before the tick. What the run of these
-- jobs prints next is of the tick, and isn't the End.
pub record ComesAt (J : Instance) (mark : ℕ) (events : List Event) (tick : ℕ) : Type 0 where
  pub quiet : (later : ℕ) → mark ≤ later → later < tick → settled J later ≡ events
  pub next : Event
  pub rest : List Event
  pub prints : printed J ≡ events ++ next ∷ rest
  pub at : tick_of_event next ≡ tick
  pub goes_on : is_end (Prints next) ≡ false
