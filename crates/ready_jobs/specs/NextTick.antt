-- The tick at which the run prints its next step.
use Rattle.std.specs.Prelude.{◌≡◌, ℕ, [], false}
use Rattle.dover_model.specs.declared.events.Event.{Event}
use Rattle.dover_model.specs.declared.events.Role.TheVariants.{Fresh}
use Rattle.dover_model.specs.Common.{Prints, is_end, Each, NoneRuns}
use Rattle.ready_jobs.specs.Course.{Course, ComesNext}

-- no ready job is fresh, and one runs where any is ready
pub record IsUnderWay (c : Course) : Type 0 where
  pub decided : Each (λ t. t.role ≡ Fresh → ⊥) c.ready
  pub busy : NoneRuns c.ready → c.ready ≡ []

-- silent steps lead to this tick, where a step is printed that isn't the End, if no further job comes
pub record PrintsAt (c : Course) (tick : ℕ) : Type 0 where
  pub event : Event
  pub goes_on : is_end (Prints event) ≡ false
  pub there : Course
  pub comes : ComesNext c there event
  pub clock : there.clock ≡ tick
