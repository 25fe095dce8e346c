-- What the ready jobs do next, as a step.
use Rattle.std.specs.Prelude.{◌≡◌, ℕ, Some, None}
use Rattle.dover_model.specs.declared.events.Event.{Event}
use Rattle.dover_model.specs.declared.events.Event.TheVariants as event
use Rattle.dover_model.specs.declared.events.Task.{Task}
use Rattle.dover_model.specs.Step.{View, Move, Prints, Waits, Ticks, view}
use Rattle.ready_jobs.specs.declared.actions.Action.{Action}
use Rattle.ready_jobs.specs.declared.actions.Action.TheVariants.{Resume, Start, Begin, Preempt, Take, Complete, Abandon}
use Rattle.ready_jobs.specs.declared.actions.Action.TheVariants.{Wait, Tick}
use Rattle.ready_jobs.specs.Parts.{Parted, state_of}
use Rattle.ready_jobs.specs.Changed.{IsNext}

-- the step at this tick
abbrev pub step_at : ℕ → Action → Move
step_at at (Resume number) = Prints (event.Run at number)
step_at at (Start number) = Prints (event.Run at number)
step_at at (Begin number) = Prints (event.Run at number)
step_at at (Preempt stops starts) = Prints (event.Preempt at stops starts)
step_at at (Take stops starts) = Prints (event.Take at stops starts)
step_at at (Complete number) = Prints (event.Complete at number)
step_at at (Abandon number) = Prints (event.Abandon at number)
step_at at (Wait number) = Waits number
step_at at Tick = Ticks

-- the job that gets the processor is seen where the deed says: held, waiting or, where none is either, fresh
abbrev pub Finds : View → Action → Type 0
Finds v (Resume number) = (t : Task) × (v.first_held ≡ Some t) × (t.number ≡ number)
Finds v (Start number) = (t : Task) × (v.first_waiting ≡ Some t) × (t.number ≡ number)
Finds v (Begin number) = (v.first_held ≡ None) × (v.first_waiting ≡ None)
Finds v _ = Unit {0}

-- the deed of these jobs is their open step, which prints e
pub record Does (p : Parted) (deed : Action) (e : Event) : Type 0 where
  pub prints : step_at p.clock deed ≡ Prints e
  pub next : IsNext p e
  pub finds : Finds (view p.version (state_of p)) deed
