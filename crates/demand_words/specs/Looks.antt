-- What shares of the processor tell, and looks at the windows below a horizon.
use Rattle.std.specs.Prelude.{◌≡◌, ◌≤◌, ◌<◌, ◌*◌, ◌/◌, ◌^◌, ℕ, List}
use Rattle.std.specs.List.{sum_by}
use Rattle.task_laws.specs.Demand.{TaskFacts, demand, AreMet}
use Rattle.demand_words.specs.Demanded.{AreOver, IsHorizon}
use Rattle.demand_words.specs.declared.answers.Demand.{Demand}
use Rattle.demand_words.specs.declared.answers.Demand.TheVariants.{Met, Window, Over, Size}
use Rattle.demand_words.specs.declared.shares.Told.{Told}
use Rattle.demand_words.specs.declared.shares.Told.TheVariants as told

-- more than one tick a tick; or the first horizon by these shares; or there is none below 2^64
abbrev pub SharesTell : List TaskFacts → (scale : ℕ) → Told → Type 0
SharesTell tasks scale told.Over = AreOver tasks
SharesTell tasks scale (told.Horizon horizon) =
    IsHorizon tasks scale horizon × ((x : ℕ) → IsHorizon tasks scale x → horizon ≤ x)
SharesTell tasks scale told.Unknown =
    ((x : ℕ) → IsHorizon tasks scale x → 2 ^ 64 ≤ x) × (sum_by (λ t. scale * t.work / t.distance) tasks ≤ scale)

-- all windows are met, or one isn't, or more than so many lie below the horizon
abbrev pub TellsBelow : List TaskFacts → (horizon looks : ℕ) → Demand → Type 0
TellsBelow tasks horizon looks Met = AreMet tasks
TellsBelow tasks horizon looks (Window ticks work) = (work ≡ demand tasks ticks) × (ticks < work)
TellsBelow tasks horizon looks Over = AreOver tasks
TellsBelow tasks horizon looks Size = looks < horizon
