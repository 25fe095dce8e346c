-- What is said of tasks for all time.
use Rattle.std.specs.Prelude.{◌≡◌, ℕ, ◌-◌, ◌^◌, min, List, [], ◌∷◌, ◌++◌, codes}
use Rattle.dover_model.specs.Lines.{with_numbers}
use Rattle.dover_port.specs.declared.status.Status.{Status}
use Rattle.dover_port.specs.declared.status.Status.TheVariants.{Done, No, Refused}
use Rattle.task_laws.specs.Demand.{TaskFacts}
use Rattle.demand_words.specs.Demanded.{Tells}
use Rattle.demand_words.specs.declared.answers.Demand.{Demand}
use Rattle.demand_words.specs.declared.answers.Demand.TheVariants.{Met, Window, Over, Size}

-- the answer is yes, or no, or the tasks are refused
abbrev pub status_of : Demand → Status
status_of Met = Done
status_of (Window ticks work) = No
status_of Over = No
status_of Size = Refused

-- the line that says it; work of 2^64 ticks or more is given as 2^64 - 1
abbrev pub told_line : Demand → List ℕ
told_line Met = with_numbers (codes "met") []
told_line (Window ticks work) = with_numbers (codes "window") (ticks ∷ min work (2 ^ 64 - 1) ∷ [])
told_line Over = with_numbers (codes "over") []
told_line Size = with_numbers (codes "refused size") []

-- what the test tells, with its status
abbrev pub SaysDemand : List TaskFacts → Status → List ℕ → Type 0
SaysDemand tasks status text =
    (told : Demand) × Tells tasks told × (status ≡ status_of told) × (text ≡ told_line told ++ 10 ∷ [])
