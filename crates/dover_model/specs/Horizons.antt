-- What a run prints up to a horizon, and what an answer of who serves it says.
use Rattle.std.specs.Prelude.{◌≤◌, List, ◌≡◌, ◌∷◌, ◌++◌, Option, Some, None, Bool, true, false, []}
use Rattle.dover_model.specs.Limits.{last_tick}
use Rattle.dover_model.specs.declared.horizon.Horizon.{Horizon}
use Rattle.dover_model.specs.declared.horizon.Horizon.TheVariants.{Mark, End}
use Rattle.dover_model.specs.declared.events.Version.{Version}
use Rattle.dover_model.specs.Fraction.{Fraction}
use Rattle.dover_model.specs.Instance.{Instance, jobs_under}
use Rattle.dover_model.specs.declared.events.Event.{Event}
use Rattle.dover_model.specs.Run.{printed, is_end}
use Rattle.dover_model.specs.Settled.{settled}
use Rattle.dover_model.specs.Step.{Prints}

-- marks never fall and are at most the last tick, and the end is for good
abbrev pub MayFollow : Horizon → Horizon → Type 0
MayFollow (Mark m) (Mark t) = (m ≤ t) × (t ≤ last_tick)
MayFollow (Mark m) End = Unit {0}
MayFollow End (Mark t) = ⊥
MayFollow End End = Unit {0}

-- no jobs, under these rules
abbrev pub no_jobs : Version → Fraction → Instance
no_jobs version k = jobs_under version k []

-- what the run of these jobs prints up to a horizon: what is settled at the mark, or all
abbrev pub due_by : Instance → Horizon → List Event
due_by J (Mark t) = settled J t
due_by J End = printed J

-- The answer after these events: the next one, and then it has printed that too; or None, and then these are all up to
-- the horizon, where it rests.
abbrev pub Gives : (List Event → Type 0) → Type 0 → List Event → List Event → Option Event → Type 0
Gives has_printed rests due before (Some e) = has_printed (before ++ e ∷ [])
Gives has_printed rests due before None = (before ≡ due) × rests

-- a mark is reached where a step to it answers None
abbrev pub is_ready_after : Horizon → Option Event → Bool
is_ready_after (Mark t) None = true
is_ready_after (Mark t) (Some e) = false
is_ready_after End answer = false

-- End is given
abbrev pub is_end_given : Option Event → Bool
is_end_given None = false
is_end_given (Some e) = is_end (Prints e)
