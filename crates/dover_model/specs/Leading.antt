-- Steps that lead from one state of a run to another.
use Rattle.std.specs.Prelude.{◌≡◌, false, None, ℕ, List, ◌∷◌, suc, if◌then◌else◌, []}
use Rattle.std.specs.List.{list_all}
use Rattle.dover_model.specs.State.{State, is_over}
use Rattle.dover_model.specs.Step.{Move, open_step, after, Prints, step}
use Rattle.dover_model.specs.Run.{event_of, Step}
use Rattle.dover_model.specs.Instance.{Rules}
use Rattle.dover_model.specs.WholeRun.{open_at, IsBefore, IsBarrier}
use Rattle.dover_model.specs.declared.events.Event.{Event}
use Rattle.dover_model.specs.Settled.{waits_for_mark}

-- some job isn't done or gone
abbrev pub GoesOn : State → Type 0
GoesOn s = list_all is_over s.tasks ≡ false

-- the step prints nothing
abbrev pub IsSilent : Move → Type 0
IsSilent m = event_of m ≡ None

-- these open steps lead from s to z, each before any late one at the mark or after it
abbrev pub Passes : Rules → ℕ → State → List Step → State → Type 0
Passes rules mark s [] z = s ≡ z
Passes rules mark s (x ∷ xs) z = (x ≡ open_at rules s) × IsBefore rules mark s
    × Passes rules mark (after s (open_step rules s)) xs z

-- the same, while some job isn't over
abbrev pub Leads : Rules → ℕ → State → List Step → State → Type 0
Leads rules mark s [] z = s ≡ z
Leads rules mark s (x ∷ xs) z =
    (x ≡ open_at rules s) × IsBefore rules mark s × GoesOn s × Leads rules mark (after s (open_step rules s)) xs z

-- these silent open steps lead from s to z, each before any late one at the mark or after it
abbrev pub Settles : Rules → ℕ → State → List Step → State → Type 0
Settles rules mark s [] z = s ≡ z
Settles rules mark s (x ∷ xs) z =
    (x ≡ open_at rules s) × IsBefore rules mark s × IsSilent (open_step rules s)
    × Settles rules mark (after s (open_step rules s)) xs z

-- these silent open steps lead from s to z, while some job isn't over
abbrev pub Idles : Rules → State → List Step → State → Type 0
Idles rules s [] z = s ≡ z
Idles rules s (x ∷ xs) z =
    (x ≡ open_at rules s) × IsSilent (open_step rules s) × GoesOn s × Idles rules (after s (open_step rules s)) xs z

-- the silent steps from s reach the barrier of the mark at z
pub record WaitsUntil (rules : Rules) (mark : ℕ) (s z : State) : Type 0 where
  pub steps : List Step
  pub settles : Settles rules mark s steps z
  pub barrier : IsBarrier rules mark z

-- the silent steps from s reach z, where the run prints e
pub record PrintsNext (rules : Rules) (s : State) (e : Event) (z : State) : Type 0 where
  pub steps : List Step
  pub idles : Idles rules s steps z
  pub prints : step rules z ≡ Prints e

-- the least tick at which the event is settled, right after it is printed
abbrev pub floor_after : State → Event → ℕ
floor_after z e = if waits_for_mark (Prints e) then suc z.clock else z.clock
