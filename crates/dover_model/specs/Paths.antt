-- Paths of open steps: what a server that is fed as it goes has taken of a run.
use Rattle.std.specs.Prelude.{◌≡◌, ℕ, List, [], ◌∷◌, false}
use Rattle.dover_model.specs.declared.events.Event.{Event}
use Rattle.dover_model.specs.Instance.{Rules, Instance}
use Rattle.dover_model.specs.State.{State, opening}
use Rattle.dover_model.specs.Step.{step, open_step, after}
use Rattle.dover_model.specs.Run.{Step, is_end, printed_of}
use Rattle.dover_model.specs.WholeRun.{step_at, open_at, IsBefore}

-- these open steps, all before the barrier of the mark, lead from s to t
abbrev pub IsOpenPath : Rules → ℕ → State → List Step → State → Type 0
IsOpenPath rules mark s [] t = t ≡ s
IsOpenPath rules mark s (x ∷ xs) t = (x ≡ open_at rules s) × IsBefore rules mark s
    × IsOpenPath rules mark (after s (open_step rules s)) xs t

-- these steps, none of which is End, lead from s to t
abbrev pub IsPath : Rules → State → List Step → State → Type 0
IsPath rules s [] t = t ≡ s
IsPath rules s (x ∷ xs) t = (x ≡ step_at rules s) × (is_end (step rules s) ≡ false)
    × IsPath rules (after s (step rules s)) xs t

-- open steps from the opening, before the barrier of the mark, lead to s and print these events
pub record HasPrinted (J : Instance) (mark : ℕ) (s : State) (events : List Event) : Type 0 where
  pub steps : List Step
  pub path : IsOpenPath J.rules mark (opening J.jobs) steps s
  pub prints : printed_of steps ≡ events
