-- What a deed does to the ready jobs.
use Rattle.std.proofs.Common.{◌≡◌, ℕ, List, ap, sym, ◌∙◌, subst, Some}
use Rattle.dover_model.specs.declared.events.Event.{Event}
use Rattle.dover_model.specs.declared.events.Task.{Task}
use Rattle.dover_model.specs.Common.{Move, Prints, event_of}
use Rattle.dover_model.proofs.lists.Members.{some_same}
use Rattle.dover_model.proofs.lists.Tests.{none_is_some}
use Rattle.ready_jobs.specs.declared.actions.Action.{Action}
use Rattle.ready_jobs.specs.Parts.{Parted, ready_of}
use Rattle.ready_jobs.specs.Changed.{IsNext, Leaves, printed}
use Rattle.ready_jobs.specs.Deeds.{step_at, Does}
use Rattle.ready_jobs.proofs.Naming.{same_event}

-- the deed is this one, at whose step the event is printed
module _ (p : Parted) (deed other : Action) (is : deed ≡ other) (m e : Event) (step : step_at p.clock other ≡ Prints m)
    (does : Does p deed e) where
  pub does_print : m ≡ e
  does_print = same_event m e (sym step ∙ ap (step_at p.clock) (sym is) ∙ does.prints)

  pub does_next : IsNext p m
  does_next = subst (IsNext p) (sym does_print) does.next

  pub does_leaves : (ys : List Task) (worth : ℕ) → Leaves (printed m) (ready_of p) ys worth
      → Leaves (printed e) (ready_of p) ys worth
  does_leaves ys worth = subst (λ x. Leaves (printed x) (ready_of p) ys worth) does_print

-- a step that prints this event
pub prints_event : (m : Move) (e : Event) → event_of m ≡ Some e → m ≡ Prints e
prints_event (Prints f) e is = ap Prints (some_same f e is)
prints_event _ e is = none_is_some is
