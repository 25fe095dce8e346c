-- What is due of a run up to a horizon.
use Rattle.std.proofs.Common.{◌≤◌, List, [], ◌∷◌, ◌++◌, sym, ◌∙◌, subst, arith, inl, inr, append_assoc}
use Rattle.std.specs.List.{AllByRecursion}
use Rattle.dover_model.specs.declared.events.Event.{Event}
use Rattle.dover_model.specs.Common.{JobFacts, Instance, IsValid, with_jobs, printed, Begins, IsMember, AreShort}
use Rattle.dover_model.specs.Common.{step_numbers, due_by}
use Rattle.dover_model.proofs.lists.Beginnings.{begins_onward}
use Rattle.dover_model.proofs.settled.Prefixes.{settled_prefix}
use Rattle.dover_model.proofs.traces.ShortNumbers.{printed_short}
use Rattle.dover_model.proofs.lists.Members.{all_at}
use Rattle.dover_model.specs.declared.horizon.Horizon.{Horizon}
use Rattle.dover_model.specs.declared.horizon.Horizon.TheVariants.{Mark}
use Rattle.dover_model.proofs.settled.Horizons.{due_begins}

-- what is due at a job's release without the job begins what is due with it
pub due_before : (J : Instance) (job : JobFacts) → IsValid (with_jobs J (job ∷ []))
    → Begins (due_by J (Mark job.release)) (due_by (with_jobs J (job ∷ [])) (Mark job.release))
due_before J job valid = settled_prefix J (job ∷ []) job.release valid is_last job.release (omega arith) where
  is_last : (i : JobFacts) → IsMember i (job ∷ []) → job.release ≤ i.release
  is_last i (inl e) = subst (λ (x : JobFacts). job.release ≤ x.release) (sym e) (omega arith)
  is_last i (inr m) = absurd m

-- the numbers of an event that is due are short
pub event_short : (J : Instance) (to : Horizon) (events : List Event) (e : Event) → IsValid J
    → Begins (events ++ e ∷ []) (due_by J to) → AreShort (step_numbers e)
event_short J to events e valid begins =
    let run : Begins (events ++ e ∷ []) (printed J) =
    begins_onward (events ++ e ∷ []) (due_by J to) (printed J) begins (due_begins J to valid) in
    all_at (λ x. AreShort (step_numbers x)) events e run.0
    (subst (AllByRecursion (λ x. AreShort (step_numbers x)))
    (run.1 ∙ append_assoc events (e ∷ []) run.0) (printed_short J valid))
