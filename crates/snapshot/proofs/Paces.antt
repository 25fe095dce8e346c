-- How a run goes on from a state to the barrier of a mark: jobs that are over stay so.
use Rattle.std.proofs.Common.{◌≡◌, ℕ, ◌≤◌, ◌<◌, List, [], ◌∷◌, ◌++◌, refl, sym, ◌∙◌, subst, arith}
use Rattle.std.proofs.Common.{ap}
use Rattle.std.proofs.lemmas.List.Elements.{filter_map-append}
use Rattle.dover_model.specs.declared.events.Event.{Event}
use Rattle.dover_model.specs.Common.{Finish, JobFacts, Instance, IsValid, IsOpenPath, HasPrinted, Step, settled}
use Rattle.dover_model.specs.Common.{settled_steps, settled_state, AreOverFor, Each, Keeps, State, opening}
use Rattle.dover_model.specs.Common.{open_step, after}
use Rattle.dover_model.specs.Common.{IsBarrier, printed_of}
use Rattle.dover_model.proofs.runs.Ending.{potential}
use Rattle.dover_model.proofs.steps.Kept.{Moved, move_of, open_kept, opening_keeps}
use Rattle.dover_model.proofs.lists.Members.{on_map}
use Rattle.dover_model.proofs.finishes.OverFor.{over_after}
use Rattle.dover_model.proofs.settled.Paths.{path_append, path_keeps, path_later, path_ready, path_then_settled}
use Rattle.dover_model.proofs.settled.Paths.{one_settled_run}
use Rattle.dover_model.proofs.finishes.Readiness.{IsReady, opening_ready}
use Rattle.dover_model.proofs.rest.Resting.{path_state, settled_path}
use Rattle.dover_model.proofs.settled.Settling.{Settles, settles, settled_is_run}

-- ---- the way to the barrier

-- steps from a state, up to which these events were printed, to the barrier
pub record GoesOn (J : Instance) (mark : ℕ) (s : State) (events : List Event) : Type 0 where
  pub steps : List Step
  pub path : IsOpenPath J.rules mark s steps (settled_state J mark)
  pub keeps : Keeps J s
  pub prints : settled J mark ≡ events ++ printed_of steps

-- from each state before the barrier
pub goes_on : (J : Instance) → IsValid J → (mark : ℕ) (s : State) (events : List Event) → HasPrinted J mark s events
    → GoesOn J mark s events
goes_on J valid mark s events it = record {
  steps = rest.0;
  path = subst (IsOpenPath J.rules mark s rest.0) (sym there) way.1;
  keeps = keeps;
  prints = ap printed_of same_steps ∙ filter_map-append _ it.steps rest.0
      ∙ ap (λ es. es ++ printed_of rest.0) it.prints;
} where
  keeps : Keeps J s
  keeps = path_keeps J valid mark it.steps (opening J.jobs) s (opening_keeps J) it.path

  ready : IsReady J.rules.finishes s
  ready = path_ready J valid mark it.steps (opening J.jobs) s (opening_keeps J)
      (opening_ready J.rules.finishes J.jobs) it.path

  rest : Settles J.rules mark s (potential J.rules.finishes mark s)
  rest = settles J valid J.rules mark (potential J.rules.finishes mark s) s keeps ready (omega arith)

  way : (t : State) × IsOpenPath J.rules mark s rest.0 t × IsBarrier J.rules mark t
  way = settled_path J.rules mark rest.0 s rest.1

  same_steps : settled_steps J mark ≡ it.steps ++ rest.0
  same_steps = one_settled_run J.rules mark (settled_steps J mark) (it.steps ++ rest.0) (opening J.jobs)
      (settled_is_run J mark valid)
      (path_then_settled J.rules mark it.steps rest.0 (opening J.jobs) s it.path rest.1)

  there : settled_state J mark ≡ way.0
  there = path_state J.rules mark (settled_steps J mark) (opening J.jobs) way.0
      (subst (λ steps. IsOpenPath J.rules mark (opening J.jobs) steps way.0) (sym same_steps)
      (path_append J.rules mark it.steps rest.0 (opening J.jobs) s way.0 it.path way.1))

-- what is settled at a mark was printed before the barrier of a later one
pub printed_later : (J : Instance) → IsValid J → (mark later : ℕ) → mark ≤ later
    → HasPrinted J later (settled_state J mark) (settled J mark)
printed_later J valid mark later ordered = record {
  steps = settled_steps J mark;
  path = subst (IsOpenPath J.rules later (opening J.jobs) (settled_steps J mark))
      (sym (path_state J.rules mark (settled_steps J mark) (opening J.jobs) there.0 there.1))
      (path_later J.rules mark later ordered (settled_steps J mark) (opening J.jobs) there.0 there.1);
  prints = refl;
} where
  there : (t : State) × IsOpenPath J.rules mark (opening J.jobs) (settled_steps J mark) t
      × IsBarrier J.rules mark t
  there = settled_path J.rules mark (settled_steps J mark) (opening J.jobs) (settled_is_run J mark valid)

-- ---- jobs that are over

-- the job of the finish is over, and has had as much, which is less than its work
abbrev pub HasCome : Finish → State → Type 0
HasCome f s = Each (λ t. t.number ≡ f.number → (f.had ≤ t.had) × (f.had < t.job.work)) s.tasks × AreOverFor (f ∷ []) s

come_after : (J : Instance) → IsValid J → (s : State) → Keeps J s → (f : Finish) → HasCome f s
    → HasCome f (after s (open_step J.rules s))
come_after J valid s keeps f it = (
  subst (Each (λ t. t.number ≡ f.number → (f.had ≤ t.had) × (f.had < t.job.work))) (sym moved.tasks)
      (on_map moved.by (λ t. t.number ≡ f.number → (f.had ≤ t.had) × (f.had < t.job.work)) s.tasks (λ t member same.
      let was = it.0 t member (sym (moved.number t) ∙ same) in
      let grows : t.had ≤ (moved.by t).had = moved.had t in (
        omega (arith, was.0, grows),
        subst (λ (j : JobFacts). f.had < j.work) (sym (moved.job t)) was.1,
      ))),
  over_after J valid s keeps J.rules (f ∷ []) it.1,
) where
  moved : Moved s (after s (open_step J.rules s))
  moved = move_of s (open_step J.rules s)

-- so it is at the end of a path
come_on : (J : Instance) → IsValid J → (mark : ℕ) (f : Finish) (xs : List Step) (s t : State) → Keeps J s
    → IsOpenPath J.rules mark s xs t → HasCome f s → HasCome f t
come_on J valid mark f [] s t keeps here it = subst (HasCome f) (sym here) it
come_on J valid mark f (x ∷ xs) s t keeps path it = come_on J valid mark f xs (after s (open_step J.rules s)) t
    (open_kept J valid s keeps J.rules) path.2 (come_after J valid s keeps f it)

-- and at the barrier
pub comes : (J : Instance) → IsValid J → (mark : ℕ) (s : State) (events : List Event) → HasPrinted J mark s events
    → (f : Finish) → HasCome f s → HasCome f (settled_state J mark)
comes J valid mark s events it f come =
    let way : GoesOn J mark s events = goes_on J valid mark s events it in
    come_on J valid mark f way.steps s (settled_state J mark) way.keeps way.path come
