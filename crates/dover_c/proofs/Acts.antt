-- What acts of a program in C are, as calls of an engine.
use Rattle.std.proofs.Common.{◌≡◌, ℕ, List, [], ◌∷◌, ◌++◌, map, refl, sym, ap, ◌∙◌, subst, cond, append-nil, Bool, true}
use Rattle.std.proofs.Common.{false, inl, inr, Option, Some, None, ◌⊎◌, ◌==◌, nat_le, Result, Ok, Err, filter, eqb-true}
use Rattle.std.proofs.Common.{eq-eqb}
use Rattle.std.proofs.lemmas.List.{map-append}
use Rattle.std.proofs.lemmas.List.Elements.{filter-append}
use Rattle.dover_model.specs.declared.events.Event.{Event}
use Rattle.dover_model.specs.declared.events.Event.TheVariants as events
use Rattle.dover_model.specs.Common.{MayFollow}
use Rattle.dover_model.proofs.lists.Members.{by_bool, some_same}
use Rattle.dover_model.proofs.lists.Tests.{never, none_is_some}
use Rattle.dover_model.specs.declared.horizon.Horizon.{Horizon}
use Rattle.dover_model.specs.declared.horizon.Horizon.TheVariants as horizon
use Rattle.dover_engine.specs.declared.decision.Decision.{Decision}
use Rattle.dover_engine.specs.declared.decision.Decision.TheVariants.{Release, End}
use Rattle.dover_engine.specs.declared.causes.NotStepped.{NotStepped}
use Rattle.dover_engine.specs.declared.causes.NotStepped.TheVariants.{Finished}
use Rattle.dover_engine.specs.Decisions.{event_of, event_in, events_in}
use Rattle.dover_engine.specs.Life.{Life}
use Rattle.dover_engine.specs.Calls as engine
use Rattle.dover_engine.proofs.LifeLaws as life
use Rattle.dover_c.specs.declared.Admitted.{Admitted}
use Rattle.dover_c.specs.declared.Decided.{Decided}
use Rattle.dover_c.specs.declared.slot.Slot.{Slot}
use Rattle.dover_c.specs.Codes.{mark_code, numbers_of, IsStepOf, CallsOn, Calls, Steps, StepAnswers, shown}
use Rattle.dover_c.specs.Program.{Act, Admit, Done, Step, Finish, Ask, Drop, Does, DoesAll, told, finishes_told}
use Rattle.dover_c.specs.Program.{is_decision, answers, given}

-- numbers that a test tells apart
pub apart : {A : Type 0} (m n : ℕ) → (m == n) ≡ false → m ≡ n → A
apart m n differ is = never (sym differ ∙ eq-eqb m n is)

-- ---- decisions in numbers

pub shown_event : (answer : Option Decision) (e : Event) → event_in answer ≡ Some e → numbers_of answer ≡ shown e
shown_event None e is = none_is_some is
shown_event (Some d) e is = ap shown (some_same (event_of d) e is)

-- what is given of an answer
pub given_of : (answer : Option Decision) → filter is_decision (numbers_of answer ∷ []) ≡ map shown (events_in answer)
given_of None = refl
given_of (Some (Release n job)) = refl
given_of (Some d) = refl

pub shown_none : (answer : Option Decision) → event_in answer ≡ None → numbers_of answer ≡ numbers_of None
shown_none None is = refl
shown_none (Some d) is = none_is_some (sym is)

-- kind 0 is none
pub kind_none : (answer : Option Decision) → (numbers_of answer).kind ≡ 0 → answer ≡ None
kind_none None e = refl
kind_none (Some (Release n job)) e = apart 1 0 refl e
kind_none (Some d) e = apart _ 0 refl e

-- and 7 an End
pub kind_end : (answer : Option Decision) → (numbers_of answer).kind ≡ 7 → (value : ℕ)
    × (event_in answer ≡ Some (events.End value))
kind_end (Some (End value)) e = (value, refl)
kind_end answer e = apart _ 7 refl e

-- a cause in numbers
abbrev refused : NotStepped → Decided
refused cause = record { tick = 0; job = 0; other = 0; kind = mark_code cause }

refused_given : (cause : NotStepped) → filter is_decision (refused cause ∷ []) ≡ []
refused_given Finished = refl
refused_given cause = refl

refused_kind : (cause : NotStepped) → nat_le (mark_code cause) 7 ≡ false
refused_kind Finished = refl
refused_kind cause = refl

-- ---- two lists of acts

-- one more of what a test lets in
more_append : {X : Type 0} (b : Bool) (x : X) (xs ys all : List X) → all ≡ xs ++ ys
    → cond b (x ∷ all) all ≡ cond b (x ∷ xs) xs ++ ys
more_append true x xs ys all same = ap (λ zs. x ∷ zs) same
more_append false x xs ys all same = same

pub told_append : (acts more : List Act) → told (acts ++ more) ≡ told acts ++ told more
told_append [] more = refl
told_append (Admit job answer ∷ acts) more =
    more_append (answer.status == 0) (answer.number, job) (told acts) (told more) _ (told_append acts more)
told_append (act ∷ acts) more = told_append acts more

pub finishes_append : (acts more : List Act) → finishes_told (acts ++ more) ≡ finishes_told acts ++ finishes_told more
finishes_append [] more = refl
finishes_append (Done tick f answer ∷ acts) more =
    more_append (answer == 0) f (finishes_told acts) (finishes_told more) _ (finishes_append acts more)
finishes_append (act ∷ acts) more = finishes_append acts more

answers_append : (acts more : List Act) → answers (acts ++ more) ≡ answers acts ++ answers more
answers_append [] more = refl
answers_append (Step mark answer ∷ acts) more = ap (λ es. answer ∷ es) (answers_append acts more)
answers_append (Finish answer ∷ acts) more = ap (λ es. answer ∷ es) (answers_append acts more)
answers_append (act ∷ acts) more = answers_append acts more

pub given_append : (acts more : List Act) → given (acts ++ more) ≡ given acts ++ given more
given_append acts more = ap (filter is_decision) (answers_append acts more)
    ∙ filter-append is_decision (answers acts) (answers more)

pub leads_append : (xs ys : List engine.Call) (v u w : Life) → engine.LeadsAll xs v u → engine.LeadsAll ys u w
    → engine.LeadsAll (xs ++ ys) v w
leads_append [] ys v u w here more = subst (λ z. engine.LeadsAll ys z w) here more
leads_append (x ∷ xs) ys v u w it more = (it.0, it.1, leads_append xs ys it.0 u w it.2 more)

-- ---- a call of an engine that may be there

-- it is, or there is none
abbrev pub MayHave : Slot → Life → Type 0
MayHave t v = (t.engine ≡ Some v) ⊎ (t.engine ≡ None)

pub calls_it : (none : Type 0) (Says : Life → Life → Type 0) (v : Life) (s t : Slot) → MayHave s v
    → Calls s t none Says → ((w : Life) × (t.engine ≡ Some w) × Says v w) ⊎ (none × (t.engine ≡ None))
calls_it none Says v s t there does = elim there [
  | inl here ↦ let it = subst (λ o. CallsOn o s t none Says) here does in
      inl (it.0, ap (λ (x : Slot). x.engine) it.1, it.2)
  | inr gone ↦ let it = subst (λ o. CallsOn o s t none Says) gone does in
      inr (it.0, ap (λ (x : Slot). x.engine) it.1 ∙ gone)
]

-- an engine that is there is called
pub called : (none : Type 0) (Says : Life → Life → Type 0) (v : Life) (s t : Slot) → s.engine ≡ Some v
    → Calls s t none Says → (w : Life) × (t.engine ≡ Some w) × Says v w
called none Says v s t here does = let it = subst (λ o. CallsOn o s t none Says) here does in
    (it.0, ap (λ (x : Slot). x.engine) it.1, it.2)

-- a step to a mark was taken
abbrev pub IsTaken : ℕ → Decided → Life → Life → Type 0
IsTaken mark answer v w = (decision : Option Decision)
    × engine.Leads (engine.Stepped (horizon.Mark mark) decision) v w × (answer ≡ numbers_of decision)

-- or not, and nothing changed
abbrev IsRefused : Decided → Life → Life → Type 0
IsRefused answer v w = (cause : NotStepped) × (w ≡ v) × (answer ≡ refused cause)

steps_or_not : (mark : ℕ) (answer : Decided) (v w : Life) → Steps mark answer v w
    → IsTaken mark answer v w ⊎ IsRefused answer v w
steps_or_not mark answer v w it = by_says it.says it.step it.shown where
  by_says : (says : Result (Option Decision) NotStepped) → IsStepOf mark v w says → answer ≡ elim says [
    | Ok decision ↦ numbers_of decision
    | Err cause ↦ refused cause
  ] → IsTaken mark answer v w ⊎ IsRefused answer v w
  by_says (Ok decision) step so = inl (decision, (step.0, step.1), so)
  by_says (Err cause) step so = inr (cause, step.1, so)

-- it was where there is no cause to refuse it
pub unrefused_taken : (mark : ℕ) (answer : Decided) (v w : Life)
    → engine.mark_refusal v.admission.rules.version v.last mark ≡ None → Steps mark answer v w → IsTaken mark answer v w
unrefused_taken mark answer v w may it = by_says it.says it.step it.shown where
  by_says : (says : Result (Option Decision) NotStepped) → IsStepOf mark v w says → answer ≡ elim says [
    | Ok decision ↦ numbers_of decision
    | Err cause ↦ refused cause
  ] → IsTaken mark answer v w
  by_says (Ok decision) step so = (decision, (step.0, step.1), so)
  by_says (Err cause) step so = none_is_some (sym may ∙ step.0)

-- it was where the answer is a decision or none
pub step_taken : (v : Life) (s t : Slot) (mark : ℕ) (answer : Decided) → MayHave s v → StepAnswers mark s t answer
    → nat_le answer.kind 7 ≡ true → (w : Life) × IsTaken mark answer v w
step_taken v s t mark answer there does is = elim (calls_it _ _ v s t there does) [
  | inl it ↦ elim (steps_or_not mark answer v it.0 it.2) [
    | inl taken ↦ (it.0, taken)
    | inr gone ↦ never (sym (refused_kind gone.0) ∙ ap (λ (d : Decided). nat_le d.kind 7) (sym gone.2) ∙ is)
  ]
  | inr none ↦ never (ap (λ (d : Decided). nat_le d.kind 7) (sym none.0) ∙ is)
]

-- the end may follow any horizon
pub may_end : (last : Horizon) → MayFollow last horizon.End
may_end (horizon.Mark m) = tt
may_end horizon.End = tt

-- ---- from acts to calls of the engine

-- where an engine may be, calls of it say what was done, and it is there, or there is none
pub record Turned (v : Life) (acts : List Act) (t : Slot) : Type 0 where
  pub calls : List engine.Call
  pub w : Life
  pub there : MayHave t w
  pub leads : engine.LeadsAll calls v w
  pub jobs : engine.admitted calls ≡ told acts
  pub finishes : engine.finishes_in calls ≡ finishes_told acts
  pub decisions : map shown (engine.decided calls) ≡ given acts

-- nothing was done
nothing : (v : Life) (acts : List Act) (t : Slot) → MayHave t v → told acts ≡ [] → finishes_told acts ≡ []
    → given acts ≡ [] → Turned v acts t
nothing v acts t there jobs finishes none = record {
  calls = [];
  w = v;
  there = there;
  leads = refl;
  jobs = sym jobs;
  finishes = sym finishes;
  decisions = sym none;
}

-- one call was made
abbrev one_call : (v w : Life) (acts : List Act) (call : engine.Call) (t : Slot) → t.engine ≡ Some w
    → engine.Leads call v w → engine.admitted (call ∷ []) ≡ told acts
    → engine.finishes_in (call ∷ []) ≡ finishes_told acts → map shown (engine.decided (call ∷ [])) ≡ given acts
    → Turned v acts t
one_call v w acts call t there leads jobs finishes decisions = record {
  calls = call ∷ [];
  w = w;
  there = inl there;
  leads = (w, leads, refl);
  jobs = jobs;
  finishes = finishes;
  decisions = decisions;
}

-- of a decision or none
abbrev pub one_step : (v w : Life) (acts : List Act) (to : Horizon) (decision : Option Decision) (answer : Decided)
    (t : Slot) → t.engine ≡ Some w → engine.Leads (engine.Stepped to decision) v w → answer ≡ numbers_of decision
    → told acts ≡ [] → finishes_told acts ≡ [] → filter is_decision (answer ∷ []) ≡ given acts → Turned v acts t
one_step v w acts to decision answer t there leads so jobs finishes is =
    one_call v w acts (engine.Stepped to decision) t there leads (sym jobs) (sym finishes)
    (ap (map shown) (append-nil (events_in decision)) ∙ sym (given_of decision)
    ∙ ap (λ a. filter is_decision (a ∷ [])) (sym so) ∙ is)

turn_one : (v : Life) (act : Act) (s t : Slot) → MayHave s v → Does act s t → Turned v (act ∷ []) t
turn_one v (Admit job answer) s t there does = elim (calls_it _ _ v s t there does) [
  | inl (w, here, it) ↦ by_bool _ (answer.status == 0)
      (λ is. one_call v w acts (engine.Admitted job answer.number) t here (it.ok (eqb-true answer.status 0 is))
      (sym (ap (λ b. cond b ((answer.number, job) ∷ []) []) is)) refl refl)
      (λ is. nothing v acts t
      (inl (here ∙ ap Some (it.refused (λ e. never (sym is ∙ eq-eqb answer.status 0 e))).same))
      (ap (λ b. cond b ((answer.number, job) ∷ []) []) is) refl refl)
  | inr none ↦ nothing v acts t (inr none.1)
      (ap (λ (a : Admitted). cond (a.status == 0) ((answer.number, job) ∷ []) []) none.0) refl refl
] where
  acts : List Act
  acts = Admit job answer ∷ []
turn_one v (Done tick f answer) s t there does = elim (calls_it _ _ v s t there does) [
  | inl (w, here, it) ↦ by_bool _ (answer == 0)
      (λ is. one_call v w acts (engine.Done tick f) t here (it.ok (eqb-true answer 0 is)) refl
      (sym (ap (λ b. cond b (f ∷ []) []) is)) refl)
      (λ is. nothing v acts t (inl (here ∙ ap Some (it.refused (λ e. never (sym is ∙ eq-eqb answer 0 e))).same)) refl
      (ap (λ b. cond b (f ∷ []) []) is) refl)
  | inr none ↦ nothing v acts t (inr none.1) refl (ap (λ n. cond (n == 0) (f ∷ []) []) none.0) refl
] where
  acts : List Act
  acts = Done tick f answer ∷ []
turn_one v (Step mark answer) s t there does = elim (calls_it _ _ v s t there does) [
  | inl (w, here, it) ↦ elim (steps_or_not mark answer v w it) [
    | inl (decision, leads, so) ↦
        one_step v w (Step mark answer ∷ []) (horizon.Mark mark) decision answer t here leads so refl refl refl
    | inr (cause, same, so) ↦ nothing v (Step mark answer ∷ []) t (inl (here ∙ ap Some same)) refl refl
        (ap (λ a. filter is_decision (a ∷ [])) so ∙ refused_given cause)
  ]
  | inr none ↦ nothing v (Step mark answer ∷ []) t (inr none.1) refl refl
      (ap (λ a. filter is_decision (a ∷ [])) none.0)
]
turn_one v (Finish answer) s t there does = elim (calls_it _ _ v s t there does) [
  | inl (w, here, it) ↦ one_step v w (Finish answer ∷ []) horizon.End it.says answer t here (may_end v.last, it.step)
      it.shown refl refl refl
  | inr none ↦ nothing v (Finish answer ∷ []) t (inr none.1) refl refl (ap (λ a. filter is_decision (a ∷ [])) none.0)
]
turn_one v Ask s t there does =
    nothing v (Ask ∷ []) t (subst (λ x. MayHave x v) (sym does) there) refl refl refl
turn_one v Drop s t there does = nothing v (Drop ∷ []) t (inr (ap (λ (x : Slot). x.engine) does)) refl refl refl

-- acts behind acts
abbrev pub turned_twice : (v : Life) (acts more : List Act) (s t : Slot) (one : Turned v acts s) → Turned one.w more t
    → Turned v (acts ++ more) t
turned_twice v acts more s t one rest = record {
  calls = one.calls ++ rest.calls;
  w = rest.w;
  there = rest.there;
  leads = leads_append one.calls rest.calls v one.w rest.w one.leads rest.leads;
  jobs = life.admitted_append one.calls rest.calls ∙ ap (λ js. js ++ engine.admitted rest.calls) one.jobs
      ∙ ap (λ js. told acts ++ js) rest.jobs ∙ sym (told_append acts more);
  finishes = life.finishes_append one.calls rest.calls
      ∙ ap (λ fs. fs ++ engine.finishes_in rest.calls) one.finishes
      ∙ ap (λ fs. finishes_told acts ++ fs) rest.finishes ∙ sym (finishes_append acts more);
  decisions = ap (map shown) (life.decided_append one.calls rest.calls)
      ∙ map-append shown (engine.decided one.calls) (engine.decided rest.calls)
      ∙ ap (λ es. es ++ map shown (engine.decided rest.calls)) one.decisions
      ∙ ap (λ es. given acts ++ es) rest.decisions ∙ sym (given_append acts more);
}

pub turn_all : (acts : List Act) (v : Life) (s t : Slot) → MayHave s v → DoesAll acts s t → Turned v acts t
turn_all [] v s t there here = nothing v [] t (subst (λ x. MayHave x v) (sym here) there) refl refl refl
turn_all (act ∷ acts) v s t there it = let one = turn_one v act s it.0 there it.1 in
    turned_twice v (act ∷ []) acts it.0 t one (turn_all acts one.w it.0 t one.there it.2)
