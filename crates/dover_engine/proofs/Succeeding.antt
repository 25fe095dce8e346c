-- The job that an engine names is the one that gets the processor behind one that is done.
use Rattle.std.proofs.Common.{◌≡◌, ℕ, List, [], ◌∷◌, ◌++◌, length, refl, sym, ap, ◌∙◌, subst, arith, append_assoc}
use Rattle.std.proofs.Common.{length-append, Option, Some, None, IfSome, option_map, option_to_list}
use Rattle.dover_model.specs.declared.events.Event.{Event}
use Rattle.dover_model.specs.declared.events.Event.TheVariants.{Run, Complete}
use Rattle.dover_model.specs.declared.events.Version.{Version}
use Rattle.dover_model.specs.Common.{Finish, Fraction, Instance, with_finishes, settled, Begins}
use Rattle.dover_model.specs.declared.horizon.Horizon.TheVariants.{Mark}
use Rattle.ready_server.specs.Serving.{GoesOnWith}
use Rattle.dover_engine.specs.declared.decision.Decision.{Decision}
use Rattle.dover_engine.specs.Decisions.{event_of, event_in, events_in}
use Rattle.dover_engine.specs.Life.{Life, successor_of}
use Rattle.dover_engine.specs.Given.{Gave, IsPrompt}
use Rattle.dover_engine.specs.Calls.{Call, Done, Stepped, IsDone, Leads, LeadsAll, Lives, all_jobs, decided}
use Rattle.dover_engine.proofs.Lives.{given_due}
use Rattle.dover_engine.proofs.LifeLaws.{stood}

-- two lists with the same front have the same rest
same_rest : {X : Type 0} (xs ys zs : List X) → xs ++ ys ≡ xs ++ zs → ys ≡ zs
same_rest [] ys zs same = same
same_rest (x ∷ xs) ys zs same = same_rest xs ys zs (tail_same same) where
  tail_same : x ∷ (xs ++ ys) ≡ x ∷ (xs ++ zs) → xs ++ ys ≡ xs ++ zs
  tail_same e = cc

head_same : {X : Type 0} (x y : X) (xs ys : List X) → x ∷ xs ≡ y ∷ ys → x ≡ y
head_same x y xs ys e = cc

-- no list is itself with more behind it
never_longer : {X : Type 0} (xs ys : List X) (x : X) → xs ≡ (xs ++ x ∷ []) ++ ys → ⊥
never_longer xs ys x e = let same : length xs ≡ length ((xs ++ x ∷ []) ++ ys) = ap length e in
    omega (arith, same, length-append (xs ++ x ∷ []) ys, length-append xs (x ∷ []))

-- what is given behind these events is what goes on there
is_next : (J : Instance) (at : ℕ) (before : List Event) (o : Option ℕ) (b : Option Event) → GoesOnWith J at before o
    → (b ≡ None → before ≡ settled J at) → Begins (before ++ option_to_list b) (settled J at)
    → b ≡ option_map (Run at) o
is_next J at before None None goes prompt begins = refl
is_next J at before None (Some e) goes prompt begins =
    absurd (never_longer before begins.0 e (sym goes ∙ begins.1))
is_next J at before (Some n) None goes prompt begins =
    absurd (never_longer before goes.0 (Run at n) (prompt refl ∙ goes.1))
is_next J at before (Some n) (Some e) goes prompt begins =
    ap Some (head_same e (Run at n) begins.0 goes.0 (same_rest before (e ∷ begins.0) (Run at n ∷ goes.0)
    (sym (append_assoc before (e ∷ []) begins.0) ∙ sym begins.1 ∙ goes.1
    ∙ append_assoc before (Run at n ∷ []) goes.0)))

-- where none is given, all that is due was
none_prompt : (J : Instance) (at : ℕ) (before : List Event) (b : Option Decision)
    → IsPrompt (Mark at) J before b → event_in b ≡ None → before ≡ settled J at
none_prompt J at before None prompt none = prompt
none_prompt J at before (Some d) prompt none = absurd (let clash : Some (event_of d) ≡ None = none in cc)

pub named_next : (version : Version) (k : Fraction) (calls : List Call) (at : ℕ) (f : Finish) (a b : Option Decision)
    (v w : Life) → Lives version k calls v
    → LeadsAll (Done at f ∷ Stepped (Mark at) a ∷ Stepped (Mark at) b ∷ []) v w
    → event_in b ≡ option_map (Run at) (successor_of v)
named_next version k calls at f a b v w life leads =
    is_next J1 at (es ++ Complete at f.number ∷ []) (successor_of v) (event_in b)
    (done.successor (all_jobs version k calls) es it)
    (none_prompt J1 at (es ++ Complete at f.number ∷ []) b (second.1.prompt J1 (es ++ Complete at f.number ∷ []) gave))
    (given_due leads.2.2.0 J1 ((es ++ Complete at f.number ∷ []) ++ events_in b)
    (second.1.gave J1 (es ++ Complete at f.number ∷ []) gave) at second.1.last) where
      es : List Event
      es = decided calls

      it : Gave v (all_jobs version k calls) es
      it = stood version k calls v life

      J1 : Instance
      J1 = with_finishes (all_jobs version k calls) (f ∷ [])

      done : IsDone v leads.0 at f
      done = leads.1

      first : Leads (Stepped (Mark at) a) leads.0 leads.2.0
      first = leads.2.1

      second : Leads (Stepped (Mark at) b) leads.2.0 leads.2.2.0
      second = leads.2.2.1

      completes : event_in a ≡ Some (Complete at f.number)
      completes = subst (λ o. IfSome o (λ e. event_in a ≡ Some e)) done.next first.1.comes

      gave : Gave leads.2.0 J1 (es ++ Complete at f.number ∷ [])
      gave = subst (λ o. Gave leads.2.0 J1 (es ++ option_to_list o)) completes
          (first.1.gave J1 es (done.gave (all_jobs version k calls) es it))
