-- Where each finish is of a job that is over, none is due, and the weights are those without finishes.
use Rattle.std.proofs.Common.{◌≡◌, ℕ, List, [], ◌∷◌, inl, inr, refl, sym, ◌∙◌, Bool, true, false, cond, eqb}
use Rattle.std.specs.Prelude.{◌==◌, ◌&&◌, ◌||◌, nat_lt}
use Rattle.std.proofs.lemmas.Bool.{eqb-true, and_parts, false_from_ne_true}
use Rattle.dover_model.specs.Common.{Fraction, Rules, Instance, IsValid, Finish, has_come_to, is_due, Role, Coming}
use Rattle.dover_model.specs.Common.{Fresh, Waiting, Held, Running, Done, Gone, Task, State, is_ready_behind, is_over}
use Rattle.dover_model.specs.Common.{Move, Ticks, after, with_role, displaced, ticked, open_step, AreOverFor, IsMember}
use Rattle.dover_model.specs.Common.{Each, IsSound, Keeps}
use Rattle.dover_model.proofs.lists.Members.{on_map}
use Rattle.dover_model.proofs.steps.Roles.{passes}
use Rattle.dover_model.proofs.steps.OneChange.{state_with, on_changed}
use Rattle.dover_model.proofs.steps.Deeds.{Deed, Completed, Resumed, Started, Began, Preempted, Stayed, Arrived, Taken}
use Rattle.dover_model.proofs.steps.Deeds.{Abandoned, Rested}
use Rattle.dover_model.proofs.steps.Kept.{open_deed}
use Rattle.dover_model.proofs.finishes.Readiness.{IsReady}
use Rattle.dover_model.proofs.lists.Tests.{never}

-- a job that has come to a finish is the job of one
pub due_member : (finishes : List Finish) (t : Task) → is_due finishes t ≡ true
    → (f : Finish) × IsMember f finishes × (has_come_to t f ≡ true)
due_member [] t due = never due
due_member (f ∷ finishes) t due = by_test (has_come_to t f) refl due (due_member finishes t) where
  by_test : (b : Bool) → has_come_to t f ≡ b → (b || is_due finishes t) ≡ true
      → (is_due finishes t ≡ true → (g : Finish) × IsMember g finishes × (has_come_to t g ≡ true))
      → (g : Finish) × IsMember g (f ∷ finishes) × (has_come_to t g ≡ true)
  by_test true e due more = (f, inl refl, e)
  by_test false e due more = let it = more due in (it.0, inr it.1, it.2)

module _ (finishes : List Finish) (s : State) (over : AreOverFor finishes s) where
  -- a job that isn't over has come to none
  pub over_not_due : (t : Task) → IsMember t s.tasks → is_over t ≡ false → is_due finishes t ≡ false
  over_not_due t member out = false_from_ne_true (is_due finishes t) (λ due. let it = due_member finishes t due in
      never (sym out ∙ over it.0 it.1 t member (sym (eqb-true _ _ (and_parts (it.0.number == t.number)
      (it.0.had == t.had) (and_parts ((it.0.number == t.number) && (it.0.had == t.had)) (nat_lt 0 t.had) it.2).0).0))))

  -- so none behind has
  pub over_ready : IsReady finishes s
  over_ready t member behind = over_not_due t member (out t.role behind) where
    out : (role : Role) → is_ready_behind (with_role t role) ≡ true → is_over (with_role t role) ≡ false
    out Done e = never e
    out Gone e = never e
    out _ e = refl

-- ---- they stay over

module _ (n : ℕ) (s : State) (sound : IsSound s) (over : Each (λ t. t.number ≡ n → is_over t ≡ true) s.tasks) where
  -- the job of this number is over
  abbrev Over : Task → Type 0
  Over t = t.number ≡ n → is_over t ≡ true

  -- a job in a role in which it isn't over has another number
  other : (r : Task) → IsMember r s.tasks → (role : Role) → r.role ≡ role → is_over (with_role r role) ≡ false
      → r.number ≡ n → ⊥
  other r member role e out same = never (sym (passes is_over r role false e out) ∙ over r member same)

  -- after one job's new role
  one_over : (r : Task) → IsMember r s.tasks → (role new : Role) → r.role ≡ role → is_over (with_role r role) ≡ false
      → Each Over (state_with s r new).tasks
  one_over r member role new e out = on_changed 0 s.tasks sound.numbered r member new Over
      (λ same. absurd (other r member role e out same)) (λ t m _. over t m)

  -- after a displacement
  displaced_over : (t : Task) (role : Role) → is_over (with_role t role) ≡ true
      → is_over (with_role t (displaced role)) ≡ true
  displaced_over t Held e = never e
  displaced_over t Running e = never e
  displaced_over t _ e = e

  -- after each deed
  deed_over : (k : Fraction) (m : Move) → Deed k s Ticks m → Each Over (after s m).tasks
  deed_over k m (Completed r member runs) = one_over r member Running Done runs refl
  deed_over k m (Resumed p member held none least why) = one_over p member Held Running held refl
  deed_over k m (Started o member waiting none first fits next) = one_over o member Waiting Running waiting refl
  deed_over k m (Began f member fresh none free) = one_over f member Fresh Running fresh refl
  deed_over k m (Preempted r f member runs some f_member fresh before fits) =
      on_map (λ t. with_role t (cond (eqb t.number f.number) Running (cond (eqb t.number r.number) Held t.role)))
      Over s.tasks (λ t mt same. by_numbers t mt same (eqb t.number f.number) (eqb t.number r.number) refl refl) where
        by_numbers : (t : Task) → IsMember t s.tasks → t.number ≡ n → (b c : Bool) → eqb t.number f.number ≡ b
            → eqb t.number r.number ≡ c → is_over (with_role t (cond b Running (cond c Held t.role))) ≡ true
        by_numbers t mt same true c is_f e =
            absurd (other f f_member Fresh fresh refl (sym (eqb-true _ _ is_f) ∙ same))
        by_numbers t mt same false true e is_r =
            absurd (other r member Running runs refl (sym (eqb-true _ _ is_r) ∙ same))
        by_numbers t mt same false false e d = over t mt same
  deed_over k m (Stayed r f member runs some f_member fresh why) = one_over f f_member Fresh Waiting fresh refl
  deed_over k m (Arrived c member comes now first stale busy free) = one_over c member Coming Fresh comes refl
  deed_over k m (Taken r x member runs some x_member waiting now stale heavy) =
      on_map (λ t. with_role t (cond (eqb t.number x.number) Running (displaced t.role))) Over s.tasks
      (λ t mt same. by_number t mt same (eqb t.number x.number) refl) where
        by_number : (t : Task) → IsMember t s.tasks → t.number ≡ n → (b : Bool) → eqb t.number x.number ≡ b
            → is_over (with_role t (cond b Running (displaced t.role))) ≡ true
        by_number t mt same true is_x =
            absurd (other x x_member Waiting waiting refl (sym (eqb-true _ _ is_x) ∙ same))
        by_number t mt same false e = displaced_over t t.role (over t mt same)
  deed_over k m (Abandoned r x member runs some x_member waiting now stale light) =
      one_over x x_member Waiting Gone waiting refl
  deed_over k m (Rested quiet) = on_map ticked Over s.tasks over

-- after a deed each finish is still of a job that is over
pub over_then : (k : Fraction) (s : State) → IsSound s → (m : Move) → Deed k s Ticks m → (finishes : List Finish)
    → AreOverFor finishes s → AreOverFor finishes (after s m)
over_then k s sound m deed finishes over f member = deed_over f.number s sound (over f member) k m deed

-- so it is after an open step
pub over_after : (J : Instance) → IsValid J → (s : State) → Keeps J s → (rules : Rules) (finishes : List Finish)
    → AreOverFor finishes s → AreOverFor finishes (after s (open_step rules s))
over_after J valid s keeps rules finishes over =
    over_then rules.ratio s keeps.sound _ (open_deed J valid s keeps rules) finishes over
