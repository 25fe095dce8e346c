-- A state that is pressed or isn't: what doesn't look at it, and that a job is ready where it is pressed.
use Rattle.std.proofs.Common.{◌≡◌, ◌⊎◌, inl, inr, List, [], ◌∷◌, map, refl, sym, ap, ◌∙◌, subst, Bool, true, false}
use Rattle.std.proofs.Common.{cond}
use Rattle.std.specs.Prelude.{◌||◌}
use Rattle.std.specs.List.{list_any}
use Rattle.dover_model.specs.Common.{Role, Coming, Fresh, Waiting, Held, Running, Done, Gone, Task, State, is_open_job}
use Rattle.dover_model.specs.Common.{is_over, with_role, displaced, IsMember, Each, IsSound}
use Rattle.dover_model.proofs.steps.Roles.{passes, is_over_role}
use Rattle.dover_model.proofs.lists.Tests.{never}

-- the state, pressed or not
abbrev pub pressing : Bool → State → State
pressing b s = record { clock = s.clock; tasks = s.tasks; pressed = b }

-- a sound state is sound either way
pub sound_pressing : (b : Bool) (s : State) → IsSound s → IsSound (pressing b s)
sound_pressing b s sound = record {
  numbered = sound.numbered;
  at_most_work = sound.at_most_work;
  roles = sound.roles;
  coming_last = sound.coming_last;
  one_runs = sound.one_runs;
  one_fresh = sound.one_fresh;
  distinct = sound.distinct;
  running_first = sound.running_first;
  room = sound.room;
}

-- ---- some job is ready

-- where a pressed state has a ready job
abbrev pub HasReady : State → Type 0
HasReady s = s.pressed ≡ true → list_any is_open_job s.tasks ≡ true

-- a member that passes is one
pub any_member : {X : Type 0} (p : X → Bool) (tasks : List X) (t : X) → IsMember t tasks → p t ≡ true
    → list_any p tasks ≡ true
any_member p [] t member is = absurd member
any_member p (x ∷ tasks) t (inl e) is =
    ap (λ b. b || list_any p tasks) (subst (λ y. p y ≡ true) e is)
any_member p (x ∷ tasks) t (inr m) is = ap (λ b. p x || b) (any_member p tasks t m is) ∙ or_true (p x) where
  or_true : (b : Bool) → (b || true) ≡ true
  or_true true = refl
  or_true false = refl

-- a change that leaves ready jobs ready
pub any_kept : (p : Task → Bool) (f : Task → Task) → ((t : Task) → p t ≡ true → p (f t) ≡ true) → (tasks : List Task)
    → list_any p tasks ≡ true → list_any p (map f tasks) ≡ true
any_kept p f on [] none = none
any_kept p f on (t ∷ tasks) some = by_test (p t) refl some (any_kept p f on tasks) where
  by_test : (b : Bool) → p t ≡ b → (b || list_any p tasks) ≡ true
      → (list_any p tasks ≡ true → list_any p (map f tasks) ≡ true) → list_any p (map f (t ∷ tasks)) ≡ true
  by_test true is _ rest = ap (λ c. c || list_any p (map f tasks)) (on t is)
  by_test false is more rest = any_member_or (p (f t)) (list_any p (map f tasks)) (rest more) where
    any_member_or : (b c : Bool) → c ≡ true → (b || c) ≡ true
    any_member_or true c is_c = refl
    any_member_or false c is_c = is_c

-- a ready job in another role of ready jobs
pub one_open : (new : Role) → ((t : Task) → is_open_job (with_role t new) ≡ true) → (b : Bool) (t : Task) (role : Role)
    → is_open_job (with_role t role) ≡ true → is_open_job (with_role t (cond b new role)) ≡ true
one_open new is true t role ready = is t
one_open new is false t role ready = ready

-- a displaced job is ready
pub displaced_open : (t : Task) (role : Role) → is_open_job (with_role t role) ≡ true
    → is_open_job (with_role t (displaced role)) ≡ true
displaced_open t Coming ready = ready
displaced_open t Fresh ready = ready
displaced_open t Waiting ready = ready
displaced_open t Held ready = refl
displaced_open t Running ready = refl
displaced_open t Done ready = ready
displaced_open t Gone ready = ready

-- a job that is over isn't ready
pub over_closed : (t : Task) → is_over t ≡ true → is_open_job t ≡ false
over_closed t over = by_end (is_over_role t over) where
  by_end : (t.role ≡ Done) ⊎ (t.role ≡ Gone) → is_open_job t ≡ false
  by_end (inl e) = passes is_open_job t Done false e refl
  by_end (inr e) = passes is_open_job t Gone false e refl

-- where all are over, none is ready
none_open : (tasks : List Task) → Each (λ t. is_over t ≡ true) tasks → list_any is_open_job tasks ≡ false
none_open [] over = refl
none_open (t ∷ tasks) over = ap (λ b. b || list_any is_open_job tasks) (over_closed t (over t (inl refl)))
    ∙ none_open tasks (λ u m. over u (inr m))

-- so where all jobs are over the state isn't pressed
pub over_calm : (s : State) → HasReady s → Each (λ t. is_over t ≡ true) s.tasks → s.pressed ≡ false
over_calm s some over = by_test s.pressed refl where
  by_test : (b : Bool) → s.pressed ≡ b → s.pressed ≡ false
  by_test true e = never (sym (none_open s.tasks over) ∙ some e)
  by_test false e = e
