-- The tests of roles, and the job of a number.
use Rattle.std.proofs.Common.{◌≡◌, ℕ, suc, ◌≤◌, ◌⊎◌, inl, inr, List, [], ◌∷◌, map, refl, sym, ap, ◌∙◌, subst, Bool}
use Rattle.std.proofs.Common.{true, false, arith}
use Rattle.dover_model.specs.Common.{Role, Coming, Fresh, Waiting, Held, Running, Done, Gone, Task, is_coming, is_fresh}
use Rattle.dover_model.specs.Common.{is_waiting, is_held, is_running, is_privileged, is_ready_behind, is_over, is_done}
use Rattle.dover_model.specs.Common.{with_role, ticked, IsMember, Each, IsNumberedFrom}
use Rattle.dover_model.proofs.lists.Tests.{never}

-- a test of a job by its role
pub by_role : (P : Task → Role → Type 0) (t : Task) → ((role : Role) → P (with_role t role) role) → P t t.role
by_role P t h = h t.role

-- the role that the test finds
pub is_coming_role : (t : Task) → is_coming t ≡ true → t.role ≡ Coming
is_coming_role t = by_role (λ u role. is_coming u ≡ true → role ≡ Coming) t each where
  each : (role : Role) → is_coming (with_role t role) ≡ true → role ≡ Coming
  each Coming h = refl
  each _ h = never h

-- the role that the test finds
pub is_fresh_role : (t : Task) → is_fresh t ≡ true → t.role ≡ Fresh
is_fresh_role t = by_role (λ u role. is_fresh u ≡ true → role ≡ Fresh) t each where
  each : (role : Role) → is_fresh (with_role t role) ≡ true → role ≡ Fresh
  each Fresh h = refl
  each _ h = never h

-- the role that the test finds
pub is_waiting_role : (t : Task) → is_waiting t ≡ true → t.role ≡ Waiting
is_waiting_role t = by_role (λ u role. is_waiting u ≡ true → role ≡ Waiting) t each where
  each : (role : Role) → is_waiting (with_role t role) ≡ true → role ≡ Waiting
  each Waiting h = refl
  each _ h = never h

-- the role that the test finds
pub is_held_role : (t : Task) → is_held t ≡ true → t.role ≡ Held
is_held_role t = by_role (λ u role. is_held u ≡ true → role ≡ Held) t each where
  each : (role : Role) → is_held (with_role t role) ≡ true → role ≡ Held
  each Held h = refl
  each _ h = never h

-- the role that the test finds
pub is_running_role : (t : Task) → is_running t ≡ true → t.role ≡ Running
is_running_role t = by_role (λ u role. is_running u ≡ true → role ≡ Running) t each where
  each : (role : Role) → is_running (with_role t role) ≡ true → role ≡ Running
  each Running h = refl
  each _ h = never h

-- the roles that the test finds
pub is_privileged_role : (t : Task) → is_privileged t ≡ true → (t.role ≡ Running) ⊎ (t.role ≡ Held)
is_privileged_role t = by_role (λ u role. is_privileged u ≡ true → (role ≡ Running) ⊎ (role ≡ Held)) t each where
  each : (role : Role) → is_privileged (with_role t role) ≡ true → (role ≡ Running) ⊎ (role ≡ Held)
  each Held h = inr refl
  each Running h = inl refl
  each _ h = never h

-- the roles that the test finds
pub is_behind_role : (t : Task) → is_ready_behind t ≡ true → (t.role ≡ Waiting) ⊎ (t.role ≡ Held)
is_behind_role t = by_role (λ u role. is_ready_behind u ≡ true → (role ≡ Waiting) ⊎ (role ≡ Held)) t each where
  each : (role : Role) → is_ready_behind (with_role t role) ≡ true → (role ≡ Waiting) ⊎ (role ≡ Held)
  each Waiting h = inl refl
  each Held h = inr refl
  each _ h = never h

-- the roles that the test finds
pub is_over_role : (t : Task) → is_over t ≡ true → (t.role ≡ Done) ⊎ (t.role ≡ Gone)
is_over_role t = by_role (λ u role. is_over u ≡ true → (role ≡ Done) ⊎ (role ≡ Gone)) t each where
  each : (role : Role) → is_over (with_role t role) ≡ true → (role ≡ Done) ⊎ (role ≡ Gone)
  each Done h = inl refl
  each Gone h = inr refl
  each _ h = never h

-- what holds of the roles Done and Gone holds of the role of a job that is over
pub of_over : (P : Role → Type 0) → P Done → P Gone → (t : Task) → is_over t ≡ true → P t.role
of_over P done gone t over = by_end (is_over_role t over) where
  by_end : (t.role ≡ Done) ⊎ (t.role ≡ Gone) → P t.role
  by_end (inl e) = subst P (sym e) done
  by_end (inr e) = subst P (sym e) gone

-- it gains nothing by a tick
pub ticked_over : (t : Task) → is_over t ≡ true → ticked t ≡ t
ticked_over t over = of_over (λ role. ticked (with_role t role) ≡ with_role t role) refl refl t over

-- the role that the test finds
pub is_done_role : (t : Task) → is_done t ≡ true → t.role ≡ Done
is_done_role t = by_role (λ u role. is_done u ≡ true → role ≡ Done) t each where
  each : (role : Role) → is_done (with_role t role) ≡ true → role ≡ Done
  each Done h = refl
  each _ h = never h

-- a test of a job of a known role
pub passes : (p : Task → Bool) (t : Task) (role : Role) (b : Bool) → t.role ≡ role → p (with_role t role) ≡ b → p t ≡ b
passes p t role b e h = subst (λ other. p (with_role t other) ≡ b) (sym e) h

-- a job whose test fails doesn't have the role that passes it
pub fails : (p : Task → Bool) (t : Task) (role : Role) → p (with_role t role) ≡ true → p t ≡ false → t.role ≡ role → ⊥
fails p t role h out e = never (sym out ∙ passes p t role true e h)

-- ---- numbers

-- no number is below the first
pub numbers_above : (n : ℕ) (tasks : List Task) → IsNumberedFrom n tasks → Each (λ t. n ≤ t.number) tasks
numbers_above n [] all t member = absurd member
numbers_above n (x ∷ tasks) all t (inl e) = let here : t.number ≡ n = ap (λ (y : Task). y.number) e ∙ all.0 in
    omega arith
numbers_above n (x ∷ tasks) all t (inr member) = let later : suc n ≤ t.number =
    numbers_above (suc n) tasks all.1 t member in omega arith

-- a job is known by its number
pub one_number : (n : ℕ) (tasks : List Task) → IsNumberedFrom n tasks → (t r : Task) → IsMember t tasks
    → IsMember r tasks → t.number ≡ r.number
    → t ≡ r
one_number n [] all t r member other same = absurd member
one_number n (x ∷ tasks) all t r (inl e) (inl e2) same = e ∙ sym e2
one_number n (x ∷ tasks) all t r (inl e) (inr other) same = absurd (
    let here : t.number ≡ n = ap (λ (y : Task). y.number) e ∙ all.0 in
    let later : suc n ≤ r.number = numbers_above (suc n) tasks all.1 r other in omega arith)
one_number n (x ∷ tasks) all t r (inr member) (inl e) same = absurd (
    let here : r.number ≡ n = ap (λ (y : Task). y.number) e ∙ all.0 in
    let later : suc n ≤ t.number = numbers_above (suc n) tasks all.1 t member in omega arith)
one_number n (x ∷ tasks) all t r (inr member) (inr other) same = one_number (suc n) tasks all.1 t r member other same

-- a change that keeps the numbers keeps their order
pub numbered_map : (f : Task → Task) → ((t : Task) → (f t).number ≡ t.number) → (n : ℕ) (tasks : List Task)
    → IsNumberedFrom n tasks
    → IsNumberedFrom n (map f tasks)
numbered_map f same n [] all = tt
numbered_map f same n (t ∷ tasks) all = (same t ∙ all.0, numbered_map f same (suc n) tasks all.1)
