-- One job in another role, and all jobs that hold the processor displaced; and the job that stands at a number.
use Rattle.std.proofs.Common.{◌≡◌, ℕ, suc, ◌-◌, ◌≤◌, inl, inr, List, [], ◌∷◌, map, refl, sym, ap, ◌∙◌, arith, Bool}
use Rattle.std.proofs.Common.{true, false, cond, Some, ◌==◌, if◌then◌else◌, slice_get}
use Rattle.dover_model.specs.Common.{Role, Waiting, Task, IsMember, IsNumberedFrom, with_role, displaced}
use Rattle.dover_model.proofs.steps.Roles.{numbers_above, one_number}
use Rattle.dover_model.proofs.lists.Members.{map_map, map_same}

-- the tasks with the one of number n in another role
abbrev pub with_role_at : ℕ → Role → List Task → List Task
with_role_at n role tasks = map (λ t. with_role t (if t.number == n then role else t.role)) tasks

-- the running and the held jobs wait
abbrev pub all_displaced : List Task → List Task
all_displaced tasks = map (λ t. with_role t (displaced t.role)) tasks

-- a job stands at its number
pub at_number : (n : ℕ) (tasks : List Task) (t : Task) → IsNumberedFrom n tasks → IsMember t tasks
    → slice_get tasks (t.number - n) ≡ Some t
at_number n [] t all member = absurd member
at_number n (x ∷ tasks) t all (inl e) =
    let here : t.number - n ≡ 0 = let same : t.number ≡ n = ap (λ (y : Task). y.number) e ∙ all.0 in omega arith in
    ap (slice_get (x ∷ tasks)) here ∙ ap Some (sym e)
at_number n (x ∷ tasks) t all (inr member) =
    let past : t.number - n ≡ suc (t.number - suc n) = let above : suc n ≤ t.number =
    numbers_above (suc n) tasks all.1 t member in omega arith in
    ap (slice_get (x ∷ tasks)) past ∙ at_number (suc n) tasks t all.1 member

-- a job stands at its number
pub task_at : (tasks : List Task) (t : Task) → IsNumberedFrom 0 tasks → IsMember t tasks
    → slice_get tasks t.number ≡ Some t
task_at tasks t all member = ap (slice_get tasks) (off t.number) ∙ at_number 0 tasks t all member where
  off : (m : ℕ) → m ≡ m - 0
  off m = omega arith

-- a job that waits already is displaced as before
pub displaced_same : (tasks : List Task) (p : Task) → IsNumberedFrom 0 tasks → IsMember p tasks
    → displaced p.role ≡ Waiting
    → all_displaced (with_role_at p.number Waiting tasks) ≡ all_displaced tasks
displaced_same tasks p all member waits =
    map_map (λ t. with_role t (displaced t.role)) (λ t. with_role t (cond (t.number == p.number) Waiting t.role)) tasks
    ∙ map_same (λ t. with_role t (displaced (cond (t.number == p.number) Waiting t.role)))
    (λ t. with_role t (displaced t.role)) tasks each where
      equal : (a b : ℕ) → (a == b) ≡ true → a ≡ b
      equal a b e = grind arith

      each : (t : Task) → IsMember t tasks
          → with_role t (displaced (cond (t.number == p.number) Waiting t.role)) ≡ with_role t (displaced t.role)
      each t m = by_test (t.number == p.number) refl where
        by_test : (b : Bool) → (t.number == p.number) ≡ b
            → with_role t (displaced (cond b Waiting t.role)) ≡ with_role t (displaced t.role)
        by_test true e =
            let same : t ≡ p = one_number 0 tasks all t p m member (equal t.number p.number e) in
            ap (with_role t) (sym (ap (λ (x : Task). displaced x.role) same ∙ waits))
        by_test false e = refl
