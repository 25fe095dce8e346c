-- Lists of entries of ready tasks: their numbers differ.
use Rattle.std.proofs.Common.{◌≡◌, ℕ, suc, ◌≤◌, ◌<◌, inl, inr, List, [], ◌∷◌, map, refl, sym, subst}
use Rattle.std.proofs.Common.{Bool, true, false, cond, arith, filter}
use Rattle.dover_model.specs.declared.events.Task.{Task}
use Rattle.dover_model.specs.declared.events.Entry.{Entry}
use Rattle.dover_model.specs.Common.{entry_of, left, IsMember, Each, IsNumberedFrom}
use Rattle.dover_model.proofs.steps.Roles.{numbers_above}
use Rattle.policy_lab.specs.Picks.{HaveOwnNumbers, AreReady, number_of}
use Rattle.policy_lab.specs.PolicyRun.{is_ready}
use Rattle.policy_lab.proofs.Given.{ready_says}

-- ---- the entries of ready tasks

-- of each entry, by the task that it is of
pub each_entry : (P : Entry → Type 0) (t : ℕ) (tasks : List Task)
    → ((task : Task) → IsMember task tasks → is_ready t task ≡ true → P (entry_of task))
    → Each P (map entry_of (filter (is_ready t) tasks))
each_entry P t [] of_task e member = absurd member
each_entry P t (task ∷ tasks) of_task entry among =
    by_test (is_ready t task) refl (each_entry P t tasks (λ other m. of_task other (inr m))) entry among where
      by_test : (b : Bool) → is_ready t task ≡ b → Each P (map entry_of (filter (is_ready t) tasks))
          → Each P (map entry_of (cond b (task ∷ filter (is_ready t) tasks) (filter (is_ready t) tasks)))
      by_test true ready rest e (inl same) = subst P (sym same) (of_task task (inl refl) ready)
      by_test true ready rest e (inr member) = rest e member
      by_test false late rest e later = rest e later

-- their numbers differ
own_numbers : (t n : ℕ) (tasks : List Task) → IsNumberedFrom n tasks
    → HaveOwnNumbers (map entry_of (filter (is_ready t) tasks))
own_numbers t n [] numbered = tt
own_numbers t n (task ∷ tasks) numbered = by_test (is_ready t task) (own_numbers t (suc n) tasks numbered.1) where
  by_test : (b : Bool) → HaveOwnNumbers (map entry_of (filter (is_ready t) tasks))
      → HaveOwnNumbers (map entry_of (cond b (task ∷ filter (is_ready t) tasks) (filter (is_ready t) tasks)))
  by_test true rest = (each_entry (λ e. e.number ≡ task.number → ⊥) t tasks apart, rest) where
    apart : (other : Task) → IsMember other tasks → is_ready t other ≡ true → other.number ≡ task.number → ⊥
    apart other member ready same =
        let above : suc n ≤ other.number = numbers_above (suc n) tasks numbered.1 other member in
        let here : task.number ≡ n = numbered.0 in omega arith
  by_test false rest = rest

-- they meet what a policy asks for
pub are_ready : (t : ℕ) (tasks : List Task) → IsNumberedFrom 0 tasks
    → AreReady (map entry_of (filter (is_ready t) tasks))
are_ready t tasks numbered = record {
  apart = own_numbers t 0 tasks numbered;
  unfinished = each_entry (λ e. 1 ≤ e.left) t tasks
      (λ task member ready. let some : 0 < left task = (ready_says t task ready).1 in omega arith);
}

-- a number among theirs is that of a ready task
pub number_ready : (t n : ℕ) (tasks : List Task) → IsMember n (map number_of (map entry_of (filter (is_ready t) tasks)))
    → (task : Task) × IsMember task tasks × (is_ready t task ≡ true) × (n ≡ task.number)
number_ready t n [] member = absurd member
number_ready t n (task ∷ tasks) member = by_test (is_ready t task) refl member (number_ready t n tasks) where
  by_test : (b : Bool) → is_ready t task ≡ b
      → IsMember n (map number_of
      (map entry_of (cond b (task ∷ filter (is_ready t) tasks) (filter (is_ready t) tasks))))
      → (IsMember n (map number_of (map entry_of (filter (is_ready t) tasks)))
      → (other : Task) × IsMember other tasks × (is_ready t other ≡ true) × (n ≡ other.number))
      → (other : Task) × IsMember other (task ∷ tasks) × (is_ready t other ≡ true) × (n ≡ other.number)
  by_test true ready (inl same) rest = (task, inl refl, ready, same)
  by_test true ready (inr later) rest = let it = rest later in (it.0, inr it.1, it.2, it.3)
  by_test false late later rest = let it = rest later in (it.0, inr it.1, it.2, it.3)
