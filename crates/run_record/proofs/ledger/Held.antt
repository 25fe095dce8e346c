-- What the entries of the held jobs say of their room and value.
use Rattle.std.proofs.Common.{◌≡◌, sym, ◌∙◌, true, List, map, ap, ◌∷◌, refl, Bool, false, cond, ℕ, ◌<◌, inl, inr, subst}
use Rattle.std.proofs.Common.{[], arith, ◌+◌, ◌≤◌, filter, sum_by, ◌||◌, nat_lt, Some, length, ◌==◌, ne_eqb}
use Rattle.std.specs.Option.{option_map_or}
use Rattle.std.proofs.lemmas.List.Sums.{sum_by-cons}
use Rattle.dover_model.specs.declared.events.Role.TheVariants.{Running, Held}
use Rattle.dover_model.specs.declared.events.Task.{Task}
use Rattle.dover_model.specs.Common.{is_running, is_held, value_sum, is_privileged, room, entry_of, room_of, Each}
use Rattle.dover_model.specs.Common.{IsMember}
use Rattle.dover_model.proofs.steps.Roles.{is_running_role, is_held_role}
use Rattle.dover_model.specs.declared.events.Entry.{Entry}
use Rattle.dover_model.proofs.lists.Members.{sum_map, sum_filter, sum_le, some_same}
use Rattle.held_stack.specs.Stack.{value_of, held_entries, put_in, by_deadline, top_of}
use Rattle.held_stack.proofs.Deadlines.{sum_sorted, room_sorted, room_map}
use Rattle.run_record.proofs.ledger.Changing.{put_first, entries_later}
use Rattle.dover_model.proofs.lists.Tests.{none_is_some}

-- the running and the held jobs are apart
apart : (t : Task) → is_running t ≡ true → is_held t ≡ true → ⊥
apart t runs held = let e : Running ≡ Held = sym (is_running_role t runs) ∙ is_held_role t held in cc

-- the value of the held jobs
pub held_value : (tasks : List Task) (held : List Entry) → held ≡ held_entries tasks
    → value_of held ≡ value_sum (filter is_held tasks)
held_value tasks held is =
    ap value_of is ∙ sum_sorted (λ e. e.value) (map entry_of (filter is_held tasks))
    ∙ sum_map entry_of (λ e. e.value) (filter is_held tasks)

-- where none runs, the running and the held jobs are the held ones
pub free_privileged : (tasks : List Task) → filter is_running tasks ≡ []
    → filter is_privileged tasks ≡ filter is_held tasks
free_privileged [] none = refl
free_privileged (x ∷ tasks) none = by_test (is_running x) (is_held x) none (free_privileged tasks) where
  by_test : (b c : Bool) → cond b (x ∷ filter is_running tasks) (filter is_running tasks) ≡ []
      → (filter is_running tasks ≡ [] → filter is_privileged tasks ≡ filter is_held tasks)
      → cond (b || c) (x ∷ filter is_privileged tasks) (filter is_privileged tasks) ≡ cond c (x ∷ filter is_held tasks)
      (filter is_held tasks)
  by_test true c none rest = absurd (cons_none none) where
    cons_none : x ∷ filter is_running tasks ≡ [] → ⊥
    cons_none e = cc
  by_test false true none rest = ap (λ ts. x ∷ ts) (rest none)
  by_test false false none rest = rest none

-- the entries of the running and the held jobs
both_entries : (tasks : List Task) (r : Task) → filter is_running tasks ≡ r ∷ []
    → Each (λ t. is_held t ≡ true → r.job.deadline < t.job.deadline) tasks
    → by_deadline (map entry_of (filter is_privileged tasks)) ≡ entry_of r ∷ held_entries tasks
both_entries [] r runs later = absurd (none_cons runs) where
  none_cons : [] ≡ r ∷ [] → ⊥
  none_cons e = cc
both_entries (x ∷ tasks) r runs later = by_test (is_running x) (is_held x) refl refl runs
    (λ one. both_entries tasks r one (λ t m. later t (inr m))) where
      by_test : (b c : Bool) → is_running x ≡ b → is_held x ≡ c
          → cond b (x ∷ filter is_running tasks) (filter is_running tasks) ≡ r ∷ []
          → (filter is_running tasks ≡ r ∷ []
          → by_deadline (map entry_of (filter is_privileged tasks)) ≡ entry_of r ∷ held_entries tasks)
          → by_deadline (map entry_of (cond (b || c) (x ∷ filter is_privileged tasks) (filter is_privileged tasks)))
          ≡ entry_of r ∷ by_deadline (map entry_of (cond c (x ∷ filter is_held tasks) (filter is_held tasks)))
      by_test true true is held one rest = absurd (apart x is held)
      by_test true false is held one rest =
          let same : x ≡ r = cc in
          let none : filter is_running tasks ≡ [] = cc in
          ap (λ ts. put_in (entry_of x) (by_deadline (map entry_of ts))) (free_privileged tasks none)
          ∙ put_first (entry_of x) (held_entries tasks)
          (subst (λ z. Each (λ e. z.job.deadline < e.deadline) (held_entries tasks)) (sym same)
          (entries_later r.job.deadline tasks (λ t m. later t (inr m))))
          ∙ ap (λ z. entry_of z ∷ held_entries tasks) same
      by_test false true is held one rest =
          ap (put_in (entry_of x)) (rest one) ∙ ap (λ b. cond b (entry_of r ∷ put_in (entry_of x) (held_entries tasks))
          (entry_of x ∷ entry_of r ∷ held_entries tasks))
          (is_less r.job.deadline x.job.deadline (later x (inl refl) held)) where
            is_less : (m n : ℕ) → m < n → nat_lt m n ≡ true
            is_less m n h = grind arith
      by_test false false is held one rest = rest one

-- and that of the running job with it
pub busy_room : (clock : ℕ) (tasks : List Task) (held : List Entry) (r : Task) → held ≡ held_entries tasks
    → filter is_running tasks ≡ r ∷ []
    → Each (λ t. is_held t ≡ true → r.job.deadline < t.job.deadline) tasks
    → room_of clock (entry_of r ∷ held) ≡ room clock (filter is_privileged tasks)
busy_room clock tasks held r is runs later =
    ap (λ es. room_of clock (entry_of r ∷ es)) is ∙ ap (room_of clock) (sym (both_entries tasks r runs later))
    ∙ room_sorted clock (map entry_of (filter is_privileged tasks)) ∙ room_map clock (filter is_privileged tasks)

-- and what they are worth
pub busy_value : (tasks : List Task) (held : List Entry) (r : Task) → held ≡ held_entries tasks
    → filter is_running tasks ≡ r ∷ []
    → Each (λ t. is_held t ≡ true → r.job.deadline < t.job.deadline) tasks
    → r.job.value + value_of held ≡ value_sum (filter is_privileged tasks)
busy_value tasks held r is runs later = sym (sum_by-cons (λ e. e.value) (entry_of r) held)
    ∙ ap (λ es. value_of (entry_of r ∷ es)) is ∙ ap value_of (sym (both_entries tasks r runs later))
    ∙ sum_sorted (λ e. e.value) (map entry_of (filter is_privileged tasks))
    ∙ sum_map entry_of (λ e. e.value) (filter is_privileged tasks)

-- those that pass a test are worth no more than all
some_value : (b : Bool) (n : ℕ) → cond b n 0 ≤ n
some_value true n = omega arith
some_value false n = omega arith

pub value_part : (p : Task → Bool) (tasks : List Task) → value_sum (filter p tasks) ≤ value_sum tasks
value_part p tasks = omega (
  arith,
  sum_filter p (λ x. x.job.value) tasks,
  sum_le (λ x. cond (p x) x.job.value 0) (λ x. x.job.value) tasks (λ x m. some_value (p x) x.job.value),
)

-- the value of a job that fails a test fits beside that of those that pass
pub value_room : (p : Task → Bool) (tasks : List Task) (t : Task) → IsMember t tasks → p t ≡ false
    → value_sum (filter p tasks) + t.job.value ≤ value_sum tasks
value_room p tasks t member fails =
    let all = sum_filter p (λ x. x.job.value) tasks in
    let room = below tasks member in
    omega (arith, all, room) where
      below : (ts : List Task) → IsMember t ts
          → sum_by (λ x. cond (p x) x.job.value 0) ts + t.job.value ≤ sum_by (λ x. x.job.value) ts
      below [] m = absurd m
      below (x ∷ ts) (inl e) =
          let one = sum_by-cons (λ y. cond (p y) y.job.value 0) x ts in
          let other = sum_by-cons (λ y. y.job.value) x ts in
          let none : cond (p x) x.job.value 0 ≡ 0 = ap (λ b. cond b x.job.value 0) (ap p (sym e) ∙ fails) in
          let rest = sum_le (λ y. cond (p y) y.job.value 0) (λ y. y.job.value) ts
          (λ y m. some_value (p y) y.job.value) in
          let same : t.job.value ≡ x.job.value = ap (λ (y : Task). y.job.value) e in
          omega (arith, one, other, none, rest, same)
      below (x ∷ ts) (inr m) =
          let one = sum_by-cons (λ y. cond (p y) y.job.value 0) x ts in
          let other = sum_by-cons (λ y. y.job.value) x ts in
          let rest = below ts m in
          let here = some_value (p x) x.job.value in
          omega (arith, one, other, rest, here)

-- what holds of each entry holds of the top
pub top_later : (d : ℕ) (stack : List Entry) (x : Entry) → Each (λ f. d < f.deadline) stack → top_of stack ≡ Some x
    → d < x.deadline
top_later d [] x all top = none_is_some top
top_later d (e ∷ stack) x all top = subst (λ y. d < y.deadline) (some_same e x top) (all e (inl refl))

-- no job is on top where none is held
pub none_on_top : (tasks : List Task)
    → option_map_or (λ e. false) (top_of (by_deadline (map entry_of tasks))) true ≡ (length tasks == 0)
none_on_top [] = refl
none_on_top (t ∷ tasks) = some (by_deadline (map entry_of tasks))
    ∙ sym (ne_eqb (length (t ∷ tasks)) 0 (λ same. omega (arith, same))) where
      some : (es : List Entry) → option_map_or (λ e. false) (top_of (put_in (entry_of t) es)) true ≡ false
      some [] = refl
      some (e ∷ es) = by_test (nat_lt e.deadline t.job.deadline) where
        by_test : (b : Bool) → option_map_or (λ e. false)
            (top_of (cond b (e ∷ put_in (entry_of t) es) (entry_of t ∷ e ∷ es))) true ≡ false
        by_test true = refl
        by_test false = refl
