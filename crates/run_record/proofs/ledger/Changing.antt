-- What a change of one job's role says of the tasks and of the held jobs.
use Rattle.std.proofs.Common.{◌≡◌, ℕ, suc, inl, inr, List, ◌∷◌, sym, ap, ◌∙◌, arith, map, refl, ◌+◌, ◌<◌, [], ◌++◌}
use Rattle.std.proofs.Common.{length, zero, set, get_or, subst, Bool, true, false, cond, Some, ◌==◌, nat_lt, slice_get}
use Rattle.std.proofs.Common.{filter}
use Rattle.dover_model.specs.declared.events.Task.{Task}
use Rattle.dover_model.specs.Common.{IsMember, IsNumberedFrom, Each, entry_of, with_role, is_held}
use Rattle.dover_model.proofs.steps.Roles.{numbers_above}
use Rattle.dover_model.specs.declared.events.Entry.{Entry}
use Rattle.dover_model.specs.declared.events.Role.{Role}
use Rattle.dover_model.proofs.steps.RoleChanges.{with_role_at}
use Rattle.dover_model.proofs.lists.Tests.{never}
use Rattle.dover_model.proofs.lists.Members.{some_same, member_filter}
use Rattle.held_stack.specs.Stack.{put_in, held_entries, by_deadline}
use Rattle.held_stack.proofs.Deadlines.{member_sorted}

-- t is the one of number n in tasks, and has another role in changed
pub record Changes (n : ℕ) (role : Role) (tasks changed : List Task) : Type 0 where
  pub front : List Task
  pub task : Task
  pub back : List Task
  pub place : length front ≡ n
  pub before : tasks ≡ front ++ task ∷ back
  pub after : changed ≡ front ++ with_role task role ∷ back

-- the job of an entry
pub of_entry : (ts : List Task) (y : Entry) → IsMember y (map entry_of ts) → (t : Task) × IsMember t ts
    × (y ≡ entry_of t)
of_entry [] y m = absurd m
of_entry (u ∷ us) y (inl e) = (u, inl refl, e)
of_entry (u ∷ us) y (inr m) = let rest = of_entry us y m in (rest.0, inr rest.1, rest.2)

-- its place is its number
pub place_number : (n : ℕ) (front back : List Task) (t : Task) → IsNumberedFrom n (front ++ t ∷ back)
    → t.number ≡ n + length front
place_number n [] back t all = all.0 ∙ add_none n where
  add_none : (m : ℕ) → m ≡ m + 0
  add_none m = omega arith
place_number n (x ∷ front) back t all = place_number (suc n) front back t all.1 ∙ shift n (length front) where
  shift : (m l : ℕ) → suc m + l ≡ m + suc l
  shift m l = omega arith

-- other jobs have other numbers
pub front_less : (n : ℕ) (front back : List Task) (t x : Task) → IsNumberedFrom n (front ++ t ∷ back) → IsMember x front
    → x.number < t.number
front_less n [] back t x all m = absurd m
front_less n (y ∷ front) back t x all (inl e) =
    let here : x.number ≡ n = ap (λ (z : Task). z.number) e ∙ all.0 in
    let later : t.number ≡ suc n + length front = place_number (suc n) front back t all.1 in
    omega arith
front_less n (y ∷ front) back t x all (inr m) = front_less (suc n) front back t x all.1 m

pub back_more : (n : ℕ) (front back : List Task) (t x : Task) → IsNumberedFrom n (front ++ t ∷ back) → IsMember x back
    → t.number < x.number
back_more n [] back t x all m = let later = numbers_above (suc n) back all.1 x m in omega (arith, all.0, later)
back_more n (y ∷ front) back t x all m = back_more (suc n) front back t x all.1 m

-- a write of one role
pub changes_at : (tasks : List Task) (n : ℕ) (role : Role) (d : Task) → n < length tasks
    → Changes n role tasks (set tasks n (with_role (get_or tasks n d) role))
changes_at [] n role d inside = absurd (omega arith)
changes_at (x ∷ tasks) zero role d inside =
    record { front = []; task = x; back = tasks; place = refl; before = refl; after = refl }
changes_at (x ∷ tasks) (suc n) role d inside =
    let rest = changes_at tasks n role d (omega arith) in
    record {
      front = x ∷ rest.front;
      task = rest.task;
      back = rest.back;
      place = ap suc rest.place;
      before = ap (λ ts. x ∷ ts) rest.before;
      after = ap (λ ts. x ∷ ts) rest.after;
    }

at_place : {X : Type 0} (front back : List X) (t : X) → slice_get (front ++ t ∷ back) (length front) ≡ Some t
at_place [] back t = refl
at_place (x ∷ front) back t = at_place front back t

module _ (n : ℕ) (tasks changed : List Task) (new : Role) (ch : Changes n new tasks changed) where
  found_here : slice_get tasks n ≡ Some ch.task
  found_here = ap (λ ts. slice_get ts n) ch.before ∙ ap (slice_get (ch.front ++ ch.task ∷ ch.back)) (sym ch.place)
      ∙ at_place ch.front ch.back ch.task

  pub is_number : IsNumberedFrom 0 tasks → ch.task.number ≡ n
  is_number all = place_number 0 ch.front ch.back ch.task (subst (IsNumberedFrom 0) ch.before all)
      ∙ no_more (length ch.front) ∙ ch.place where
        no_more : (m : ℕ) → 0 + m ≡ m
        no_more m = omega arith

  -- the change as one of all jobs
  pub is_map : IsNumberedFrom 0 tasks → changed ≡ with_role_at n new tasks
  is_map all = ch.after ∙ by_front 0 ch.front (subst (IsNumberedFrom 0) ch.before all) (is_number all)
      ∙ ap (with_role_at n new) (sym ch.before) where
        same : (x : Task) (b : Bool) → b ≡ false → with_role x (cond b new x.role) ≡ x
        same x true h = never (sym h)
        same x false h = refl

        differs : (x m : ℕ) → (x ≡ m → ⊥) → (x == m) ≡ false
        differs x m h = grind arith

        equals : (x m : ℕ) → x ≡ m → (x == m) ≡ true
        equals x m h = grind arith

        others : (xs : List Task) → Each (λ x. x.number ≡ n → ⊥) xs → xs ≡ with_role_at n new xs
        others [] other = refl
        others (x ∷ xs) other =
            ap (λ y. y ∷ xs) (sym (same x (x.number == n) (differs x.number n (other x (inl refl)))))
            ∙ ap (λ ys. with_role x (cond (x.number == n) new x.role) ∷ ys) (others xs (λ y m. other y (inr m)))

        by_front : (m : ℕ) (xs : List Task) → IsNumberedFrom m (xs ++ ch.task ∷ ch.back) → ch.task.number ≡ n
            → xs ++ with_role ch.task new ∷ ch.back ≡ with_role_at n new (xs ++ ch.task ∷ ch.back)
        by_front m [] numbered number =
            ap (λ b. with_role ch.task (cond b new ch.task.role) ∷ ch.back) (sym (equals ch.task.number n number))
            ∙ ap (λ ys. with_role ch.task (cond (ch.task.number == n) new ch.task.role) ∷ ys)
            (others ch.back (λ x member e. let later = back_more m [] ch.back ch.task x numbered member in
            omega (arith, later, number, e)))
        by_front m (x ∷ xs) numbered number =
            ap (λ y. y ∷ (xs ++ with_role ch.task new ∷ ch.back)) (sym (same x (x.number == n) (differs x.number n
            (λ e. let less = front_less m (x ∷ xs) ch.back ch.task x numbered (inl refl) in
            omega (arith, less, number, e)))))
            ∙ ap (λ ys. with_role x (cond (x.number == n) new x.role) ∷ ys) (by_front (suc m) xs numbered.1 number)

-- the tasks around t, before and after t has another role
pub record Splits (t : Task) (new : Role) (tasks changed : List Task) : Type 0 where
  pub front : List Task
  pub back : List Task
  pub before : tasks ≡ front ++ t ∷ back
  pub after : changed ≡ front ++ with_role t new ∷ back

-- a write at the number of t changes t
pub splits : (t : Task) (new : Role) (tasks changed : List Task) → slice_get tasks t.number ≡ Some t
    → Changes t.number new tasks changed
    → Splits t new tasks changed
splits t new tasks changed found ch =
    let same : ch.task ≡ t = some_same ch.task t (sym (found_here t.number tasks changed new ch) ∙ found) in
    record {
      front = ch.front;
      back = ch.back;
      before = ch.before ∙ ap (λ x. ch.front ++ x ∷ ch.back) same;
      after = ch.after ∙ ap (λ x. ch.front ++ with_role x new ∷ ch.back) same;
    }

-- an entry that is due before all goes to the front
pub put_first : (e : Entry) (xs : List Entry) → Each (λ f. e.deadline < f.deadline) xs → put_in e xs ≡ e ∷ xs
put_first e [] less = refl
put_first e (x ∷ xs) less = by_test (nat_lt x.deadline e.deadline) refl where
  not_less : (m n : ℕ) → n < m → nat_lt m n ≡ true → ⊥
  not_less m n h at = grind arith

  by_test : (b : Bool) → nat_lt x.deadline e.deadline ≡ b → cond b (x ∷ put_in e xs) (e ∷ x ∷ xs) ≡ e ∷ x ∷ xs
  by_test true h = absurd (not_less x.deadline e.deadline (less x (inl refl)) h)
  by_test false h = refl

-- what is due before the held jobs is due before their entries
pub entries_later : (d : ℕ) (tasks : List Task) → Each (λ t. is_held t ≡ true → d < t.job.deadline) tasks
    → Each (λ e. d < e.deadline) (held_entries tasks)
entries_later d tasks later y m =
    let it = of_entry (filter is_held tasks) y (member_sorted (map entry_of (filter is_held tasks)) y m) in
    let held = member_filter is_held tasks it.0 it.1 in
    subst (λ (x : Entry). d < x.deadline) (sym it.2) (later it.0 held.0 held.1)

module _ (p : Task → Bool) (t u : Task) where
  -- where neither passes, the same pass
  pub filter_same : (front back : List Task) → p t ≡ false → p u ≡ false
      → filter p (front ++ u ∷ back) ≡ filter p (front ++ t ∷ back)
  filter_same [] back t_fails u_fails = by_tests (p t) (p u) t_fails u_fails where
    by_tests : (b c : Bool) → b ≡ false → c ≡ false
        → cond c (u ∷ filter p back) (filter p back) ≡ cond b (t ∷ filter p back) (filter p back)
    by_tests true c h k = never (sym h)
    by_tests false true h k = never (sym k)
    by_tests false false h k = refl
  filter_same (x ∷ front) back t_fails u_fails = ap (λ l. cond (p x) (x ∷ l) l) (filter_same front back t_fails u_fails)

-- one that is due before all comes on top
pub held_in : (t u : Task) → is_held t ≡ false → is_held u ≡ true → (front back : List Task)
    → Each (λ x. is_held x ≡ true → u.job.deadline < x.job.deadline) (front ++ t ∷ back)
    → held_entries (front ++ u ∷ back) ≡ entry_of u ∷ held_entries (front ++ t ∷ back)
held_in t u t_not u_held [] back later = by_tests (is_held t) (is_held u) t_not u_held where
  by_tests : (b c : Bool) → b ≡ false → c ≡ true
      → by_deadline (map entry_of (cond c (u ∷ filter is_held back) (filter is_held back)))
      ≡ entry_of u ∷ by_deadline (map entry_of (cond b (t ∷ filter is_held back) (filter is_held back)))
  by_tests true c h k = never (sym h)
  by_tests false true h k =
      put_first (entry_of u) (held_entries back) (entries_later u.job.deadline back (λ x m. later x (inr m)))
  by_tests false false h k = never k
held_in t u t_not u_held (x ∷ front) back later =
    by_test (is_held x) refl (held_in t u t_not u_held front back (λ y m. later y (inr m))) where
      by_test : (b : Bool) → is_held x ≡ b
          → held_entries (front ++ u ∷ back) ≡ entry_of u ∷ held_entries (front ++ t ∷ back)
          → by_deadline (map entry_of
          (cond b (x ∷ filter is_held (front ++ u ∷ back)) (filter is_held (front ++ u ∷ back))))
          ≡ entry_of u ∷ by_deadline
          (map entry_of (cond b (x ∷ filter is_held (front ++ t ∷ back)) (filter is_held (front ++ t ∷ back))))
      by_test true h rest =
          ap (put_in (entry_of x)) rest
          ∙ ap (λ b. cond b (entry_of u ∷ put_in (entry_of x) (held_entries (front ++ t ∷ back)))
          (entry_of x ∷ entry_of u ∷ held_entries (front ++ t ∷ back)))
          (is_less u.job.deadline x.job.deadline (later x (inl refl) h)) where
            is_less : (m n : ℕ) → m < n → nat_lt m n ≡ true
            is_less m n h = grind arith
      by_test false h rest = rest
