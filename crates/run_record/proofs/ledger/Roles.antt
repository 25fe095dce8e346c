-- Jobs whose roles change: which stand in the held stack, and which runs.
use Rattle.std.proofs.Common.{◌≡◌, ℕ, suc, ◌+◌, ◌-◌, ◌<◌, inl, inr, List, [], ◌∷◌, map, refl, sym, ap, ◌∙◌, subst, Bool}
use Rattle.std.proofs.Common.{true, false, cond, arith, Some, filter}
use Rattle.std.specs.List.{AllByRecursion}
use Rattle.std.proofs.lemmas.Option.{slice_get_within}
use Rattle.dover_model.specs.declared.events.Entry.{Entry}
use Rattle.dover_model.specs.declared.events.Role.{Role}
use Rattle.dover_model.specs.declared.events.Role.TheVariants.{Coming, Held, Running}
use Rattle.dover_model.specs.declared.events.Task.{Task}
use Rattle.dover_model.specs.Common.{entry_of, IsMember, Each, IsNumberedFrom, is_held, is_running, with_role}
use Rattle.dover_model.specs.Common.{displaced, ticked}
use Rattle.dover_model.proofs.lists.Members.{on_map, member_filter, by_bool}
use Rattle.dover_model.proofs.steps.Roles.{is_held_role, is_running_role, numbers_above}
use Rattle.dover_model.proofs.lists.Tests.{never, none_is_some}
use Rattle.held_stack.specs.Stack.{top_of, by_deadline, held_entries}
use Rattle.dover_model.proofs.steps.RoleChanges.{with_role_at, all_displaced, task_at}
use Rattle.run_record.proofs.ledger.Changing.{Changes, Splits, changes_at, is_map, splits, of_entry, filter_same}
use Rattle.run_record.proofs.ledger.Changing.{held_in}
use Rattle.held_stack.proofs.Deadlines.{member_sorted}

-- the tasks around one whose role changes
pub split_of : (tasks : List Task) → IsNumberedFrom 0 tasks → (t : Task) → IsMember t tasks → (new : Role)
    → Splits t new tasks (with_role_at t.number new tasks)
split_of tasks all t member new =
    let found = task_at tasks t all member in
    let ch = changes_at tasks t.number new t (slice_get_within tasks t.number t found) in
    splits t new tasks (with_role_at t.number new tasks) found
    (subst (Changes t.number new tasks) (is_map t.number tasks _ new ch all) ch)

-- the held jobs stay, where one that isn't held gets another role
pub held_same : (tasks : List Task) → IsNumberedFrom 0 tasks → (t : Task) → IsMember t tasks → (new : Role)
    → is_held t ≡ false → is_held (with_role t new) ≡ false
    → held_entries tasks ≡ held_entries (with_role_at t.number new tasks)
held_same tasks all t member new before behind =
    let sp = split_of tasks all t member new in
    ap held_entries sp.before
    ∙ sym (ap held_entries sp.after
    ∙ ap (λ ts. by_deadline (map entry_of ts)) (filter_same is_held t (with_role t new) sp.front sp.back before behind))

-- one that is due before all held jobs comes on top
pub held_more : (tasks : List Task) → IsNumberedFrom 0 tasks → (t : Task) → IsMember t tasks → is_held t ≡ false
    → Each (λ x. is_held x ≡ true → t.job.deadline < x.job.deadline) tasks
    → entry_of t ∷ held_entries tasks ≡ held_entries (with_role_at t.number Held tasks)
held_more tasks all t member before later =
    let sp = split_of tasks all t member Held in
    ap (λ ts. entry_of t ∷ held_entries ts) sp.before
    ∙ sym (ap held_entries sp.after
    ∙ held_in t (with_role t Held) before refl sp.front sp.back
    (subst (Each (λ x. is_held x ≡ true → t.job.deadline < x.job.deadline)) sp.before later))

-- and one that is due before the other held jobs goes from the top
pub held_less : (tasks : List Task) → IsNumberedFrom 0 tasks → (t : Task) → IsMember t tasks → is_held t ≡ true
    → Each (λ x. is_held x ≡ true → t.job.deadline < x.job.deadline) (with_role_at t.number Running tasks)
    → held_entries tasks ≡ entry_of t ∷ held_entries (with_role_at t.number Running tasks)
held_less tasks all t member before later =
    let sp = split_of tasks all t member Running in
    ap held_entries sp.before
    ∙ held_in (with_role t Running) t refl before sp.front sp.back
    (subst (Each (λ x. is_held x ≡ true → t.job.deadline < x.job.deadline)) sp.after later)
    ∙ sym (ap (λ ts. entry_of t ∷ held_entries ts) sp.after)

-- a test that none passes
pub none_pass : (p : Task → Bool) (tasks : List Task) → Each (λ t. p t ≡ false) tasks → filter p tasks ≡ []
none_pass p [] fail = refl
none_pass p (t ∷ tasks) fail = by_test (p t) (fail t (inl refl)) (none_pass p tasks (λ u m. fail u (inr m))) where
  by_test : (b : Bool) → b ≡ false → filter p tasks ≡ [] → cond b (t ∷ filter p tasks) (filter p tasks) ≡ []
  by_test true e rest = never (sym e)
  by_test false e rest = rest

-- none is held where all are displaced
pub none_held : (tasks : List Task) → [] ≡ held_entries (all_displaced tasks)
none_held tasks = ap (λ ts. by_deadline (map entry_of ts)) (sym (none_pass is_held (all_displaced tasks)
    (on_map (λ t. with_role t (displaced t.role)) (λ t. is_held t ≡ false) tasks (λ t m. by_case t t.role)))) where
      by_case : (t : Task) (role : Role) → is_held (with_role t (displaced role)) ≡ false
      by_case t Coming = refl
      by_case t _ = refl

-- the held jobs stay in a tick
pub held_ticked : (tasks : List Task) → held_entries tasks ≡ held_entries (map ticked tasks)
held_ticked tasks = ap by_deadline (same tasks) where
  one : (t : Task) (more : List Entry) (c : Bool) → is_held t ≡ true → is_running t ≡ c
      → entry_of t ∷ more ≡ entry_of (ticked t) ∷ more
  one t more false e f = ap (λ (d : Bool). record {
    number = t.number;
    deadline = t.job.deadline;
    latest = t.job.deadline - (t.job.work - cond d (t.had + 1) t.had);
    left = t.job.work - cond d (t.had + 1) t.had;
    value = t.job.value;
  } ∷ more) (sym f)
  one t more true e f = absurd (apart (sym (is_held_role t e) ∙ is_running_role t f)) where
    apart : Held ≡ Running → ⊥
    apart h = cc

  same : (ts : List Task) → map entry_of (filter is_held ts) ≡ map entry_of (filter is_held (map ticked ts))
  same [] = refl
  same (t ∷ ts) = by_test (is_held t) refl (same ts) where
    by_test : (b : Bool) → is_held t ≡ b
        → map entry_of (filter is_held ts) ≡ map entry_of (filter is_held (map ticked ts))
        → map entry_of (cond b (t ∷ filter is_held ts) (filter is_held ts))
        ≡ map entry_of (cond b (ticked t ∷ filter is_held (map ticked ts)) (filter is_held (map ticked ts)))
    by_test true e rest = ap (λ es. entry_of t ∷ es) rest
        ∙ one t (map entry_of (filter is_held (map ticked ts))) (is_running t) e refl
    by_test false e rest = rest

-- the one on top is a held job
pub top_held : (tasks : List Task) (held : List Entry) (e : Entry) → held ≡ held_entries tasks → top_of held ≡ Some e
    → (t : Task) × IsMember t tasks × (t.role ≡ Held) × (e ≡ entry_of t)
top_held tasks held e is top =
    let it = of_entry (filter is_held tasks) e
    (member_sorted (map entry_of (filter is_held tasks)) e (subst (IsMember e) is (top_member held top))) in
    let passed = member_filter is_held tasks it.0 it.1 in
    (it.0, passed.0, is_held_role it.0 passed.1, it.2) where
      top_member : (es : List Entry) → top_of es ≡ Some e → IsMember e es
      top_member [] none = none_is_some none
      top_member (x ∷ es) some = inl (let same : x ≡ e = cc in sym same)

-- the only one that runs
pub one_runner : (n : ℕ) (tasks : List Task) → IsNumberedFrom n tasks → (r : Task) → IsMember r tasks
    → is_running r ≡ true → Each (λ t. is_running t ≡ true → t.number ≡ r.number) tasks
    → filter is_running tasks ≡ r ∷ []
one_runner n [] all r member runs only = absurd member
one_runner n (x ∷ tasks) all r (inl e) runs only = by_test (is_running x) (ap is_running (sym e) ∙ runs) where
  others : Each (λ t. is_running t ≡ false) tasks
  others t m = by_bool (is_running t ≡ false) (is_running t)
      (λ yes_. absurd (omega (
        arith,
        only t (inr m) yes_,
        ap (λ (y : Task). y.number) e,
        all.0,
        numbers_above (suc n) tasks all.1 t m,
      )))
      (λ no_. no_)

  by_test : (b : Bool) → b ≡ true → cond b (x ∷ filter is_running tasks) (filter is_running tasks) ≡ r ∷ []
  by_test true h = ap (λ ts. x ∷ ts) (none_pass is_running tasks others) ∙ ap (λ y. y ∷ []) (sym e)
  by_test false h = never h
one_runner n (x ∷ tasks) all r (inr m) runs only =
    (elim (is_running x) as (λ b. is_running x ≡ b → filter is_running tasks ≡ r ∷ [] → cond b
    (x ∷ filter is_running tasks) (filter is_running tasks) ≡ r ∷ []) [
      | true ↦ λ h rest. absurd (omega (arith, only x (inl refl) h, all.0, numbers_above (suc n) tasks all.1 r m))
      | false ↦ λ h rest. rest
    ]) refl (one_runner (suc n) tasks all.1 r m runs (λ t k. only t (inr k)))

-- what holds of each holds by recursion
pub each_all : (P : Entry → Type 0) (es : List Entry) → Each P es → AllByRecursion P es
each_all P [] all = tt
each_all P (e ∷ es) all = (all e (inl refl), each_all P es (λ f m. all f (inr m)))
