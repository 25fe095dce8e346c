-- What is seen of the ready jobs by their roles.
use Rattle.std.proofs.Common.{◌≡◌, ℕ, ◌-◌, ◌≤◌, ◌<◌, inl, inr, List, [], ◌∷◌, ◌++◌, map, min, refl, sym, ap, ◌∙◌, subst}
use Rattle.std.specs.Prelude.{◌||◌}
use Rattle.std.specs.List.{list_any}
use Rattle.std.proofs.Common.{not, Bool, true, false, cond, arith, nat_le, Option, Some, None, option_map}
use Rattle.std.proofs.Common.{option_to_list}
use Rattle.std.proofs.Common.{filter, find, fold, eq-eqb, ne_eqb, append-nil}
use Rattle.std.proofs.lemmas.Bool.{cases_lt}
use Rattle.std.proofs.lemmas.List.Elements.{filter-append}
use Rattle.dover_model.specs.declared.events.Version.{Version}
use Rattle.dover_model.specs.declared.events.Role.{Role}
use Rattle.dover_model.specs.declared.events.Role.TheVariants.{Fresh, Waiting, Held, Running}
use Rattle.dover_model.specs.declared.events.Task.{Task}
use Rattle.dover_model.specs.declared.events.Entry.{Entry}
use Rattle.dover_model.specs.Common.{entry_of, is_due_before, State, is_coming, is_fresh, is_waiting, is_held}
use Rattle.dover_model.specs.Common.{is_running, is_privileged, latest_start, running, due_first, starts_before, first}
use Rattle.dover_model.specs.Common.{earlier, with_role, is_at_latest_start, IsMember, Each}
use Rattle.dover_model.proofs.steps.EntryOrders.{strict_by, key_less}
use Rattle.dover_model.proofs.lists.Members.{reduce_none, filter_member, member_filter, some_same, find_none, find_head}
use Rattle.dover_model.proofs.steps.Roles.{passes}
use Rattle.dover_model.proofs.lists.Members.{each_append}
use Rattle.dover_model.specs.Common.{is_open_job}
use Rattle.dover_model.proofs.lists.Tests.{none_is_some, never}
use Rattle.ready_jobs.specs.Dues.{until_latest, until_done, still_ticks}
use Rattle.held_stack.specs.Stack.{IsByDeadline, IsDueBeforeAll}
use Rattle.waiting_pool.specs.Pools.{HaveOwnNumbers}
use Rattle.ready_jobs.specs.Parts.{Parted, HaveRole, HaveRoles, ready_of, state_of, head_of}
use Rattle.waiting_pool.proofs.Reordering.{first_is, first_only}
use Rattle.waiting_pool.proofs.Pooling.{apart_or_one}
use Rattle.ready_jobs.proofs.Views.{own_some}

-- ---- those that pass

pub filter_each : {X : Type 0} (p : X → Bool) (xs : List X) → Each (λ x. p x ≡ true) xs → filter p xs ≡ xs
filter_each p [] all = refl
filter_each p (x ∷ xs) all = ap (λ b. cond b (x ∷ filter p xs) (filter p xs)) (all x (inl refl))
    ∙ ap (λ l. x ∷ l) (filter_each p xs (λ y m. all y (inr m)))

pub filter_none : {X : Type 0} (p : X → Bool) (xs : List X) → Each (λ x. p x ≡ false) xs → filter p xs ≡ []
filter_none p [] all = refl
filter_none p (x ∷ xs) all = ap (λ b. cond b (x ∷ filter p xs) (filter p xs)) (all x (inl refl))
    ∙ filter_none p xs (λ y m. all y (inr m))

-- jobs of one role
module _ (p : Task → Bool) (role : Role) (tasks : List Task) (have : HaveRole role tasks) where
  pub role_all : ((t : Task) → p (with_role t role) ≡ true) → filter p tasks ≡ tasks
  role_all test = filter_each p tasks (λ t m. passes p t role true (have t m) (test t))

  pub role_none : ((t : Task) → p (with_role t role) ≡ false) → filter p tasks ≡ []
  role_none test = filter_none p tasks (λ t m. passes p t role false (have t m) (test t))

-- in four parts
pub four_parts : (p : Task → Bool) (a b c d : List Task)
    → filter p (a ++ (b ++ (c ++ d))) ≡ filter p a ++ (filter p b ++ (filter p c ++ filter p d))
four_parts p a b c d = cc (filter-append p a (b ++ (c ++ d)), filter-append p b (c ++ d), filter-append p c d)

module _ (q : Parted) (roles : HaveRoles q) where
  abbrev runs_now : List Task
  runs_now = option_to_list q.running

  abbrev fresh_now : List Task
  fresh_now = option_to_list q.fresh

  parts_are : (p : Task → Bool) (a b c d : List Task) → filter p runs_now ≡ a → filter p fresh_now ≡ b
      → filter p q.held ≡ c → filter p q.waiting ≡ d
      → filter p (ready_of q) ≡ a ++ (b ++ (c ++ d))
  parts_are p a b c d ia ib ic id = cc (four_parts p runs_now fresh_now q.held q.waiting)

  pub running_list : filter is_running (ready_of q) ≡ runs_now
  running_list =
      parts_are is_running runs_now [] [] [] (role_all is_running Running runs_now roles.running (λ t. refl))
      (role_none is_running Fresh fresh_now roles.fresh (λ t. refl))
      (role_none is_running Held q.held roles.held (λ t. refl))
      (role_none is_running Waiting q.waiting roles.waiting (λ t. refl)) ∙ append-nil runs_now

  pub fresh_list : filter is_fresh (ready_of q) ≡ fresh_now
  fresh_list =
      parts_are is_fresh [] fresh_now [] [] (role_none is_fresh Running runs_now roles.running (λ t. refl))
      (role_all is_fresh Fresh fresh_now roles.fresh (λ t. refl))
      (role_none is_fresh Held q.held roles.held (λ t. refl))
      (role_none is_fresh Waiting q.waiting roles.waiting (λ t. refl)) ∙ append-nil fresh_now

  pub coming_list : filter is_coming (ready_of q) ≡ []
  coming_list =
      parts_are is_coming [] [] [] [] (role_none is_coming Running runs_now roles.running (λ t. refl))
      (role_none is_coming Fresh fresh_now roles.fresh (λ t. refl))
      (role_none is_coming Held q.held roles.held (λ t. refl))
      (role_none is_coming Waiting q.waiting roles.waiting (λ t. refl))

  pub held_list : filter is_held (ready_of q) ≡ q.held
  held_list =
      parts_are is_held [] [] q.held [] (role_none is_held Running runs_now roles.running (λ t. refl))
      (role_none is_held Fresh fresh_now roles.fresh (λ t. refl)) (role_all is_held Held q.held roles.held (λ t. refl))
      (role_none is_held Waiting q.waiting roles.waiting (λ t. refl)) ∙ append-nil q.held

  pub waiting_list : filter is_waiting (ready_of q) ≡ q.waiting
  waiting_list =
      parts_are is_waiting [] [] [] q.waiting (role_none is_waiting Running runs_now roles.running (λ t. refl))
      (role_none is_waiting Fresh fresh_now roles.fresh (λ t. refl))
      (role_none is_waiting Held q.held roles.held (λ t. refl))
      (role_all is_waiting Waiting q.waiting roles.waiting (λ t. refl))

  pub privileged_list : filter is_privileged (ready_of q) ≡ runs_now ++ q.held
  privileged_list =
      parts_are is_privileged runs_now [] q.held [] (role_all is_privileged Running runs_now roles.running (λ t. refl))
      (role_none is_privileged Fresh fresh_now roles.fresh (λ t. refl))
      (role_all is_privileged Held q.held roles.held (λ t. refl))
      (role_none is_privileged Waiting q.waiting roles.waiting (λ t. refl))
      ∙ ap (λ l. runs_now ++ l) (append-nil q.held)

  -- of at most one
  find_of : (p : Task → Bool) (o : Option Task) (tasks : List Task) → filter p tasks ≡ option_to_list o
      → find p tasks ≡ o
  find_of p None tasks is = find_none p tasks is
  find_of p (Some t) tasks is = find_head p tasks t [] is

  pub seen_running : find is_running (ready_of q) ≡ q.running
  seen_running = find_of is_running q.running (ready_of q) running_list

  pub seen_fresh : find is_fresh (ready_of q) ≡ q.fresh
  seen_fresh = find_of is_fresh q.fresh (ready_of q) fresh_list

  pub seen_coming : find is_coming (ready_of q) ≡ None
  seen_coming = find_none is_coming (ready_of q) coming_list

-- ---- that some job is ready

-- each ready job is open
all_open : (q : Parted) → HaveRoles q → Each (λ t. is_open_job t ≡ true) (ready_of q)
all_open q roles =
    both (option_to_list q.running) (option_to_list q.fresh ++ (q.held ++ q.waiting))
    (of_role Running (option_to_list q.running) (λ t. refl) roles.running)
    (both (option_to_list q.fresh) (q.held ++ q.waiting)
    (of_role Fresh (option_to_list q.fresh) (λ t. refl) roles.fresh)
    (both q.held q.waiting (of_role Held q.held (λ t. refl) roles.held)
    (of_role Waiting q.waiting (λ t. refl) roles.waiting))) where
      both : (xs ys : List Task) → Each (λ t. is_open_job t ≡ true) xs → Each (λ t. is_open_job t ≡ true) ys
          → Each (λ t. is_open_job t ≡ true) (xs ++ ys)
      both = each_append (λ t. is_open_job t ≡ true)

      of_role : (role : Role) (ts : List Task) → ((t : Task) → is_open_job (with_role t role) ≡ true)
          → HaveRole role ts → Each (λ t. is_open_job t ≡ true) ts
      of_role role ts test have t m = passes is_open_job t role true (have t m) (test t)

any_open : (ts : List Task) (none : Bool) → Each (λ t. is_open_job t ≡ true) ts → (none ≡ true → ts ≡ [])
    → (ts ≡ [] → none ≡ true) → not none ≡ list_any is_open_job ts
any_open [] true each to from = refl
any_open [] false each to from = never (from refl)
any_open (t ∷ ts) true each to from = absurd (let clash : t ∷ ts ≡ [] = to refl in cc)
any_open (t ∷ ts) false each to from = sym (ap (λ b. b || list_any is_open_job ts) (each t (inl refl)))

-- so one is where they aren't none
pub some_open : (q : Parted) → HaveRoles q → (none : Bool) → (none ≡ true → ready_of q ≡ [])
    → (ready_of q ≡ [] → none ≡ true) → not none ≡ list_any is_open_job (ready_of q)
some_open q roles none = any_open (ready_of q) none (all_open q roles)

-- ---- the held jobs

-- where none comes before the first of a list, it is the first
pub first_head : {X : Type 0} (before : X → X → Bool) (x : X) (xs : List X) → Each (λ y. before y x ≡ false) xs
    → first before (x ∷ xs) ≡ Some x
first_head before x xs none = ap Some (stays xs none) where
  stays : (ys : List _) → Each (λ y. before y x ≡ false) ys → fold (earlier before) x ys ≡ x
  stays [] no_one = refl
  stays (y ∷ ys) no_one = ap (λ b. fold (earlier before) (cond b y x) ys) (no_one y (inl refl))
      ∙ stays ys (λ z m. no_one z (inr m))

-- a later deadline doesn't come before
later_not : (v : Version) (a b : Entry) → b.deadline < a.deadline → is_due_before v a b ≡ false
later_not v a b less =
    (strict_by (λ e. e.deadline) v).one_way b a (key_less (λ e. e.deadline) v b a less)

-- the one on top is the first
pub held_top : (v : Version) (tasks : List Task) → IsByDeadline (map entry_of tasks)
    → first (due_first v) tasks ≡ head_of tasks
held_top v [] order = refl
held_top v (t ∷ tasks) order = first_head (due_first v) t tasks
    (λ u m. later_not v (entry_of u) (entry_of t) (later tasks order.0 u m)) where
      later : (ts : List Task) → IsDueBeforeAll (entry_of t) (map entry_of ts) → (u : Task) → IsMember u ts
          → t.job.deadline < u.job.deadline
      later [] all u m = absurd m
      later (x ∷ ts) all u (inl e) = subst (λ (y : Task). t.job.deadline < y.job.deadline) (sym e) all.0
      later (x ∷ ts) all u (inr m) = later ts all.1 u m

-- ---- those at their latest start

module _ (v : Version) (s : State) (tasks : List Task) (own : HaveOwnNumbers tasks)
    (early : Each (λ t. s.clock ≤ latest_start t) tasks) where
  none_at : Each (λ t. s.clock < latest_start t) tasks → filter (is_at_latest_start s) tasks ≡ []
  none_at later = filter_none (is_at_latest_start s) tasks
      (λ t m. ne_eqb (latest_start t) s.clock (λ e. let less : s.clock < latest_start t = later t m in omega arith))

  pub late_none : first (starts_before v) tasks ≡ None
      → first (starts_before v) (filter (is_at_latest_start s) tasks) ≡ None
  late_none none = ap (first (starts_before v))
      (none_at (λ t m. absurd (reduce_none (earlier (starts_before v)) tasks none t m)))

  module _ (x : Task) (at : first (starts_before v) tasks ≡ Some x) where
    top : IsMember x tasks × Each (λ y. starts_before v y x ≡ true → ⊥) tasks
    top = first_is (starts_before v) (λ a b. (strict_by (λ e. e.latest) v).one_way (entry_of a) (entry_of b))
        (λ a b c. (strict_by (λ e. e.latest) v).onward (entry_of a) (entry_of b) (entry_of c)) tasks x at

    -- none starts earlier
    pub not_earlier : (t : Task) → IsMember t tasks → latest_start x ≤ latest_start t
    not_earlier t m = elim (cases_lt (latest_start t) (latest_start x)) [
      | inl less ↦ absurd (top.1 t m (key_less (λ e. e.latest) v (entry_of t) (entry_of x) less))
      | inr not ↦ not
    ]

    pub late_later : (latest_start x ≡ s.clock → ⊥)
        → first (starts_before v) (filter (is_at_latest_start s) tasks) ≡ None
    late_later other =
        let past : s.clock ≤ latest_start x = early x top.0 in
        ap (first (starts_before v))
        (none_at (λ t m. let low : latest_start x ≤ latest_start t = not_earlier t m in
        omega (arith, past, other, low)))

    pub late_found : latest_start x ≡ s.clock → first (starts_before v) (filter (is_at_latest_start s) tasks) ≡ Some x
    late_found same = first_only (starts_before v)
        (λ a b. (strict_by (λ e. e.latest) v).one_way (entry_of a) (entry_of b))
        (λ a b c. (strict_by (λ e. e.latest) v).onward (entry_of a) (entry_of b) (entry_of c))
        (filter (is_at_latest_start s) tasks) x
        (filter_member (is_at_latest_start s) tasks x top.0 (eq-eqb (latest_start x) s.clock same))
        (λ y m. top.1 y (member_filter (is_at_latest_start s) tasks y m).0)
        (apart_or_one (starts_before v) (λ a b. (strict_by (λ e. e.latest) v).total (entry_of a) (entry_of b)) _
        (own_some (is_at_latest_start s) tasks own))

  -- the first of those at their latest start, by the latest start of the first of all
  none_by : (o : Option Task) → first (starts_before v) tasks ≡ o → option_map latest_start o ≡ None
      → first (starts_before v) (filter (is_at_latest_start s) tasks) ≡ None
  none_by None at none = late_none at
  none_by (Some x) at none = none_is_some (sym none)

  pub start_none : option_map latest_start (first (starts_before v) tasks) ≡ None
      → first (starts_before v) (filter (is_at_latest_start s) tasks) ≡ None
  start_none none = none_by (first (starts_before v) tasks) refl none

  module _ (start : ℕ) where
    later_by : (o : Option Task) → first (starts_before v) tasks ≡ o → option_map latest_start o ≡ Some start
        → (start ≡ s.clock → ⊥) → first (starts_before v) (filter (is_at_latest_start s) tasks) ≡ None
    later_by None at is other = none_is_some is
    later_by (Some x) at is other = late_later x at (λ same. other (sym (some_same _ _ is) ∙ same))

    pub start_later : option_map latest_start (first (starts_before v) tasks) ≡ Some start → (start ≡ s.clock → ⊥)
        → first (starts_before v) (filter (is_at_latest_start s) tasks) ≡ None
    start_later is other = later_by (first (starts_before v) tasks) refl is other

    found_by : (o : Option Task) → first (starts_before v) tasks ≡ o → option_map latest_start o ≡ Some start
        → start ≡ s.clock → first (starts_before v) (filter (is_at_latest_start s) tasks) ≡ o
    found_by None at is same = none_is_some is
    found_by (Some x) at is same = late_found x at (some_same _ _ is ∙ same)

    pub start_found : option_map latest_start (first (starts_before v) tasks) ≡ Some start → start ≡ s.clock
        → first (starts_before v) (filter (is_at_latest_start s) tasks) ≡ first (starts_before v) tasks
    start_found is same = found_by (first (starts_before v) tasks) refl is same

-- ---- silent ticks

fold_most : (clock a : ℕ) (ts : List Task) → fold (until_latest clock) a ts ≤ a
fold_most clock a [] = omega arith
fold_most clock a (t ∷ ts) =
    let rest : fold (until_latest clock) (until_latest clock a t) ts ≤ until_latest clock a t =
    fold_most clock (until_latest clock a t) ts in
    let one : until_latest clock a t ≤ a = at_most (nat_le (latest_start t) clock) in
    omega arith where
      at_most : (b : Bool) → cond b a (min a (latest_start t - clock)) ≤ a
      at_most true = omega arith
      at_most false = omega arith

fold_each : (clock a : ℕ) (ts : List Task) (t : Task) → IsMember t ts → clock < latest_start t
    → fold (until_latest clock) a ts ≤ latest_start t - clock
fold_each clock a [] t m ahead = absurd m
fold_each clock a (x ∷ ts) t (inl e) ahead =
    let rest : fold (until_latest clock) (until_latest clock a x) ts ≤ until_latest clock a x =
    fold_most clock (until_latest clock a x) ts in
    let one : until_latest clock a x ≤ latest_start t - clock =
    subst (λ y. until_latest clock a y ≤ latest_start t - clock) e (at_most (nat_le (latest_start t) clock) refl) in
    omega arith where
      at_most : (b : Bool) → nat_le (latest_start t) clock ≡ b
          → cond b a (min a (latest_start t - clock)) ≤ latest_start t - clock
      at_most true h = absurd (no_less (latest_start t) clock h ahead) where
        no_less : (m n : ℕ) → nat_le m n ≡ true → n < m → ⊥
        no_less m n e less = grind arith
      at_most false h = omega arith
fold_each clock a (x ∷ ts) t (inr m) ahead = fold_each clock (until_latest clock a x) ts t m ahead

fold_least : (clock a n : ℕ) (ts : List Task) → n ≤ a → Each (λ t. n ≤ latest_start t - clock) ts
    → n ≤ fold (until_latest clock) a ts
fold_least clock a n [] low each = low
fold_least clock a n (t ∷ ts) low each =
    fold_least clock (until_latest clock a t) n ts (at_least (nat_le (latest_start t) clock))
    (λ u m. each u (inr m)) where
      here : n ≤ latest_start t - clock
      here = each t (inl refl)

      at_least : (b : Bool) → n ≤ cond b a (min a (latest_start t - clock))
      at_least true = low
      at_least false = let it = here in omega (arith, low, it)

-- the ticks before the first latest start
before_latest : (v : Version) (clock a : ℕ) (ts : List Task) (x : Task) → first (starts_before v) ts ≡ Some x
    → Each (λ t. clock < latest_start t) ts
    → min a (latest_start x - clock) ≡ fold (until_latest clock) a ts
before_latest v clock a ts x at early =
    let top = first_is (starts_before v) (λ c d. (strict_by (λ e. e.latest) v).one_way (entry_of c) (entry_of d))
    (λ c d e. (strict_by (λ e. e.latest) v).onward (entry_of c) (entry_of d) (entry_of e)) ts x at in
    let most : fold (until_latest clock) a ts ≤ a = fold_most clock a ts in
    let first_one : fold (until_latest clock) a ts ≤ latest_start x - clock =
    fold_each clock a ts x top.0 (early x top.0) in
    let least : min a (latest_start x - clock) ≤ fold (until_latest clock) a ts =
    fold_least clock a (min a (latest_start x - clock)) ts (omega arith)
    (λ t m. let low : latest_start x ≤ latest_start t = not_less t m top.1 in omega (arith, low)) in
    omega (arith, most, first_one, least) where
      not_less : (t : Task) → IsMember t ts → Each (λ y. starts_before v y x ≡ true → ⊥) ts
          → latest_start x ≤ latest_start t
      not_less t m best = elim (cases_lt (latest_start t) (latest_start x)) [
        | inl less ↦ absurd (best t m (key_less (λ e. e.latest) v (entry_of t) (entry_of x) less))
        | inr not ↦ not
      ]

pub before_start : (v : Version) (clock a : ℕ) (ts : List Task) (start : ℕ)
    → option_map latest_start (first (starts_before v) ts) ≡ Some start → Each (λ t. clock < latest_start t) ts
    → min a (start - clock) ≡ fold (until_latest clock) a ts
before_start v clock a ts start is early = by_first (first (starts_before v) ts) refl is where
  by_first : (o : Option Task) → first (starts_before v) ts ≡ o → option_map latest_start o ≡ Some start
      → min a (start - clock) ≡ fold (until_latest clock) a ts
  by_first None at is = none_is_some is
  by_first (Some x) at is =
      ap (λ n. min a (n - clock)) (sym (some_same _ _ is)) ∙ before_latest v clock a ts x at early

-- and where none waits
pub before_none : (v : Version) (clock a : ℕ) (ts : List Task)
    → option_map latest_start (first (starts_before v) ts) ≡ None → a ≡ fold (until_latest clock) a ts
before_none v clock a [] none = refl
before_none v clock a (t ∷ ts) none = none_is_some (sym none)

-- the ticks before anything is due, by the parts
pub still_is : (p : Parted) → HaveRoles p → (most : ℕ)
    → fold (until_latest p.clock) (until_done (running (state_of p)) most) p.waiting ≡ still_ticks most (state_of p)
still_is p roles most = cc (waiting_list p roles, seen_coming p roles)
