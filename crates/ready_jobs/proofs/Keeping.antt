-- The parts are kept where jobs go from one to another.
use Rattle.std.proofs.Common.{◌-◌, ◌≡◌, ℕ, ◌+◌, ◌≤◌, ◌<◌, inl, inr, List, [], ◌∷◌, ◌++◌, length, map, refl, sym, ap}
use Rattle.std.proofs.Common.{Bool, ◌∙◌, subst, arith, Option, Some, None, option_to_list, option_map, length-append}
use Rattle.std.proofs.lemmas.List.{length-map}
use Rattle.dover_model.specs.Common.{JobFacts, entry_of, ticked_by, with_role, IsMember, Each}
use Rattle.dover_model.specs.declared.events.Role.{Role}
use Rattle.dover_model.specs.declared.events.Role.TheVariants.{Fresh, Waiting, Held, Running}
use Rattle.dover_model.specs.declared.events.Task.{Task}
use Rattle.dover_model.specs.declared.events.Version.{Version}
use Rattle.dover_model.proofs.lists.Members.{on_map, member_front, member_behind, each_append, each_cons}
use Rattle.held_stack.specs.Kept.{Lasting, AreRoomsOf}
use Rattle.waiting_pool.specs.Pools.{Pooled}
use Rattle.ready_jobs.specs.Parts.{Parted, AreParts, ready_of, head_of, tail_of}
use Rattle.ready_jobs.specs.Changed.{made_wait}
use Rattle.waiting_pool.specs.Reordered.{IsReordered}
use Rattle.waiting_pool.specs.Short.{no_number}
use Rattle.waiting_pool.proofs.Reordering.{as_many}

-- the first held job runs on
abbrev pub resumed_of : Parted → Parted
resumed_of p = record p { running = option_map (λ h. with_role h Running) (head_of p.held); held = tail_of p.held }

pub resumed_one : (p : Parted) (h : Task) (rest : List Task) → p.held ≡ h ∷ rest
    → record p { running = Some (with_role h Running); held = rest } ≡ resumed_of p
resumed_one p h rest is = sym (ap (λ l. resumed_of (record p { held = l })) is)

-- or none is held
pub resumed_none : (p : Parted) → p.running ≡ None → p.held ≡ [] → p ≡ resumed_of p
resumed_none p free none = ap (λ o. record p { running = o }) free
    ∙ ap (λ l. record p { running = None; held = l }) none
    ∙ sym (ap (λ l. resumed_of (record p { held = l })) none)

-- how many there are in four lists
four_length : (a b c d : List Task) → length (a ++ (b ++ (c ++ d))) ≡ length a + (length b + (length c + length d))
four_length a b c d = omega (arith, length-append a (b ++ (c ++ d)), length-append b (c ++ d), length-append c d)

-- each of these jobs has that role, and a number that is small enough
abbrev InPart : Role → List Task → Type 0
InPart role = Each (λ t. (t.role ≡ role) × (t.number < no_number))

-- none does
none_in : (role : Role) → InPart role []
none_in role t m = absurd m

-- one more does
one_in : (role : Role) (t : Task) (ts : List Task) → t.number < no_number → InPart role ts
    → InPart role (with_role t role ∷ ts)
one_in role t ts less rest = each_cons (λ u. (u.role ≡ role) × (u.number < no_number)) (with_role t role) ts
    (refl, less) rest

-- so the jobs of four parts, for which there is room, are kept
parts_kept : (q : Parted) (rooms : Lasting) (pool : Pooled) (capacity : ℕ) → InPart Running (option_to_list q.running)
    → InPart Fresh (option_to_list q.fresh) → InPart Held q.held → InPart Waiting q.waiting
    → AreRoomsOf rooms (map entry_of q.held)
    → length (option_to_list q.running) + (length (option_to_list q.fresh) + (length q.held + length q.waiting))
    ≤ q.room
    → q.room ≤ 1_000_000 → q.room ≤ pool.room → q.room ≤ length q.held + rooms.spare → q.room ≤ capacity
    → AreParts q rooms pool capacity
parts_kept q rooms pool capacity running fresh held waiting are few most pool_room held_room stack_room = record {
  roles = record {
    running = λ t m. (running t m).0;
    fresh = λ t m. (fresh t m).0;
    held = λ t m. (held t m).0;
    waiting = λ t m. (waiting t m).0;
  };
  held = are;
  few = omega (arith, few, four_length (option_to_list q.running) (option_to_list q.fresh) q.held q.waiting);
  small = small_append (option_to_list q.running) (option_to_list q.fresh ++ (q.held ++ q.waiting))
      (λ t m. (running t m).1)
      (small_append (option_to_list q.fresh) (q.held ++ q.waiting) (λ t m. (fresh t m).1)
      (small_append q.held q.waiting (λ t m. (held t m).1) (λ t m. (waiting t m).1)));
  most = most;
  pool_room = pool_room;
  held_room = held_room;
  stack_room = stack_room;
} where
  small_append : (xs ys : List Task) → Each (λ t. t.number < no_number) xs → Each (λ t. t.number < no_number) ys
      → Each (λ t. t.number < no_number) (xs ++ ys)
  small_append = each_append (λ t. t.number < no_number)

module _ (p : Parted) (rooms : Lasting) (pool : Pooled) (capacity : ℕ) (kept : AreParts p rooms pool capacity) where
  -- the parts are kept whether the state is pressed or not
  pub pressed_kept : (pressed : Bool) → AreParts (record p { pressed = pressed }) rooms pool capacity
  pressed_kept pressed = record {
    roles = record {
      running = kept.roles.running;
      fresh = kept.roles.fresh;
      held = kept.roles.held;
      waiting = kept.roles.waiting;
    };
    held = kept.held;
    few = kept.few;
    small = kept.small;
    most = kept.most;
    pool_room = kept.pool_room;
    held_room = kept.held_room;
    stack_room = kept.stack_room;
  }

  abbrev A : List Task
  A = option_to_list p.running

  abbrev B : List Task
  B = option_to_list p.fresh

  running_in : InPart Running A
  running_in t m = (kept.roles.running t m, kept.small t (member_front A (B ++ (p.held ++ p.waiting)) t m))

  fresh_in : InPart Fresh B
  fresh_in t m = (
    kept.roles.fresh t m,
    kept.small t (member_behind A (B ++ (p.held ++ p.waiting)) t (member_front B (p.held ++ p.waiting) t m)),
  )

  pub small_held : Each (λ t. t.number < no_number) p.held
  small_held t m = kept.small t (member_behind A (B ++ (p.held ++ p.waiting)) t
      (member_behind B (p.held ++ p.waiting) t (member_front p.held p.waiting t m)))

  held_in : InPart Held p.held
  held_in t m = (kept.roles.held t m, small_held t m)

  waiting_in : InPart Waiting p.waiting
  waiting_in t m = (
    kept.roles.waiting t m,
    kept.small t (member_behind A (B ++ (p.held ++ p.waiting)) t
        (member_behind B (p.held ++ p.waiting) t (member_behind p.held p.waiting t m))),
  )

  -- how many there are
  few_now : length A + (length B + (length p.held + length p.waiting)) ≤ p.room
  few_now = omega (arith, kept.few, four_length A B p.held p.waiting)

  -- the running job goes
  pub completed_kept : AreParts (record p { running = None }) rooms pool capacity
  completed_kept = parts_kept (record p { running = None }) rooms pool capacity
      (none_in Running) fresh_in held_in waiting_in kept.held (omega (arith, few_now))
      kept.most kept.pool_room kept.held_room kept.stack_room

  -- the fresh job runs
  pub fresh_small : (f : Task) → p.fresh ≡ Some f → f.number < no_number
  fresh_small f is = (fresh_in f (subst (λ o. IsMember f (option_to_list o)) (sym is) (inl refl))).1

  pub begun_kept : (f : Task) → p.running ≡ None → p.fresh ≡ Some f
      → AreParts (record p { running = Some (with_role f Running); fresh = None }) rooms pool capacity
  begun_kept f free is =
      parts_kept (record p { running = Some (with_role f Running); fresh = None }) rooms pool capacity
      (one_in Running f [] (fresh_small f is) (none_in Running)) (none_in Fresh) held_in waiting_in kept.held
      (omega (arith, few_now, ap (λ o. length (option_to_list o)) is))
      kept.most kept.pool_room kept.held_room kept.stack_room

  -- the first held job runs
  pub resumed_kept : (h : Task) (rest : List Task) (left : Lasting) (room : ℕ) → p.running ≡ None → p.held ≡ h ∷ rest
      → AreRoomsOf left (map entry_of rest) → left.spare ≡ rooms.spare + 1 → p.room ≤ room
      → AreParts (record p { running = Some (with_role h Running); held = rest }) left pool room
  resumed_kept h rest left room free is rooms_are spare fits =
      parts_kept (record p { running = Some (with_role h Running); held = rest }) left pool room
      (one_in Running h [] (small_held h (subst (IsMember h) (sym is) (inl refl))) (none_in Running))
      fresh_in (λ t m. held_in t (subst (IsMember t) (sym is) (inr m))) waiting_in rooms_are
      (omega (arith, few_now, ap (λ l. length l) is, ap (λ o. length (option_to_list o)) free))
      kept.most kept.pool_room (omega (arith, kept.held_room, spare, ap (λ l. length l) is)) fits

  -- a job comes
  pub come_kept : (n clock : ℕ) (j : JobFacts) → p.fresh ≡ None → length (ready_of p) < p.room → n < no_number
      → p.clock ≤ clock
      → AreParts (record p { clock = clock; fresh = Some (record { number = n; job = j; role = Fresh; had = 0 }) })
      rooms pool capacity
  come_kept n clock j stale some less ahead =
      parts_kept (record p { clock = clock; fresh = Some job }) rooms pool capacity
      running_in (one_in Fresh job [] less (none_in Fresh)) held_in waiting_in kept.held
      (omega (arith, some, four_length A B p.held p.waiting, ap (λ o. length (option_to_list o)) stale))
      kept.most kept.pool_room kept.held_room kept.stack_room where
        job : Task
        job = record { number = n; job = j; role = Fresh; had = 0 }

  -- ticks pass
  pub ticked_kept : (n : ℕ)
      → AreParts (record p { clock = p.clock + n; running = option_map (ticked_by n) p.running }) rooms pool capacity
  ticked_kept n =
      parts_kept (record p { clock = p.clock + n; running = option_map (ticked_by n) p.running }) rooms pool capacity
      (in_later p.running running_in) fresh_in held_in waiting_in kept.held (omega (arith, few_now, as_long p.running))
      kept.most kept.pool_room kept.held_room kept.stack_room where
        as_long : (o : Option Task) → length (option_to_list (option_map (ticked_by n) o)) ≡ length (option_to_list o)
        as_long None = refl
        as_long (Some t) = refl

        in_later : (o : Option Task) → InPart Running (option_to_list o)
            → InPart Running (option_to_list (option_map (ticked_by n) o))
        in_later None have = have
        in_later (Some u) have = each_cons (λ t. (t.role ≡ Running) × (t.number < no_number)) (ticked_by n u) []
            (have u (inl refl)) (none_in Running)

  -- another version
  pub versioned_kept : (v : Version) → AreParts (record p { version = v }) rooms (record pool { version = v }) capacity
  versioned_kept v = parts_kept (record p { version = v }) rooms (record pool { version = v }) capacity
      running_in fresh_in held_in waiting_in kept.held few_now
      kept.most kept.pool_room kept.held_room kept.stack_room

  -- the held jobs have room
  pub held_fit : length p.held ≤ p.room
  held_fit = omega (arith, few_now)

  -- more room
  pub reserved_kept : (room more : ℕ) (left : Lasting) (pool' : Pooled) → AreRoomsOf left (map entry_of p.held)
      → p.room ≤ room → room ≤ 1_000_000
      → room ≤ pool'.room → room ≤ length p.held + left.spare → room ≤ more
      → AreParts (record p { room = room }) left pool' more
  reserved_kept room more left pool' same low most fits fits_held fits_stack =
      parts_kept (record p { room = room }) left pool' more
      running_in fresh_in held_in waiting_in same (omega (arith, few_now, low)) most fits fits_held fits_stack

  -- the fresh job waits
  pub stayed_kept : (f : Task) (pool' : Pooled) → p.fresh ≡ Some f
      → IsReordered (with_role f Waiting ∷ p.waiting) pool'.tasks → pool'.room ≡ pool.room
      → AreParts (record p { fresh = None; waiting = pool'.tasks }) rooms pool' capacity
  stayed_kept f pool' is more room =
      parts_kept (record p { fresh = None; waiting = pool'.tasks }) rooms pool' capacity
      running_in (none_in Fresh) held_in
      (λ t m. one_in Waiting f p.waiting (fresh_small f is) waiting_in t (more.back t m)) kept.held
      (omega (
        arith,
        few_now,
        as_many (with_role f Waiting ∷ p.waiting) pool'.tasks more,
        ap (λ o. length (option_to_list o)) is,
      ))
      kept.most (omega (arith, kept.pool_room, room)) kept.held_room kept.stack_room

  -- a waiting job runs
  pub started_kept : (o : Task) (pool' : Pooled) → p.running ≡ None → IsReordered p.waiting (o ∷ pool'.tasks)
      → pool'.room ≡ pool.room
      → AreParts (record p { running = Some (with_role o Running); waiting = pool'.tasks }) rooms pool' capacity
  started_kept o pool' free less room =
      parts_kept (record p { running = Some (with_role o Running); waiting = pool'.tasks }) rooms pool' capacity
      (one_in Running o [] (waiting_in o (less.back o (inl refl))).1 (none_in Running))
      fresh_in held_in (λ t m. waiting_in t (less.back t (inr m))) kept.held
      (omega (
        arith,
        few_now,
        as_many p.waiting (o ∷ pool'.tasks) less,
        ap (λ q. length (option_to_list q)) free,
      ))
      kept.most (omega (arith, kept.pool_room, room)) kept.held_room kept.stack_room

  -- the pool is another one with the same jobs
  pub same_kept : (pool' : Pooled) → pool'.tasks ≡ p.waiting → pool'.room ≡ pool.room
      → AreParts (record p { waiting = pool'.tasks }) rooms pool' capacity
  same_kept pool' same room = subst (λ l. AreParts (record p { waiting = l }) rooms pool' capacity) (sym same)
      (parts_kept p rooms pool' capacity running_in fresh_in held_in waiting_in kept.held few_now
      kept.most (omega (arith, kept.pool_room, room)) kept.held_room kept.stack_room)

  -- a waiting job goes
  pub less_kept : (o : Task) (pool' : Pooled) → IsReordered p.waiting (o ∷ pool'.tasks) → pool'.room ≡ pool.room
      → AreParts (record p { waiting = pool'.tasks }) rooms pool' capacity
  less_kept o pool' less room = parts_kept (record p { waiting = pool'.tasks }) rooms pool' capacity
      running_in fresh_in held_in (λ t m. waiting_in t (less.back t (inr m))) kept.held
      (omega (arith, few_now, as_many p.waiting (o ∷ pool'.tasks) less))
      kept.most (omega (arith, kept.pool_room, room)) kept.held_room kept.stack_room

  pub abandoned_kept : (o : Option Task) (pool' : Pooled)
      → ((t : Task) → o ≡ Some t → IsReordered p.waiting (t ∷ pool'.tasks))
      → (o ≡ None → pool'.tasks ≡ p.waiting) → pool'.room ≡ pool.room
      → AreParts (record p { waiting = pool'.tasks }) rooms pool' capacity
  abandoned_kept None pool' less none room = same_kept pool' (none refl) room
  abandoned_kept (Some t) pool' less none room = less_kept t pool' (less t refl) room

  -- the running job is held, and the fresh one runs
  pub busy_two : (r f : Task) → p.running ≡ Some r → p.fresh ≡ Some f → length p.held + 2 ≤ p.room
  busy_two r f runs is =
      omega (arith, few_now, ap (λ o. length (option_to_list o)) runs, ap (λ o. length (option_to_list o)) is)

  pub running_small : (r : Task) → p.running ≡ Some r → r.number < no_number
  running_small r is = (running_in r (subst (λ o. IsMember r (option_to_list o)) (sym is) (inl refl))).1

  pub preempted_kept : (r f : Task) (more : Lasting) (room : ℕ) → p.running ≡ Some r → p.fresh ≡ Some f
      → AreRoomsOf more (entry_of r ∷ map entry_of p.held) → more.spare ≡ rooms.spare - 1
      → p.room ≤ room
      → AreParts (record p { running = Some (with_role f Running); fresh = None; held = with_role r Held ∷ p.held })
      more pool room
  preempted_kept r f more room runs is more_are spare fits = parts_kept
      (record p { running = Some (with_role f Running); fresh = None; held = with_role r Held ∷ p.held }) more pool room
      (one_in Running f [] (fresh_small f is) (none_in Running)) (none_in Fresh)
      (one_in Held r p.held (running_small r runs) held_in) waiting_in more_are
      (omega (arith, few_now, ap (λ o. length (option_to_list o)) runs, ap (λ o. length (option_to_list o)) is))
      kept.most kept.pool_room (omega (arith, kept.held_room, busy_two r f runs is, spare)) fits

  pub some_busy : (r : Task) → p.running ≡ Some r → 1 + (length p.held + length p.waiting) ≤ length (ready_of p)
  some_busy r is = omega (arith, four_length A B p.held p.waiting, ap (λ o. length (option_to_list o)) is)

  pub all_fit : (r : Task) → p.running ≡ Some r → 1 + (length p.held + length p.waiting) ≤ p.room
  all_fit r is = omega (arith, kept.few, some_busy r is)

  -- a waiting job runs, and the running and the held ones wait
  module _ (r x : Task) (runs : p.running ≡ Some r) (pool' : Pooled)
      (out : IsReordered (map made_wait (r ∷ p.held) ++ p.waiting) (x ∷ pool'.tasks)) where
    all_in : InPart Waiting (x ∷ pool'.tasks)
    all_in t m = each_append (λ u. (u.role ≡ Waiting) × (u.number < no_number)) (map made_wait (r ∷ p.held)) p.waiting
        (on_map made_wait (λ u. (u.role ≡ Waiting) × (u.number < no_number)) (r ∷ p.held) (λ u k. (refl, both u k)))
        waiting_in t (out.back t m) where
          both : Each (λ u. u.number < no_number) (r ∷ p.held)
          both = each_cons (λ u. u.number < no_number) r p.held (running_small r runs) small_held

    pub taken_kept : (left : Lasting) (room : ℕ)
        → AreRoomsOf left [] → left.spare ≡ rooms.spare + length p.held
        → pool'.room ≡ pool.room → p.room ≤ room
        → AreParts (record p { running = Some (with_role x Running); held = []; waiting = pool'.tasks }) left pool' room
    taken_kept left room left_are spare same fits =
        parts_kept (record p { running = Some (with_role x Running); held = []; waiting = pool'.tasks }) left pool' room
        (one_in Running x [] (all_in x (inl refl)).1 (none_in Running)) fresh_in (none_in Held)
        (λ t m. all_in t (inr m)) left_are
        (omega (
          arith,
          few_now,
          as_many (map made_wait (r ∷ p.held) ++ p.waiting) (x ∷ pool'.tasks) out,
          length-append (map made_wait (r ∷ p.held)) p.waiting,
          length-map (r ∷ p.held) made_wait,
          ap (λ o. length (option_to_list o)) runs,
        ))
        kept.most (omega (arith, kept.pool_room, same)) (omega (arith, kept.held_room, spare)) fits
