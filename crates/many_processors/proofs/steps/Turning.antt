-- What a silent tick leaves of a sound state, as one processor sees it: its running job has a tick more.
use Rattle.std.proofs.Common.{◌≡◌, ℕ, ◌+◌, ◌≤◌, ◌<◌, ◌⊎◌, inl, inr, List, [], ◌∷◌, map, refl, sym, ap, ◌∙◌}
use Rattle.std.proofs.Common.{subst, Bool, true, false, cond, arith, sum_by, nat_lt, lt-ltb}
use Rattle.std.proofs.lemmas.List.Sums.{sum_by-cons}
use Rattle.dover_model.specs.declared.events.Task.{Task}
use Rattle.dover_model.specs.declared.events.Role.{Role}
use Rattle.dover_model.specs.declared.events.Role.TheVariants.{Coming, Fresh, Held, Running}
use Rattle.dover_model.specs.Common.{is_privileged, left, IsMember, Each, EachTwo, FitsRole, IsSound}
use Rattle.dover_model.specs.State.{state_at}
use Rattle.dover_model.proofs.lists.Tests.{never}
use Rattle.dover_model.proofs.lists.Members.{on_map, sum_map, sum_le}
use Rattle.dover_model.proofs.steps.Roles.{passes, is_privileged_role}
use Rattle.dover_model.proofs.steps.Loads.{Fits, share, load, room_of_fits, fits_of_room}
use Rattle.many_processors.proofs.steps.Beside.{two_map, of_map, numbers_stay}

-- t a tick later
pub record Turned (clock : ℕ) (t u : Task) : Type 0 where
  pub number : u.number ≡ t.number
  pub job : u.job ≡ t.job
  pub had : t.had ≤ u.had
  pub at_most_work : u.had ≤ u.job.work
  pub role : u.role ≡ t.role
  pub runs : u.role ≡ Running → left u + 1 ≤ left t
  pub fits : FitsRole (clock + 1) u.role u

-- a sum with a lesser term
pub sum_less : {X : Type 0} (f g : X → ℕ) (xs : List X) (x : X) → IsMember x xs → Each (λ y. f y ≤ g y) xs
    → f x + 1 ≤ g x → sum_by f xs + 1 ≤ sum_by g xs
sum_less f g [] x member all less = absurd member
sum_less f g (y ∷ xs) x (inl e) all less = omega (
  arith,
  sum_by-cons f y xs,
  sum_by-cons g y xs,
  subst (λ z. f z + 1 ≤ g z) e less,
  sum_le f g xs (λ z m. all z (inr m)),
)
sum_less f g (y ∷ xs) x (inr member) all less = omega (
  arith,
  sum_by-cons f y xs,
  sum_by-cons g y xs,
  all y (inl refl),
  sum_less f g xs x member (λ z m. all z (inr m)) less,
)

-- less left adds less, and of a smaller set
share_turns : (a b c : Bool) (m n : ℕ) → (a ≡ true → b ≡ true) → m ≤ n → cond a (cond c m 0) 0 ≤ cond b (cond c n 0) 0
share_turns false b c m n h less = omega arith
share_turns true true true m n h less = less
share_turns true true false m n h less = omega arith
share_turns true false c m n h less = never (h refl)

module _ {X : Type 0} (clock : ℕ) (f g : X → Task) (xs : List X) (turned : Each (λ x. Turned clock (f x) (g x)) xs)
    (sound : IsSound (state_at clock (map f xs)))
    (some_runs : ((x : X) × IsMember x xs × ((g x).role ≡ Running))
    ⊎ Each (λ x. is_privileged (f x) ≡ true → ⊥) xs) where
  -- a role is as before
  old_role : (x : X) → IsMember x xs → (role : Role) → (g x).role ≡ role → (f x).role ≡ role
  old_role x member role e = sym (turned x member).role ∙ e

  -- who is on the processor was on it
  was_on : (x : X) → IsMember x xs → is_privileged (g x) ≡ true → is_privileged (f x) ≡ true
  was_on x member is_in = by_role (is_privileged_role (g x) is_in) where
    by_role : ((g x).role ≡ Running) ⊎ ((g x).role ≡ Held) → is_privileged (f x) ≡ true
    by_role (inl e) = passes is_privileged (f x) Running true (old_role x member Running e) refl
    by_role (inr e) = passes is_privileged (f x) Held true (old_role x member Held e) refl

  -- none has more left
  no_more : (x : X) → IsMember x xs → left (g x) ≤ left (f x)
  no_more x member = omega (
    arith,
    (turned x member).had,
    ap (λ (j : _). j.work) (turned x member).job,
  )

  -- the share of each in a load is no more
  shares : (t : Task) → Each (λ y. share (is_privileged (g y)) t (g y) ≤ share (is_privileged (f y)) t (f y)) xs
  shares t y member = subst (λ d. cond (is_privileged (g y)) (cond (nat_lt d t.job.deadline) (left (g y)) 0) 0
      ≤ share (is_privileged (f y)) t (f y)) (sym (ap (λ (j : _). j.deadline) (turned y member).job))
      (share_turns (is_privileged (g y)) (is_privileged (f y)) (nat_lt (f y).job.deadline t.job.deadline) (left (g y))
      (left (f y)) (was_on y member) (no_more y member))

  -- the load of the running job
  load_runs : (x : X) → IsMember x xs → (g x).role ≡ Running → load (map g xs) (g x) + 1 ≤ load (map f xs) (f x)
  load_runs x member runs = omega (
    arith,
    (turned x member).runs runs,
    sum_map g (λ u. share (is_privileged u) (g x) u) xs,
    sum_map f (λ u. share (is_privileged u) (f x) u) xs,
    sum_le (λ y. share (is_privileged (g y)) (g x) (g y)) (λ y. share (is_privileged (f y)) (g x) (f y)) xs
        (shares (g x)),
    same_due (g x).job.deadline (f x).job.deadline (ap (λ (j : _). j.deadline) (turned x member).job),
  ) where
    same_due : (d e : ℕ) → d ≡ e → sum_by (λ y. cond (is_privileged (f y)) (cond (nat_lt (f y).job.deadline d)
        (left (f y)) 0) 0) xs ≡ sum_by (λ y. cond (is_privileged (f y)) (cond (nat_lt (f y).job.deadline e)
        (left (f y)) 0) 0) xs
    same_due d e same = ap (λ n. sum_by (λ y. cond (is_privileged (f y)) (cond (nat_lt (f y).job.deadline n)
        (left (f y)) 0) 0) xs) same

  -- that of a held one
  load_held : (r : X) → IsMember r xs → (g r).role ≡ Running → (x : X) → IsMember x xs → (g x).role ≡ Held
      → load (map g xs) (g x) + 1 ≤ load (map f xs) (f x)
  load_held r r_member runs x member held = omega (
    arith,
    no_more x member,
    sum_map g (λ u. share (is_privileged u) (g x) u) xs,
    sum_map f (λ u. share (is_privileged u) (f x) u) xs,
    sum_less (λ y. share (is_privileged (g y)) (g x) (g y)) (λ y. share (is_privileged (f y)) (g x) (f y)) xs r r_member
        (shares (g x)) drops,
    ap (λ n. sum_by (λ y. cond (is_privileged (f y)) (cond (nat_lt (f y).job.deadline n) (left (f y)) 0) 0) xs) due,
  ) where
    due : (g x).job.deadline ≡ (f x).job.deadline
    due = ap (λ (j : _). j.deadline) (turned x member).job

    before : (f r).job.deadline < (f x).job.deadline
    before = of_map f (λ u. u.role ≡ Held → (f r).job.deadline < u.job.deadline) xs
        (λ u mu. of_map f (λ t. t.role ≡ Running → u.role ≡ Held → t.job.deadline < u.job.deadline) xs
        (λ t mt. sound.running_first t u mt mu) r r_member (old_role r r_member Running runs)) x member
        (old_role x member Held held)

    one_less : (a b c d : Bool) (m n : ℕ) → a ≡ true → b ≡ true → c ≡ true → d ≡ true → m + 1 ≤ n
        → cond a (cond c m 0) 0 + 1 ≤ cond b (cond d n 0) 0
    one_less true true true true m n e f g h less = less
    one_less false b c d m n e f g h less = never e
    one_less true false c d m n e f g h less = never f
    one_less true true false d m n e f g h less = never g
    one_less true true true false m n e f g h less = never h

    drops : share (is_privileged (g r)) (g x) (g r) + 1 ≤ share (is_privileged (f r)) (g x) (f r)
    drops = one_less (is_privileged (g r)) (is_privileged (f r)) (nat_lt (g r).job.deadline (g x).job.deadline)
        (nat_lt (f r).job.deadline (g x).job.deadline) (left (g r)) (left (f r))
        (passes is_privileged (g r) Running true runs refl)
        (passes is_privileged (f r) Running true (old_role r r_member Running runs) refl)
        (lt-ltb _ _ (omega (arith, before, due, ap (λ (j : _). j.deadline) (turned r r_member).job)))
        (lt-ltb _ _ (omega (arith, before, due))) ((turned r r_member).runs runs)

  -- there is room
  room_turns : Fits 0 (state_at (clock + 1) (map g xs))
  room_turns = on_map g (λ t. is_privileged t ≡ true → clock + 1 + load (map g xs) t + 0 ≤ t.job.deadline) xs
      (λ x member is_in. by_run x member is_in some_runs) where
        old : (x : X) → IsMember x xs → is_privileged (g x) ≡ true → clock + load (map f xs) (f x) + 0
            ≤ (f x).job.deadline
        old x member is_in = of_map f (λ t. is_privileged t ≡ true → clock + load (map f xs) t + 0 ≤ t.job.deadline) xs
            (fits_of_room (state_at clock (map f xs)) sound.room) x member (was_on x member is_in)

        by_run : (x : X) → IsMember x xs → is_privileged (g x) ≡ true
            → ((r : X) × IsMember r xs × ((g r).role ≡ Running)) ⊎ Each (λ y. is_privileged (f y) ≡ true → ⊥) xs
            → clock + 1 + load (map g xs) (g x) + 0 ≤ (g x).job.deadline
        by_run x member is_in (inr none) = absurd (none x member (was_on x member is_in))
        by_run x member is_in (inl it) = by_role (is_privileged_role (g x) is_in) where
          by_role : ((g x).role ≡ Running) ⊎ ((g x).role ≡ Held)
              → clock + 1 + load (map g xs) (g x) + 0 ≤ (g x).job.deadline
          by_role (inl e) = omega (
            arith,
            old x member is_in,
            load_runs x member e,
            ap (λ (j : _). j.deadline) (turned x member).job,
          )
          by_role (inr e) = omega (
            arith,
            old x member is_in,
            load_held it.0 it.1 it.2 x member e,
            ap (λ (j : _). j.deadline) (turned x member).job,
          )

  -- the state is sound
  pub turned_sound : IsSound (state_at (clock + 1) (map g xs))
  turned_sound = record {
    numbered = numbers_stay f g 0 xs (λ x member. (turned x member).number) sound.numbered;
    at_most_work = on_map g (λ t. t.had ≤ t.job.work) xs (λ x member. (turned x member).at_most_work);
    roles = on_map g (λ t. FitsRole (clock + 1) t.role t) xs (λ x member. (turned x member).fits);
    coming_last = two_map g (λ t u. t.role ≡ Coming → t.number ≤ u.number → u.role ≡ Coming) xs
        (λ x y mx my comes before. new_coming y my
        (old_two (λ t u. t.role ≡ Coming → t.number ≤ u.number → u.role ≡ Coming) sound.coming_last x y mx my
        (old_role x mx Coming comes) (omega (arith, before, (turned x mx).number, (turned y my).number))));
    one_runs = two_map g (λ t u. t.role ≡ Running → u.role ≡ Running → t.number ≡ u.number) xs
        (λ x y mx my runs other. (turned x mx).number
        ∙ old_two (λ t u. t.role ≡ Running → u.role ≡ Running → t.number ≡ u.number) sound.one_runs x y mx my
        (old_role x mx Running runs) (old_role y my Running other) ∙ sym (turned y my).number);
    one_fresh = two_map g (λ t u. t.role ≡ Fresh → u.role ≡ Fresh → t.number ≡ u.number) xs
        (λ x y mx my is other. (turned x mx).number
        ∙ old_two (λ t u. t.role ≡ Fresh → u.role ≡ Fresh → t.number ≡ u.number) sound.one_fresh x y mx my
        (old_role x mx Fresh is) (old_role y my Fresh other) ∙ sym (turned y my).number);
    distinct = two_map g (λ t u. is_privileged t ≡ true → is_privileged u ≡ true → t.job.deadline ≡ u.job.deadline
        → t.number ≡ u.number) xs (λ x y mx my is_in other same. (turned x mx).number
        ∙ old_two (λ t u. is_privileged t ≡ true → is_privileged u ≡ true → t.job.deadline ≡ u.job.deadline
        → t.number ≡ u.number) sound.distinct x y mx my (was_on x mx is_in) (was_on y my other)
        (sym (due x mx) ∙ same ∙ due y my) ∙ sym (turned y my).number);
    running_first = two_map g (λ t u. t.role ≡ Running → u.role ≡ Held → t.job.deadline < u.job.deadline) xs
        (λ x y mx my runs held. omega (
          arith,
          old_two (λ t u. t.role ≡ Running → u.role ≡ Held → t.job.deadline < u.job.deadline) sound.running_first x y mx
              my (old_role x mx Running runs) (old_role y my Held held),
          due x mx,
          due y my,
        ));
    room = room_of_fits (state_at (clock + 1) (map g xs)) room_turns;
  } where
    due : (x : X) → IsMember x xs → (g x).job.deadline ≡ (f x).job.deadline
    due x member = ap (λ (j : _). j.deadline) (turned x member).job

    old_two : (R : Task → Task → Type 0) → EachTwo R (map f xs) → (x y : X) → IsMember x xs → IsMember y xs
        → R (f x) (f y)
    old_two R all x y mx my = of_map f (λ u. R (f x) u) xs
        (λ u mu. of_map f (λ t. R t u) xs (λ t mt. all t u mt mu) x mx) y my

    new_coming : (y : X) → IsMember y xs → (f y).role ≡ Coming → (g y).role ≡ Coming
    new_coming y my comes = (turned y my).role ∙ comes
