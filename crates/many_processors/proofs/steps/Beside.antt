-- What a step leaves of a sound state for a processor on which nothing happens: some jobs change their roles beside it.
use Rattle.std.proofs.Common.{◌≡◌, ℕ, suc, ◌+◌, ◌≤◌, ◌<◌, ◌⊎◌, inl, inr, List, [], ◌∷◌, map, refl, sym, ap, ◌∙◌}
use Rattle.std.proofs.Common.{subst, true, false, arith}
use Rattle.dover_model.specs.declared.events.Task.{Task}
use Rattle.dover_model.specs.declared.events.Role.{Role}
use Rattle.dover_model.specs.declared.events.Role.TheVariants.{Coming, Fresh, Held, Running}
use Rattle.dover_model.specs.Common.{is_privileged, IsMember, Each, EachTwo, IsNumberedFrom, FitsRole, IsSound}
use Rattle.dover_model.specs.State.{state_at}
use Rattle.dover_model.proofs.lists.Tests.{never}
use Rattle.dover_model.proofs.lists.Members.{on_map, sum_map, sum_le}
use Rattle.dover_model.proofs.steps.Roles.{passes}
use Rattle.dover_model.proofs.steps.Loads.{Fits, share, load, room_of_fits, fits_of_room}

-- u is t in another role, of which the processor need know no more than that it isn't on it
pub record Beside (clock : ℕ) (t u : Task) : Type 0 where
  pub number : u.number ≡ t.number
  pub out : is_privileged u ≡ false
  pub came : t.role ≡ Coming → ⊥
  pub comes : u.role ≡ Coming → ⊥
  pub stale : u.role ≡ Fresh → ⊥
  pub at_most_work : u.had ≤ u.job.work
  pub fits : FitsRole clock u.role u

-- or it is unchanged
abbrev pub Side : ℕ → Task → Task → Type 0
Side clock t u = (u ≡ t) ⊎ Beside clock t u

module _ {X : Type 0} where
  -- of two members of a mapped list
  pub two_map : (f : X → Task) (R : Task → Task → Type 0) (xs : List X)
      → EachTwo (λ x y. R (f x) (f y)) xs → EachTwo R (map f xs)
  two_map f R xs all t u mt mu = on_map f (λ x. (y : Task) → IsMember y (map f xs) → R x y) xs
      (λ x mx. on_map f (λ y. R (f x) y) xs (λ y my. all x y mx my)) t mt u mu

  -- back to the members
  pub of_map : (f : X → Task) (P : Task → Type 0) (xs : List X) → Each P (map f xs) → Each (λ x. P (f x)) xs
  of_map f P (y ∷ xs) all x (inl e) = subst (λ z. P (f z)) (sym e) (all (f y) (inl refl))
  of_map f P (y ∷ xs) all x (inr member) = of_map f P xs (λ t m. all t (inr m)) x member
  of_map f P [] all x member = absurd member

  -- numbers stay
  pub numbers_stay : (f g : X → Task) (n : ℕ) (xs : List X) → Each (λ x. (g x).number ≡ (f x).number) xs
      → IsNumberedFrom n (map f xs) → IsNumberedFrom n (map g xs)
  numbers_stay f g n [] same numbered = tt
  numbers_stay f g n (x ∷ xs) same numbered =
      (same x (inl refl) ∙ numbered.0, numbers_stay f g (suc n) xs (λ y m. same y (inr m)) numbered.1)

  module _ (clock : ℕ) (f g : X → Task) (xs : List X) (side : Each (λ x. Side clock (f x) (g x)) xs)
      (sound : IsSound (state_at clock (map f xs))) where
    -- what holds of the unchanged ones and of those that are beside
    of_side : (P : Task → Type 0) → Each P (map f xs) → ((t u : Task) → Beside clock t u → P u) → Each P (map g xs)
    of_side P old new = on_map g P xs (λ x member. by_side x (side x member)
        (of_map f P xs old x member)) where
          by_side : (x : X) → Side clock (f x) (g x) → P (f x) → P (g x)
          by_side x (inl e) h = subst P (sym e) h
          by_side x (inr it) h = new (f x) (g x) it

    -- what holds of each two of those that are on the processor
    two_on : (R : Task → Task → Type 0) → EachTwo R (map f xs)
        → ((t u : Task) → is_privileged t ≡ false → R t u) → ((t u : Task) → is_privileged u ≡ false → R t u)
        → EachTwo R (map g xs)
    two_on R old first second = two_map g R xs (λ x y mx my. by_sides x y mx my (side x mx) (side y my)) where
      by_sides : (x y : X) → IsMember x xs → IsMember y xs → Side clock (f x) (g x) → Side clock (f y) (g y)
          → R (g x) (g y)
      by_sides x y mx my (inr it) _ = first (g x) (g y) it.out
      by_sides x y mx my (inl e) (inr it) = second (g x) (g y) it.out
      by_sides x y mx my (inl e) (inl e2) =
          subst (λ t. R t (g y)) (sym e) (subst (λ u. R (f x) u) (sym e2)
          (of_map f (λ u. R (f x) u) xs (λ u mu. of_map f (λ t. R t u) xs (λ t mt. old t u mt mu) x mx) y my))

    -- who is on it doesn't fail the test
    on_it : (t : Task) (role : Role) → is_privileged t ≡ false → (is_privileged (record {
      number = t.number;
      job = t.job;
      role = role;
      had = t.had;
    }) ≡ true) → t.role ≡ role → ⊥
    on_it t role out is_on e = never (sym out ∙ passes is_privileged t role true e is_on)

    -- the loads are no greater
    load_stays : (t : Task) → load (map g xs) t ≤ load (map f xs) t
    load_stays t = omega (
      arith,
      sum_map g (λ u. share (is_privileged u) t u) xs,
      sum_map f (λ u. share (is_privileged u) t u) xs,
      sum_le (λ x. share (is_privileged (g x)) t (g x)) (λ x. share (is_privileged (f x)) t (f x)) xs
          (λ x member. by_side x (side x member)),
    ) where
      by_side : (x : X) → Side clock (f x) (g x)
          → share (is_privileged (g x)) t (g x) ≤ share (is_privileged (f x)) t (f x)
      by_side x (inl e) = subst (λ u. share (is_privileged u) t u ≤ share (is_privileged (f x)) t (f x)) (sym e)
          (omega arith)
      by_side x (inr it) = omega (arith, ap (λ b. share b t (g x)) it.out)

    -- there is room
    room_stays : Fits 0 (state_at clock (map g xs))
    room_stays = of_side (λ t. is_privileged t ≡ true → clock + load (map g xs) t + 0 ≤ t.job.deadline)
        (λ t member is_in. let old : clock + load (map f xs) t + 0 ≤ t.job.deadline =
        fits_of_room (state_at clock (map f xs)) sound.room t member is_in in omega (arith, old, load_stays t))
        (λ t u it is_in. never (sym it.out ∙ is_in))

    -- the state is sound
    pub beside_sound : IsSound (state_at clock (map g xs))
    beside_sound = record {
      numbered = numbers_stay f g 0 xs (λ x member. by_side x (side x member)) sound.numbered;
      at_most_work = of_side (λ t. t.had ≤ t.job.work) sound.at_most_work (λ t u it. it.at_most_work);
      roles = of_side (λ t. FitsRole clock t.role t) sound.roles (λ t u it. it.fits);
      coming_last = two_map g (λ t u. t.role ≡ Coming → t.number ≤ u.number → u.role ≡ Coming) xs
          (λ x y mx my. by_sides x y mx my (side x mx) (side y my));
      one_runs = two_on (λ t u. t.role ≡ Running → u.role ≡ Running → t.number ≡ u.number) sound.one_runs
          (λ t u out runs _. absurd (on_it t Running out refl runs))
          (λ t u out _ runs. absurd (on_it u Running out refl runs));
      one_fresh = two_map g (λ t u. t.role ≡ Fresh → u.role ≡ Fresh → t.number ≡ u.number) xs
          (λ x y mx my. by_fresh x y mx my (side x mx) (side y my));
      distinct = two_on (λ t u. is_privileged t ≡ true → is_privileged u ≡ true → t.job.deadline ≡ u.job.deadline
          → t.number ≡ u.number) sound.distinct (λ t u out is_in _ _. never (sym out ∙ is_in))
          (λ t u out _ is_in _. never (sym out ∙ is_in));
      running_first = two_on (λ t u. t.role ≡ Running → u.role ≡ Held → t.job.deadline < u.job.deadline)
          sound.running_first (λ t u out runs _. absurd (on_it t Running out refl runs))
          (λ t u out _ held. absurd (on_it u Held out refl held));
      room = room_of_fits (state_at clock (map g xs)) room_stays;
    } where
      by_side : (x : X) → Side clock (f x) (g x) → (g x).number ≡ (f x).number
      by_side x (inl e) = ap (λ (t : Task). t.number) e
      by_side x (inr it) = it.number

      old_coming : (x y : X) → IsMember x xs → IsMember y xs → (f x).role ≡ Coming → (f x).number ≤ (f y).number
          → (f y).role ≡ Coming
      old_coming x y mx my = of_map f (λ u. (f x).role ≡ Coming → (f x).number ≤ u.number → u.role ≡ Coming) xs
          (λ u mu. of_map f (λ t. t.role ≡ Coming → t.number ≤ u.number → u.role ≡ Coming) xs
          (λ t mt. sound.coming_last t u mt mu) x mx) y my

      old_fresh : (x y : X) → IsMember x xs → IsMember y xs → (f x).role ≡ Fresh → (f y).role ≡ Fresh
          → (f x).number ≡ (f y).number
      old_fresh x y mx my = of_map f (λ u. (f x).role ≡ Fresh → u.role ≡ Fresh → (f x).number ≡ u.number) xs
          (λ u mu. of_map f (λ t. t.role ≡ Fresh → u.role ≡ Fresh → t.number ≡ u.number) xs
          (λ t mt. sound.one_fresh t u mt mu) x mx) y my

      by_sides : (x y : X) → IsMember x xs → IsMember y xs → Side clock (f x) (g x) → Side clock (f y) (g y)
          → (g x).role ≡ Coming → (g x).number ≤ (g y).number → (g y).role ≡ Coming
      by_sides x y mx my (inr it) _ comes before = absurd (it.comes comes)
      by_sides x y mx my (inl e) (inl e2) comes before =
          ap (λ (t : Task). t.role) e2 ∙ old_coming x y mx my (sym (ap (λ (t : Task). t.role) e) ∙ comes)
          (subst (λ t. t.number ≤ (f y).number) e (subst (λ u. (g x).number ≤ u.number) e2 before))
      by_sides x y mx my (inl e) (inr it) comes before = absurd (it.came
          (old_coming x y mx my (sym (ap (λ (t : Task). t.role) e) ∙ comes)
          (subst (λ t. t.number ≤ (f y).number) e (subst (λ n. (g x).number ≤ n) it.number before))))

      by_fresh : (x y : X) → IsMember x xs → IsMember y xs → Side clock (f x) (g x) → Side clock (f y) (g y)
          → (g x).role ≡ Fresh → (g y).role ≡ Fresh → (g x).number ≡ (g y).number
      by_fresh x y mx my (inr it) _ is _ = absurd (it.stale is)
      by_fresh x y mx my (inl e) (inr it) _ is = absurd (it.stale is)
      by_fresh x y mx my (inl e) (inl e2) is other =
          ap (λ (t : Task). t.number) e ∙ old_fresh x y mx my (sym (ap (λ (t : Task). t.role) e) ∙ is)
          (sym (ap (λ (t : Task). t.role) e2) ∙ other) ∙ sym (ap (λ (t : Task). t.number) e2)
