-- Members of lists, and sums over lists.
use Rattle.std.proofs.Common.{◌≡◌, ℕ, zero, suc, ◌+◌, ◌≤◌, ◌⊎◌, inl, inr, List, [], ◌∷◌, ◌++◌, map, refl, sym, ap, ◌∙◌}
use Rattle.std.proofs.Common.{subst, Bool, true, false, cond, arith}
use Rattle.std.specs.Prelude.{Some, None, Result, Ok, Err, OnErr, ◌&&◌, replicate}
use Rattle.std.specs.List.{sum_by, filter, find, fold, reduce, list_all, enumerate_from, AllByRecursion}
use Rattle.std.proofs.lemmas.Bool.{and_parts}
use Rattle.std.proofs.lemmas.List.Sums.{sum_by-cons}
use Rattle.dover_model.specs.Sound.{IsMember, Each}
use Rattle.dover_model.proofs.lists.Tests.{never}

-- a test holds or fails
pub by_bool : (P : Type 0) (b : Bool) → (b ≡ true → P) → (b ≡ false → P) → P
by_bool P true on off = on refl
by_bool P false on off = off refl

-- whatever an error is
pub err_any : {T E P : Type 0} (r : Result T E) → P → OnErr r P
err_any (Ok x) p = tt
err_any (Err e) p = p

-- equal options have equal contents
pub some_same : {X : Type 0} (x y : X) → Some x ≡ Some y → x ≡ y
some_same x y e = cc

-- a member has a number
pub number_of : {X : Type 0} (k : ℕ) (xs : List X) (x : X) → IsMember x xs
    → (n : ℕ) × IsMember (n, x) (enumerate_from k xs)
number_of {X} k [] x member = absurd member
number_of {X} k (y ∷ xs) x (inl e) = (k, inl (ap (λ z. (k, z)) e))
number_of {X} k (y ∷ xs) x (inr member) =
    let it : (n : ℕ) × IsMember (n, x) (enumerate_from (k + 1) xs) = number_of (k + 1) xs x member in (it.0, inr it.1)

-- equal lists have equal heads
pub heads : {X : Type 0} (x y : X) (xs ys : List X) → x ∷ xs ≡ y ∷ ys → x ≡ y
heads x y xs ys e = cc

-- and equal tails
pub tails : {X : Type 0} (x y : X) (xs ys : List X) → x ∷ xs ≡ y ∷ ys → xs ≡ ys
tails x y xs ys e = cc

-- what holds of the members of two lists holds of those of both
pub all_append : {X : Type 0} (P : X → Type 0) (xs ys : List X) → AllByRecursion P xs → AllByRecursion P ys
    → AllByRecursion P (xs ++ ys)
all_append P [] ys one other = other
all_append P (x ∷ xs) ys one other = (one.0, all_append P xs ys one.1 other)

-- what holds of all holds of an element behind others
pub all_at : {X : Type 0} (P : X → Type 0) (xs : List X) (y : X) (ys : List X) → AllByRecursion P (xs ++ y ∷ ys) → P y
all_at P [] y ys all = all.0
all_at P (x ∷ xs) y ys all = all_at P xs y ys all.1

-- and of the last
pub all_last : {X : Type 0} (P : X → Type 0) (xs : List X) (y : X) → AllByRecursion P (xs ++ y ∷ []) → P y
all_last P xs y all = all_at P xs y [] all

-- what holds of one holds of all its copies
pub all_copies : {X : Type 0} (P : X → Type 0) (n : ℕ) (x : X) → P x → AllByRecursion P (replicate n x)
all_copies P zero x it = tt
all_copies P (suc n) x it = (it, all_copies P n x it)

-- what follows of each from two facts that hold of all
pub all_both : {X : Type 0} (P Q R : X → Type 0) (xs : List X) → ((x : X) → P x → Q x → R x) → AllByRecursion P xs
    → AllByRecursion Q xs
    → AllByRecursion R xs
all_both P Q R [] h all other = tt
all_both P Q R (x ∷ xs) h all other = (h x all.0 other.0, all_both P Q R xs h all.1 other.1)

module _ {X : Type 0} where
  -- a member of the first of two lists
  pub member_front : (xs ys : List X) (x : X) → IsMember x xs → IsMember x (xs ++ ys)
  member_front [] ys x member = absurd member
  member_front (y ∷ xs) ys x (inl e) = inl e
  member_front (y ∷ xs) ys x (inr member) = inr (member_front xs ys x member)

  -- a member of the second
  pub member_behind : (xs ys : List X) (x : X) → IsMember x ys → IsMember x (xs ++ ys)
  member_behind [] ys x member = member
  member_behind (y ∷ xs) ys x member = inr (member_behind xs ys x member)

  -- a member of both is one of either
  pub member_either : (xs ys : List X) (x : X) → IsMember x (xs ++ ys) → IsMember x xs ⊎ IsMember x ys
  member_either [] ys x member = inr member
  member_either (y ∷ xs) ys x (inl e) = inl (inl e)
  member_either (y ∷ xs) ys x (inr member) = by_rest (member_either xs ys x member) where
    by_rest : IsMember x xs ⊎ IsMember x ys → ((x ≡ y) ⊎ IsMember x xs) ⊎ IsMember x ys
    by_rest (inl first) = inl (inr first)
    by_rest (inr second) = inr second

  -- of one in front of others
  pub each_cons : (P : X → Type 0) (x : X) (xs : List X) → P x → Each P xs → Each P (x ∷ xs)
  each_cons P x xs here more y (inl e) = subst P (sym e) here
  each_cons P x xs here more y (inr member) = more y member

  -- of each of two lists
  pub each_append : (P : X → Type 0) (xs ys : List X) → Each P xs → Each P ys → Each P (xs ++ ys)
  each_append P [] ys one other y member = other y member
  each_append P (x ∷ xs) ys one other y (inl e) = one y (inl e)
  each_append P (x ∷ xs) ys one other y (inr member) = each_append P xs ys (λ z m. one z (inr m)) other y member

  -- of each and of one behind them
  pub each_behind : (P : X → Type 0) (xs : List X) (y : X) → Each P xs → P y → Each P (xs ++ (y ∷ []))
  each_behind P xs y all here = each_append P xs (y ∷ []) all (each_cons P y [] here (λ z member. absurd member))

  -- what holds of each member holds of all by recursion
  pub each_all : (P : X → Type 0) (xs : List X) → Each P xs → AllByRecursion P xs
  each_all P [] all = tt
  each_all P (x ∷ xs) all = (all x (inl refl), each_all P xs (λ y m. all y (inr m)))

  -- where none passes, none stays
  pub filter_none : (p : X → Bool) (xs : List X) → Each (λ x. p x ≡ false) xs → filter p xs ≡ []
  filter_none p [] none = refl
  filter_none p (x ∷ xs) none = ap (λ b. cond b (x ∷ filter p xs) (filter p xs)) (none x (inl refl))
      ∙ filter_none p xs (λ y m. none y (inr m))

module _ {X : Type 0} where
  -- a member that passes stays
  pub filter_member : (p : X → Bool) (xs : List X) (y : X) → IsMember y xs → p y ≡ true → IsMember y (filter p xs)
  filter_member p [] y member passes = absurd member
  filter_member p (x ∷ xs) y (inl e) passes = by_test (p x) (subst (λ z. p z ≡ true) e passes) where
    by_test : (b : Bool) → b ≡ true → IsMember y (cond b (x ∷ filter p xs) (filter p xs))
    by_test true h = inl e
    by_test false h = never h
  filter_member p (x ∷ xs) y (inr member) passes = by_test (p x) (filter_member p xs y member passes) where
    by_test : (b : Bool) → IsMember y (filter p xs) → IsMember y (cond b (x ∷ filter p xs) (filter p xs))
    by_test true h = inr h
    by_test false h = h

  -- what stays is a member that passes
  pub member_filter : (p : X → Bool) (xs : List X) (y : X) → IsMember y (filter p xs) → IsMember y xs × (p y ≡ true)
  member_filter p [] y member = absurd member
  member_filter p (x ∷ xs) y member = by_test (p x) refl member (member_filter p xs y) where
    by_test : (b : Bool) → p x ≡ b → IsMember y (cond b (x ∷ filter p xs) (filter p xs))
        → (IsMember y (filter p xs) → IsMember y xs × (p y ≡ true)) → ((y ≡ x) ⊎ IsMember y xs) × (p y ≡ true)
    by_test true passes (inl e) more = (inl e, subst (λ z. p z ≡ true) (sym e) passes)
    by_test true passes (inr later) more = (inr (more later).0, (more later).1)
    by_test false fails later more = (inr (more later).0, (more later).1)

  -- what is found is a member that passes
  pub found : (p : X → Bool) (xs : List X) (y : X) → find p xs ≡ Some y → IsMember y xs × (p y ≡ true)
  found p [] y some = absurd (let e : None ≡ Some y = some in cc)
  found p (x ∷ xs) y some = by_test (p x) refl some (found p xs y) where
    by_test : (b : Bool) → p x ≡ b → cond b (Some x) (find p xs) ≡ Some y
        → (find p xs ≡ Some y → IsMember y xs × (p y ≡ true))
        → ((y ≡ x) ⊎ IsMember y xs) × (p y ≡ true)
    by_test true passes here more = let e : y ≡ x = cc in (inl e, subst (λ z. p z ≡ true) (sym e) passes)
    by_test false fails later more = (inr (more later).0, (more later).1)

  -- where none is found, none passes
  pub not_found : (p : X → Bool) (xs : List X) → find p xs ≡ None → Each (λ x. p x ≡ false) xs
  not_found p [] none y member = absurd member
  not_found p (x ∷ xs) none y member = by_test (p x) refl none (not_found p xs) y member where
    by_test : (b : Bool) → p x ≡ b → cond b (Some x) (find p xs) ≡ None
        → (find p xs ≡ None → Each (λ y. p y ≡ false) xs)
        → Each (λ y. p y ≡ false) (x ∷ xs)
    by_test true passes here more y m = absurd (let e : Some x ≡ None = here in cc)
    by_test false fails later more y (inl e) = subst (λ z. p z ≡ false) (sym e) fails
    by_test false fails later more y (inr member) = more later y member

  -- where all pass, each does
  pub all_each : (p : X → Bool) (xs : List X) → list_all p xs ≡ true → Each (λ x. p x ≡ true) xs
  all_each p [] all = λ y member. absurd member
  all_each p (x ∷ xs) all = let it = and_parts (p x) (list_all p xs) all in
      each_cons (λ y. p y ≡ true) x xs it.0 (all_each p xs it.1)

  -- where not all pass, one fails
  pub not_all : (p : X → Bool) (xs : List X) → list_all p xs ≡ false → (x : X) × IsMember x xs × (p x ≡ false)
  not_all p [] none = never (sym none)
  not_all p (x ∷ xs) none = by_test (p x) refl none (not_all p xs) where
    by_test : (b : Bool) → p x ≡ b → (b && list_all p xs) ≡ false
        → (list_all p xs ≡ false → (y : X) × IsMember y xs × (p y ≡ false))
        → (y : X) × IsMember y (x ∷ xs) × (p y ≡ false)
    by_test true passes rest more = ((more rest).0, inr (more rest).1, (more rest).2)
    by_test false fails rest more = (x, inl refl, fails)

  -- an element that a fold keeps as the best so far, by a key
  module _ (f : X → X → X) (key : X → ℕ)
      (picks : (a x : X) → ((f a x ≡ x) × (key x ≤ key a)) ⊎ ((f a x ≡ a) × (key a ≤ key x))) where
    fold_least : (xs : List X) (a : X) → IsMember (fold f a xs) (a ∷ xs) × (key (fold f a xs) ≤ key a)
        × Each (λ x. key (fold f a xs) ≤ key x) xs
    fold_least [] a = (inl refl, omega arith, λ x member. absurd member)
    fold_least (x ∷ xs) a = by_pick (picks a x) (fold_least xs (f a x)) where
      after : X
      after = fold f (f a x) xs

      by_member : (y : X) → (f a x ≡ y) → IsMember (fold f (f a x) xs) (f a x ∷ xs) → (fold f (f a x) xs ≡ y)
          ⊎ IsMember (fold f (f a x) xs) xs
      by_member y e (inl same) = inl (same ∙ e)
      by_member y e (inr later) = inr later

      by_pick : ((f a x ≡ x) × (key x ≤ key a)) ⊎ ((f a x ≡ a) × (key a ≤ key x))
          → IsMember (fold f (f a x) xs) (f a x ∷ xs) × (key (fold f (f a x) xs) ≤ key (f a x))
          × Each (λ y. key (fold f (f a x) xs) ≤ key y) xs
          → ((fold f (f a x) xs ≡ a) ⊎ ((fold f (f a x) xs ≡ x) ⊎ IsMember (fold f (f a x) xs) xs))
          × (key (fold f (f a x) xs) ≤ key a) × Each
          (λ y. key (fold f (f a x) xs) ≤ key y) (x ∷ xs)
      by_pick (inl it) ih =
          let low : key (fold f (f a x) xs) ≤ key x = subst (λ z. key (fold f (f a x) xs) ≤ key z) it.0 ih.1 in
          let less : key x ≤ key a = it.1 in
          (inr (by_member x it.0 ih.0), omega arith, each_cons (λ y. key (fold f (f a x) xs) ≤ key y) x xs low ih.2)
      by_pick (inr it) ih =
          let low : key (fold f (f a x) xs) ≤ key a = subst (λ z. key (fold f (f a x) xs) ≤ key z) it.0 ih.1 in
          let less : key a ≤ key x = it.1 in
          let at_x : key (fold f (f a x) xs) ≤ key x = omega arith in
          (by_other (by_member a it.0 ih.0), low, each_cons (λ y. key (fold f (f a x) xs) ≤ key y) x xs at_x ih.2) where
            by_other : (fold f (f a x) xs ≡ a) ⊎ IsMember (fold f (f a x) xs) xs
                → (fold f (f a x) xs ≡ a) ⊎ ((fold f (f a x) xs ≡ x) ⊎ IsMember (fold f (f a x) xs) xs)
            by_other (inl e) = inl e
            by_other (inr m) = inr (inr m)

    -- what `reduce` gives is a member of least key
    pub reduce_least : (xs : List X) (y : X) → reduce f xs ≡ Some y → IsMember y xs × Each (λ x. key y ≤ key x) xs
    reduce_least [] y some = absurd (let e : None ≡ Some y = some in cc)
    reduce_least (x ∷ xs) y some =
        subst (λ z. IsMember z (x ∷ xs) × Each (λ u. key z ≤ key u) (x ∷ xs)) (some_same _ _ some) (least.0, each) where
          least : IsMember (fold f x xs) (x ∷ xs) × (key (fold f x xs) ≤ key x)
              × Each (λ u. key (fold f x xs) ≤ key u) xs
          least = fold_least xs x

          each : Each (λ u. key (fold f x xs) ≤ key u) (x ∷ xs)
          each u (inl e) = subst (λ z. key (fold f x xs) ≤ key z) (sym e) least.1
          each u (inr member) = least.2 u member

  -- `reduce` gives nothing of an empty list alone
  pub reduce_none : (f : X → X → X) (xs : List X) → reduce f xs ≡ None → (y : X) → IsMember y xs → ⊥
  reduce_none f [] none y member = absurd member
  reduce_none f (x ∷ xs) none y member = cc

module _ {X Y : Type 0} (f : X → Y) where
  -- of each member of a mapped list
  pub on_map : (P : Y → Type 0) (xs : List X) → ((x : X) → IsMember x xs → P (f x)) → Each P (map f xs)
  on_map P [] all y member = absurd member
  on_map P (x ∷ xs) all y (inl e) = subst P (sym e) (all x (inl refl))
  on_map P (x ∷ xs) all y (inr member) = on_map P xs (λ z m. all z (inr m)) y member

  -- the image of a member is a member
  pub map_member : (xs : List X) (x : X) → IsMember x xs → IsMember (f x) (map f xs)
  map_member [] x member = absurd member
  map_member (y ∷ xs) x (inl e) = inl (ap f e)
  map_member (y ∷ xs) x (inr member) = inr (map_member xs x member)

  -- equal functions give equal lists
  pub map_same : (g : X → Y) (xs : List X) → Each (λ x. f x ≡ g x) xs → map f xs ≡ map g xs
  map_same g [] same = refl
  map_same g (x ∷ xs) same = let here : f x ≡ g x = same x (inl refl) in
      let rest : map f xs ≡ map g xs = map_same g xs (λ y m. same y (inr m)) in cc

-- a function that changes nothing gives the same list
pub map_self : {X : Type 0} (f : X → X) (xs : List X) → ((x : X) → f x ≡ x) → map f xs ≡ xs
map_self f [] same = refl
map_self f (x ∷ xs) same = let here : f x ≡ x = same x in let rest : map f xs ≡ xs = map_self f xs same in cc

-- what holds of all by recursion holds of each member
pub all_member : {X : Type 0} (P : X → Type 0) (xs : List X) → AllByRecursion P xs → Each P xs
all_member P [] all x member = absurd member
all_member P (y ∷ xs) all x (inl e) = subst P (sym e) all.0
all_member P (y ∷ xs) all x (inr member) = all_member P xs all.1 x member

-- ---- sums

-- what counts only where a test holds
pub cond_le : (b : Bool) (n : ℕ) → cond b n 0 ≤ n
cond_le true n = omega arith
cond_le false n = omega arith

module _ {X : Type 0} where
  -- a sum over a filtered list, as one over the list
  pub sum_filter : (p : X → Bool) (f : X → ℕ) (xs : List X)
      → sum_by f (filter p xs) ≡ sum_by (λ x. cond (p x) (f x) 0) xs
  sum_filter p f [] = refl
  sum_filter p f (x ∷ xs) = by_test (p x) (sum_filter p f xs) ∙ sym (sum_by-cons (λ y. cond (p y) (f y) 0) x xs) where
    by_test : (b : Bool) → sum_by f (filter p xs) ≡ sum_by (λ y. cond (p y) (f y) 0) xs
        → sum_by f (cond b (x ∷ filter p xs) (filter p xs)) ≡ cond b (f x) 0 + sum_by (λ y. cond (p y) (f y) 0) xs
    by_test true same = sum_by-cons f x (filter p xs) ∙ ap (λ n. f x + n) same
    by_test false same = omega (arith, same)

  -- greater terms, greater sum
  pub sum_le : (f g : X → ℕ) (xs : List X) → Each (λ x. f x ≤ g x) xs → sum_by f xs ≤ sum_by g xs
  sum_le f g [] all = omega arith
  sum_le f g (x ∷ xs) all =
      omega (arith, sum_by-cons f x xs, sum_by-cons g x xs, all x (inl refl), sum_le f g xs (λ y m. all y (inr m)))

  -- equal terms, equal sum
  pub sum_same : (f g : X → ℕ) (xs : List X) → Each (λ x. f x ≡ g x) xs → sum_by f xs ≡ sum_by g xs
  sum_same f g [] all = refl
  sum_same f g (x ∷ xs) all =
      omega (arith, sum_by-cons f x xs, sum_by-cons g x xs, all x (inl refl), sum_same f g xs (λ y m. all y (inr m)))

  -- a sum of zeros
  pub sum_zero : (f : X → ℕ) (xs : List X) → Each (λ x. f x ≡ 0) xs → sum_by f xs ≡ 0
  sum_zero f [] all = refl
  sum_zero f (x ∷ xs) all = omega (arith, sum_by-cons f x xs, all x (inl refl), sum_zero f xs (λ y m. all y (inr m)))

  -- a term is at most the sum
  pub term_le_sum : (f : X → ℕ) (xs : List X) (x : X) → IsMember x xs → f x ≤ sum_by f xs
  term_le_sum f [] x member = absurd member
  term_le_sum f (y ∷ xs) x (inl e) = let same : f x ≡ f y = ap f e in omega (arith, sum_by-cons f y xs)
  term_le_sum f (y ∷ xs) x (inr member) = let low : f x ≤ sum_by f xs = term_le_sum f xs x member in
      omega (arith, sum_by-cons f y xs)

  -- a sum of sums
  pub sum_plus : (f g : X → ℕ) (xs : List X) → sum_by (λ x. f x + g x) xs ≡ sum_by f xs + sum_by g xs
  sum_plus f g [] = refl
  sum_plus f g (x ∷ xs) = omega
      (arith, sum_by-cons f x xs, sum_by-cons g x xs, sum_by-cons (λ y. f y + g y) x xs, sum_plus f g xs)

-- one function after another
pub map_map : {X Y Z : Type 0} (g : Y → Z) (f : X → Y) (xs : List X) → map g (map f xs) ≡ map (λ x. g (f x)) xs
map_map g f [] = refl
map_map g f (x ∷ xs) = ap (λ ys. g (f x) ∷ ys) (map_map g f xs)

module _ {X Y : Type 0} (h : X → Y) (f : Y → ℕ) where
  -- a sum over a mapped list
  pub sum_map : (xs : List X) → sum_by f (map h xs) ≡ sum_by (λ x. f (h x)) xs
  sum_map [] = refl
  sum_map (x ∷ xs) = omega (arith, sum_by-cons f (h x) (map h xs), sum_by-cons (λ y. f (h y)) x xs, sum_map xs)

-- where none passes, none is found
pub find_none : {X : Type 0} (p : X → Bool) (xs : List X) → filter p xs ≡ [] → find p xs ≡ None
find_none p [] none = refl
find_none p (x ∷ xs) none = by_test (p x) none (find_none p xs) where
  by_test : (b : Bool) → cond b (x ∷ filter p xs) (filter p xs) ≡ [] → (filter p xs ≡ [] → find p xs ≡ None)
      → cond b (Some x) (find p xs) ≡ None
  by_test true none rest = absurd (let e : x ∷ filter p xs ≡ [] = none in cc)
  by_test false none rest = rest none

-- the first that passes is found
pub find_head : {X : Type 0} (p : X → Bool) (xs : List X) (y : X) (ys : List X) → filter p xs ≡ y ∷ ys
    → find p xs ≡ Some y
find_head p [] y ys is = absurd (let e : [] ≡ y ∷ ys = is in cc)
find_head p (x ∷ xs) y ys is = by_test (p x) is (find_head p xs y ys) where
  by_test : (b : Bool) → cond b (x ∷ filter p xs) (filter p xs) ≡ y ∷ ys → (filter p xs ≡ y ∷ ys → find p xs ≡ Some y)
      → cond b (Some x) (find p xs) ≡ Some y
  by_test true is rest = ap Some (heads x y (filter p xs) ys is)
  by_test false is rest = rest is
