-- What the order of a list doesn't change.
use Rattle.std.proofs.Common.{◌≡◌, ℕ, ◌≤◌, ◌⊎◌, inl, inr, List, [], ◌∷◌, ◌++◌, length, map, min, refl, sym, ap, ◌∙◌}
use Rattle.std.proofs.Common.{subst, Bool, true, false, cond, arith, Option, Some, None, filter, find, fold, sum_by}
use Rattle.std.specs.Prelude.{◌||◌}
use Rattle.std.specs.List.{list_any}
use Rattle.std.proofs.lemmas.Bool.{cases_eq, false≢true}
use Rattle.std.proofs.lemmas.List.Sums.{sum_by-cons, sum_by-append}
use Rattle.dover_model.specs.Common.{least, earlier, first, IsMember, Each, EachTwo}
use Rattle.dover_model.proofs.lists.Members.{some_same, filter_member, member_filter, found, not_found, reduce_none}
use Rattle.dover_model.proofs.lists.Members.{on_map, map_member, sum_filter, sum_map, member_front, member_behind}
use Rattle.dover_model.proofs.lists.Members.{each_cons, each_append}
use Rattle.dover_model.proofs.lists.Tests.{never, none_is_some}
use Rattle.dover_model.proofs.steps.Pressing.{any_member}
use Rattle.waiting_pool.specs.Reordered.{IsReordered}

-- ---- a list in two parts

module _ {X : Type 0} where
  -- the length as a sum
  pub length_sum : (xs : List X) → length xs ≡ sum_by (λ _. 1) xs
  length_sum [] = refl
  length_sum (x ∷ xs) = omega (arith, length_sum xs, sum_by-cons (λ (_ : X). 1) x xs)

  -- ---- the same members

  pub same_order : (xs : List X) → IsReordered xs xs
  same_order xs = record { there = λ x m. m; back = λ x m. m; weighs = λ f. refl }

  pub turned : (xs ys : List X) → IsReordered xs ys → IsReordered ys xs
  turned xs ys same = record { there = same.back; back = same.there; weighs = λ f. sym (same.weighs f) }

  pub further : (xs ys zs : List X) → IsReordered xs ys → IsReordered ys zs → IsReordered xs zs
  further xs ys zs one next = record {
    there = λ x m. next.there x (one.there x m);
    back = λ x m. one.back x (next.back x m);
    weighs = λ f. next.weighs f ∙ one.weighs f;
  }

  -- where some of them passes, and all are among others, some of those does
  any_on : (p : X → Bool) (us vs : List X) → ((x : X) → IsMember x us → IsMember x vs) → list_any p us ≡ true
      → list_any p vs ≡ true
  any_on p [] vs there none = never none
  any_on p (u ∷ us) vs there some =
      by_test (p u) refl some (any_on p us vs (λ x m. there x (inr m))) where
        by_test : (b : Bool) → p u ≡ b → (b || list_any p us) ≡ true
            → (list_any p us ≡ true → list_any p vs ≡ true) → list_any p vs ≡ true
        by_test true is more rest = any_member p vs u (there u (inl refl)) is
        by_test false is more rest = rest more

  -- in two parts
  pub both_parts : (xs ys us vs : List X) → IsReordered xs ys → IsReordered us vs → IsReordered (xs ++ us) (ys ++ vs)
  both_parts xs ys us vs one next = record {
    there = each_append (λ x. IsMember x (ys ++ vs)) xs us (λ x m. member_front ys vs x (one.there x m))
        (λ x m. member_behind ys vs x (next.there x m));
    back = each_append (λ x. IsMember x (xs ++ us)) ys vs (λ x m. member_front xs us x (one.back x m))
        (λ x m. member_behind xs us x (next.back x m));
    weighs = λ f. omega (arith, sum_by-append f xs us, sum_by-append f ys vs, one.weighs f, next.weighs f);
  }

  -- the parts exchanged
  pub exchanged : (xs ys : List X) → IsReordered (xs ++ ys) (ys ++ xs)
  exchanged xs ys = record {
    there = each_append (λ x. IsMember x (ys ++ xs)) xs ys (member_behind ys xs) (member_front ys xs);
    back = each_append (λ x. IsMember x (xs ++ ys)) ys xs (member_behind xs ys) (member_front xs ys);
    weighs = λ f. omega (arith, sum_by-append f xs ys, sum_by-append f ys xs);
  }

  module _ (xs ys : List X) (same : IsReordered xs ys) where
    -- as many
    pub as_many : length ys ≡ length xs
    as_many = length_sum ys ∙ same.weighs (λ _. 1) ∙ sym (length_sum xs)

    -- what holds of each two
    pub two_still : (R : X → X → Type 0) → EachTwo R xs → EachTwo R ys
    two_still R all x y mx my = all x y (same.back x mx) (same.back y my)

    -- those that pass
    pub filtered : (p : X → Bool) → IsReordered (filter p xs) (filter p ys)
    filtered p = record {
      there = λ x m. let it = member_filter p xs x m in filter_member p ys x (same.there x it.0) it.1;
      back = λ x m. let it = member_filter p ys x m in filter_member p xs x (same.back x it.0) it.1;
      weighs = λ f. sum_filter p f ys ∙ same.weighs (λ x. cond (p x) (f x) 0) ∙ sym (sum_filter p f xs);
    }

    -- what a function gives
    pub mapped : {Y : Type 0} (g : X → Y) → IsReordered (map g xs) (map g ys)
    mapped g = record {
      there = on_map g (λ y. IsMember y (map g ys)) xs (λ x m. map_member g ys x (same.there x m));
      back = on_map g (λ y. IsMember y (map g xs)) ys (λ x m. map_member g xs x (same.back x m));
      weighs = λ f. sum_map g f ys ∙ same.weighs (λ x. f (g x)) ∙ sym (sum_map g f xs);
    }

    -- the one that passes, where at most one does
    pub found_same : (p : X → Bool) → EachTwo (λ x y. p x ≡ true → p y ≡ true → x ≡ y) xs → find p ys ≡ find p xs
    found_same p one = by_finds (find p xs) (find p ys) refl refl where
      by_finds : (a b : Option X) → find p xs ≡ a → find p ys ≡ b → b ≡ a
      by_finds None None here there = refl
      by_finds None (Some y) here there =
          let it = found p ys y there in never (sym (not_found p xs here y (same.back y it.0)) ∙ it.1)
      by_finds (Some x) None here there =
          let it = found p xs x here in never (sym (not_found p ys there x (same.there x it.0)) ∙ it.1)
      by_finds (Some x) (Some y) here there =
          let it = found p xs x here in
          let other = found p ys y there in
          ap Some (one y x (same.back y other.0) it.0 other.1 it.1)

    -- some passes just where some did
    pub any_still : (p : X → Bool) → list_any p ys ≡ list_any p xs
    any_still p = by_any (list_any p xs) (list_any p ys) refl refl where
      by_any : (a b : Bool) → list_any p xs ≡ a → list_any p ys ≡ b → b ≡ a
      by_any true true here there = refl
      by_any false false here there = refl
      by_any true false here there = never (sym there ∙ any_on p xs ys same.there here)
      by_any false true here there = never (sym here ∙ any_on p ys xs same.back there)

-- ---- the least of numbers

-- it is at most each of them
least_low : (ns : List ℕ) → Each (λ n. least ns ≤ n) ns
least_low [] n m = absurd m
least_low (a ∷ []) n (inl e) = omega arith
least_low (a ∷ []) n (inr m) = absurd m
least_low (a ∷ b ∷ more) n (inl e) = omega arith
least_low (a ∷ b ∷ more) n (inr m) = let low : least (b ∷ more) ≤ n = least_low (b ∷ more) n m in omega arith

-- and one of them
least_there : (a : ℕ) (ns : List ℕ) → IsMember (least (a ∷ ns)) (a ∷ ns)
least_there a [] = inl refl
least_there a (b ∷ more) = by_less (least (b ∷ more)) refl (least_there b more) where
  by_less : (l : ℕ) → least (b ∷ more) ≡ l → IsMember (least (b ∷ more)) (b ∷ more)
      → IsMember (min a (least (b ∷ more))) (a ∷ b ∷ more)
  by_less l is there = pick (cases_eq (min a (least (b ∷ more))) a) where
    pick : (min a (least (b ∷ more)) ≡ a) ⊎ ((min a (least (b ∷ more)) ≡ a) → ⊥)
        → IsMember (min a (least (b ∷ more))) (a ∷ b ∷ more)
    pick (inl same) = inl same
    pick (inr other) =
        let rest : min a (least (b ∷ more)) ≡ least (b ∷ more) = omega (arith, other) in
        inr (subst (λ n. IsMember n (b ∷ more)) (sym rest) there)

-- it is the same of numbers in another order
pub least_same : (ns ms : List ℕ) → IsReordered ns ms → least ms ≡ least ns
least_same [] [] same = refl
least_same [] (b ∷ ms) same = absurd (same.back b (inl refl))
least_same (a ∷ ns) [] same = absurd (same.there a (inl refl))
least_same (a ∷ ns) (b ∷ ms) same =
    let here : least (a ∷ ns) ≤ least (b ∷ ms) =
    least_low (a ∷ ns) (least (b ∷ ms)) (same.back (least (b ∷ ms)) (least_there b ms)) in
    let there : least (b ∷ ms) ≤ least (a ∷ ns) =
    least_low (b ∷ ms) (least (a ∷ ns)) (same.there (least (a ∷ ns)) (least_there a ns)) in
    omega arith

-- ---- the first by an order that is strict among those of which P holds

module _ {X : Type 0} (P : X → Type 0) (before : X → X → Bool)
    (one_way : (a b : X) → before a b ≡ true → before b a ≡ false)
    (onward : (a b c : X) → P a → P b → P c → before a b ≡ true → before b c ≡ true → before a c ≡ true) where
  -- what a fold keeps is one of the elements, and none comes before it
  record Best (e acc : X) (xs : List X) : Type 0 where
    there : IsMember e (acc ∷ xs)
    good : (e ≡ acc) ⊎ (before e acc ≡ true)
    best : Each (λ y. before y e ≡ true → ⊥) xs

  not_itself : (e : X) → before e e ≡ true → ⊥
  not_itself e h = false≢true (sym (one_way e e h) ∙ h)

  not_before : (e x : X) → (e ≡ x) ⊎ (before e x ≡ true) → before x e ≡ true → ⊥
  not_before e x (inl same) h = not_itself x (ap (before x) (sym same) ∙ h)
  not_before e x (inr less) h = false≢true (sym (one_way e x less) ∙ h)

  best_of : (acc : X) (xs : List X) → Each P (acc ∷ xs) → Best (fold (earlier before) acc xs) acc xs
  best_of acc [] fine = record { there = inl refl; good = inl refl; best = λ x m. absurd m }
  best_of acc (x ∷ xs) fine = by_test (before x acc) refl (best_of x xs (λ y m. fine y (inr m)))
      (best_of acc xs (λ y m. fine y (either m))) where
        either : {y : X} → IsMember y (acc ∷ xs) → IsMember y (acc ∷ x ∷ xs)
        either (inl e) = inl e
        either (inr m) = inr (inr m)

        by_test : (b : Bool) → before x acc ≡ b → Best (fold (earlier before) x xs) x xs
            → Best (fold (earlier before) acc xs) acc xs
            → Best (fold (earlier before) (cond (before x acc) x acc) xs) acc (x ∷ xs)
        by_test true h it rest =
            subst (λ (b : Bool). Best (fold (earlier before) (cond b x acc) xs) acc (x ∷ xs)) (sym h) (record {
              there = inr it.there;
              good = inr (elim it.good [
                | inl same ↦ ap (λ y. before y acc) same
                    ∙ h
                | inr less ↦ onward (fold (earlier before) x xs) x acc (fine _ (inr it.there)) (fine x (inr (inl refl)))
                    (fine acc (inl refl)) less h
              ]);
              best = each_cons (λ y. before y (fold (earlier before) x xs) ≡ true → ⊥) x xs
                  (not_before (fold (earlier before) x xs) x it.good) it.best;
            })
        by_test false h rest it =
            subst (λ (b : Bool). Best (fold (earlier before) (cond b x acc) xs) acc (x ∷ xs)) (sym h) (record {
              there = elim it.there [ inl e ↦ inl e | inr m ↦ inr (inr m) ];
              good = it.good;
              best = each_cons (λ y. before y (fold (earlier before) acc xs) ≡ true → ⊥) x xs
                  (λ at. elim it.good [
                    | inl same ↦ false≢true (sym h ∙ ap (before x) (sym same) ∙ at)
                    | inr less ↦ false≢true (sym h
                        ∙ onward x (fold (earlier before) acc xs) acc (fine x (inr (inl refl)))
                        (fine _ (either it.there)) (fine acc (inl refl)) at less)
                  ])
                  it.best;
            })

  -- the first is one of the elements, and none comes before it
  pub first_is_of : (xs : List X) (e : X) → Each P xs → first before xs ≡ Some e
      → IsMember e xs × Each (λ y. before y e ≡ true → ⊥) xs
  first_is_of [] e fine is = none_is_some is
  first_is_of (x ∷ xs) e fine is =
      let it = best_of x xs fine in
      subst (λ z. IsMember z (x ∷ xs) × Each (λ y. before y z ≡ true → ⊥) (x ∷ xs)) (some_same _ _ is) (
        it.there,
        each_cons (λ y. before y (fold (earlier before) x xs) ≡ true → ⊥) x xs
            (not_before (fold (earlier before) x xs) x it.good) it.best,
      )

  -- the one before which none comes is the first, where of two others one comes before the other
  pub first_only_of : (xs : List X) (e : X) → Each P xs → IsMember e xs → Each (λ y. before y e ≡ true → ⊥) xs
      → EachTwo (λ y z. before y z ≡ false → before z y ≡ false → y ≡ z) xs → first before xs ≡ Some e
  first_only_of [] e fine member best own = absurd member
  first_only_of (x ∷ xs) e fine member best own =
      let it = first_is_of (x ∷ xs) (fold (earlier before) x xs) fine refl in
      ap Some (own (fold (earlier before) x xs) e it.0 member
      (none (before (fold (earlier before) x xs) e) refl (best (fold (earlier before) x xs) it.0))
      (none (before e (fold (earlier before) x xs)) refl (it.1 e member))) where
        none : (b : Bool) {c : Bool} → c ≡ b → (c ≡ true → ⊥) → c ≡ false
        none true h not = absurd (not h)
        none false h not = h

  -- it is the same in another order
  pub first_same_of : (xs ys : List X) → IsReordered xs ys → Each P xs
      → EachTwo (λ y z. before y z ≡ false → before z y ≡ false → y ≡ z) xs
      → first before ys ≡ first before xs
  first_same_of xs ys same fine own = by_first (first before xs) refl where
    by_first : (o : Option X) → first before xs ≡ o → first before ys ≡ o
    by_first None none = none_left ys (λ y m. reduce_none (earlier before) xs none y (same.back y m)) where
      none_left : (zs : List X) → Each (λ z. ⊥) zs → first before zs ≡ None
      none_left [] not = refl
      none_left (z ∷ zs) not = absurd (not z (inl refl))
    by_first (Some e) is =
        let it = first_is_of xs e fine is in
        first_only_of ys e (λ y m. fine y (same.back y m)) (same.there e it.0) (λ y m. it.1 y (same.back y m))
        (two_still xs ys same (λ y z. before y z ≡ false → before z y ≡ false → y ≡ z) own)

-- the same by a strict order
module _ {X : Type 0} (before : X → X → Bool) (one_way : (a b : X) → before a b ≡ true → before b a ≡ false)
    (onward : (a b c : X) → before a b ≡ true → before b c ≡ true → before a c ≡ true) where
  abbrev Any : X → Type 0
  Any x = Unit {0}

  pub first_is : (xs : List X) (e : X) → first before xs ≡ Some e → IsMember e xs × Each (λ y. before y e ≡ true → ⊥) xs
  first_is xs e is = first_is_of Any before one_way (λ a b c _ _ _. onward a b c) xs e (λ x m. tt) is

  pub first_only : (xs : List X) (e : X) → IsMember e xs → Each (λ y. before y e ≡ true → ⊥) xs
      → EachTwo (λ y z. before y z ≡ false → before z y ≡ false → y ≡ z) xs → first before xs ≡ Some e
  first_only xs e member best own =
      first_only_of Any before one_way (λ a b c _ _ _. onward a b c) xs e (λ x m. tt) member best own

  pub first_same : (xs ys : List X) → IsReordered xs ys
      → EachTwo (λ y z. before y z ≡ false → before z y ≡ false → y ≡ z) xs
      → first before ys ≡ first before xs
  first_same xs ys same own =
      first_same_of Any before one_way (λ a b c _ _ _. onward a b c) xs ys same (λ x m. tt) own
