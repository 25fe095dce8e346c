-- The first of a list is one of it.
use Rattle.std.proofs.Common.{◌≡◌, Bool, true, false, List, [], ◌∷◌, Some, refl, ap, inl, inr, sym, subst, fold}
use Rattle.dover_model.specs.Common.{earlier, first, IsMember}
use Rattle.dover_model.proofs.lists.Members.{some_same}
use Rattle.dover_model.proofs.lists.Tests.{none_is_some}

-- the better of two is one of them
earlier_pick : {X : Type 0} (before : X → X → Bool) (acc x : X) (b : Bool) → before x acc ≡ b
    → earlier before acc x ≡ earlier (λ _ _. b) acc x
earlier_pick before acc x b h = ap (λ c. earlier (λ _ _. c) acc x) h

-- what a fold keeps is one of the elements
fold_member : {X : Type 0} (before : X → X → Bool) (acc : X) (xs : List X)
    → IsMember (fold (earlier before) acc xs) (acc ∷ xs)
fold_member before acc [] = inl refl
fold_member before acc (x ∷ xs) =
    by_test (before x acc) refl (fold_member before x xs) (fold_member before acc xs) where
      by_test : (b : Bool) → before x acc ≡ b → IsMember (fold (earlier before) x xs) (x ∷ xs)
          → IsMember (fold (earlier before) acc xs) (acc ∷ xs)
          → IsMember (fold (earlier before) (earlier before acc x) xs) (acc ∷ x ∷ xs)
      by_test true h at_x at_acc =
          subst (λ y. IsMember (fold (earlier before) y xs) (acc ∷ x ∷ xs)) (sym (earlier_pick before acc x true h))
          (inr at_x)
      by_test false h at_x at_acc =
          subst (λ y. IsMember (fold (earlier before) y xs) (acc ∷ x ∷ xs)) (sym (earlier_pick before acc x false h))
          (elim at_acc [ inl e ↦ inl e | inr m ↦ inr (inr m) ])

-- the first is one of the elements
pub first_member : {X : Type 0} (before : X → X → Bool) (xs : List X) (y : X) → first before xs ≡ Some y → IsMember y xs
first_member before [] y is = none_is_some is
first_member before (x ∷ xs) y is = subst (λ z. IsMember z (x ∷ xs)) (some_same _ _ is) (fold_member before x xs)
