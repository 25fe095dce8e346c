-- A list whose front is changed element by element.
use Rattle.std.proofs.Common.{◌≡◌, inl, inr, ℕ, zero, suc, ◌+◌, ◌<◌, List, [], ◌∷◌, length, get_or, set, map, refl}
use Rattle.std.proofs.Common.{sym, ap, ◌∙◌, subst, arith, add-one}
use Rattle.dover_model.specs.Sound.{IsMember, Each}

-- the first i elements changed
abbrev pub map_front : {X : Type 0} → (X → X) → ℕ → List X → List X
map_front f zero xs = xs
map_front f (suc i) [] = []
map_front f (suc i) (x ∷ xs) = f x ∷ map_front f i xs

-- an element at a place is a member
member_at : {X : Type 0} (xs : List X) (i : ℕ) (d : X) → i < length xs → IsMember (get_or xs i d) xs
member_at [] i d short = absurd (omega arith)
member_at (x ∷ xs) zero d short = inl refl
member_at (x ∷ xs) (suc i) d short = inr (member_at xs i d (omega arith))

module _ {X : Type 0} (f : X → X) where
  -- the next element isn't changed yet
  next_is : (i : ℕ) (xs : List X) (d : X) → get_or (map_front f i xs) i d ≡ get_or xs i d
  next_is zero xs d = refl
  next_is (suc i) [] d = refl
  next_is (suc i) (x ∷ xs) d = next_is i xs d

  -- one more
  set_front : (i : ℕ) (xs : List X) (d : X) → i < length xs
      → set (map_front f i xs) i (f (get_or xs i d)) ≡ map_front f (suc i) xs
  set_front i [] d short = absurd (omega arith)
  set_front zero (x ∷ xs) d short = refl
  set_front (suc i) (x ∷ xs) d short = ap (λ ys. f x ∷ ys) (set_front i xs d (omega arith))

  -- the element at the place is changed there
  pub map_front_next : (xs ys : List X) (i : ℕ) (d new : X) → ys ≡ map_front f i xs → i < length xs
      → new ≡ f (get_or ys i d) → set ys i new ≡ map_front f (i + 1) xs
  map_front_next xs ys i d new front short changed =
      ap (set ys i) changed ∙ ap (λ zs. set zs i (f (get_or zs i d))) front
      ∙ ap (λ x. set (map_front f i xs) i (f x)) (next_is i xs d)
      ∙ set_front i xs d short ∙ ap (λ n. map_front f n xs) (sym (add-one i))

  -- all of them
  pub map_front_all : (xs : List X) → map_front f (length xs) xs ≡ map f xs
  map_front_all [] = refl
  map_front_all (x ∷ xs) = ap (λ ys. f x ∷ ys) (map_front_all xs)

  -- what holds of each element holds of the next
  pub of_next : (P : X → Type 0) (xs ys : List X) (i : ℕ) (d : X) → ys ≡ map_front f i xs → i < length xs → Each P xs
      → P (get_or ys i d)
  of_next P xs ys i d front short all =
      subst P (sym (ap (λ zs. get_or zs i d) front ∙ next_is i xs d)) (all (get_or xs i d) (member_at xs i d short))
