-- Beginnings of lists.
use Rattle.std.proofs.Common.{◌≡◌, ℕ, ◌≤◌, ◌⊎◌, inl, inr, List, [], ◌∷◌, ◌++◌, length, length-append, map, refl, sym}
use Rattle.std.proofs.Common.{ap, ◌∙◌, arith}
use Rattle.std.proofs.lemmas.List.{append_assoc, append-nil, map-append}
use Rattle.std.proofs.lemmas.Grind.{flat_map-append}
use Rattle.dover_model.specs.Common.{in_lines, Begins}
use Rattle.dover_model.proofs.lists.Members.{heads, tails}

module _ {X : Type 0} where
  -- a list begins itself
  pub begins_itself : (xs : List X) → Begins xs xs
  begins_itself xs = ([], sym (append-nil xs))

  -- a list begins what follows it
  pub begins_all : (xs ys : List X) → Begins xs (xs ++ ys)
  begins_all xs ys = (ys, refl)

  -- a beginning of a beginning
  pub begins_onward : (xs ys zs : List X) → Begins xs ys → Begins ys zs → Begins xs zs
  begins_onward xs ys zs one next =
      (one.0 ++ next.0, next.1 ∙ ap (λ l. l ++ next.0) one.1 ∙ append_assoc xs one.0 next.0)

  -- a beginning is no longer
  pub begins_length : (xs ys : List X) → Begins xs ys → length xs ≤ length ys
  begins_length xs ys it = omega (arith, ap length it.1, length-append xs it.0)

  -- behind the same list
  pub begins_behind : (front xs ys : List X) → Begins xs ys → Begins (front ++ xs) (front ++ ys)
  begins_behind front xs ys it = (it.0, ap (λ l. front ++ l) it.1 ∙ sym (append_assoc front xs it.0))

  -- of two beginnings of a list, one begins the other, and the one with a further element where it is longer
  pub begins_either : (xs ys : List X) (y : X) (zs : List X) → Begins xs zs → Begins (ys ++ y ∷ []) zs → Begins xs ys
      ⊎ Begins (ys ++ y ∷ []) xs
  begins_either [] ys y zs one other = inl (ys, refl)
  begins_either (x ∷ xs) [] y [] one other = absurd (omega (arith, ap length one.1))
  begins_either (x ∷ xs) [] y (z ∷ zs) one other =
      inr (
        xs,
        let e : z ∷ zs ≡ x ∷ (xs ++ one.0) = one.1 in let f : z ∷ zs ≡ y ∷ other.0 = other.1 in
            let same : x ≡ y = cc in cc,
      )
  begins_either (x ∷ xs) (w ∷ ys) y [] one other = absurd (omega (arith, ap length one.1))
  begins_either (x ∷ xs) (w ∷ ys) y (z ∷ zs) one other =
      by_rest (begins_either xs ys y zs (one.0, tails z x zs (xs ++ one.0) one.1)
      (other.0, tails z w zs ((ys ++ y ∷ []) ++ other.0) other.1)) where
        same : x ≡ w
        same = sym (heads z x zs (xs ++ one.0) one.1) ∙ heads z w zs ((ys ++ y ∷ []) ++ other.0) other.1

        by_rest : Begins xs ys ⊎ Begins (ys ++ y ∷ []) xs → Begins (x ∷ xs) (w ∷ ys)
            ⊎ Begins (w ∷ (ys ++ y ∷ [])) (x ∷ xs)
        by_rest (inl it) = inl (it.0, ap (λ l. w ∷ l) it.1 ∙ ap (λ v. v ∷ (xs ++ it.0)) (sym same))
        by_rest (inr it) = inr (it.0, ap (λ l. x ∷ l) it.1 ∙ ap (λ v. v ∷ ((ys ++ y ∷ []) ++ it.0)) same)

module _ {X Y : Type 0} (f : X → Y) where
  -- of a mapped list
  pub begins_map : (xs ys : List X) → Begins xs ys → Begins (map f xs) (map f ys)
  begins_map xs ys it = (map f it.0, ap (map f) it.1 ∙ map-append f xs it.0)

-- lines behind lines
pub in_lines-append : (ls ms : List (List ℕ)) → in_lines (ls ++ ms) ≡ in_lines ls ++ in_lines ms
in_lines-append ls ms = flat_map-append (λ (l : List ℕ). l ++ 10 ∷ []) ls ms

-- lines that begin others, as texts
pub begins_in_lines : (ls ms : List (List ℕ)) → Begins ls ms → Begins (in_lines ls) (in_lines ms)
begins_in_lines ls ms it = (in_lines it.0, ap in_lines it.1 ∙ in_lines-append ls it.0)
