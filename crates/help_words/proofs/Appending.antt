-- Pieces of a list, one behind the other.
use Rattle.std.proofs.Common.{◌≡◌, ℕ, ◌+◌, ◌<◌, ◌≤◌, List, [], ◌∷◌, ◌++◌, length, get_or, map, take, sym, ap, ◌∙◌}
use Rattle.std.proofs.Common.{append_assoc}
use Rattle.std.proofs.lemmas.List.{flat_map_more, take_all, take_more}
use Rattle.std.proofs.lemmas.List.Folds.{flat_map-map}
use Rattle.std.specs.List.{flat_map}

-- behind a text and the pieces of the first n items stands the next piece
pub appended : {X : Type 0} (f : X → List ℕ) (xs : List X) (n : ℕ) (x : X) (start was now : List ℕ) → n < length xs
    → x ≡ get_or xs n x → was ≡ start ++ flat_map f (take n xs) → now ≡ was ++ f x
    → now ≡ start ++ flat_map f (take (n + 1) xs)
appended f xs n x start was now low is kept grown = grown ∙ ap (λ z. z ++ f x) kept
    ∙ flat_map_more f start (take n xs) x
    ∙ ap (λ z. start ++ flat_map f z) (ap (λ y. take n xs ++ y ∷ []) is ∙ sym (take_more xs n x low))

-- a head, a body and a tail behind a text are all of them behind it
pub three : (start head body tail one two now : List ℕ) → one ≡ start ++ head → two ≡ one ++ body → now ≡ two ++ tail
    → now ≡ start ++ (head ++ body ++ tail)
three start head body tail one two now e f g = g ∙ ap (λ z. z ++ tail) (f ∙ ap (λ z. z ++ body) e)
    ∙ ap (λ z. z ++ tail) (append_assoc start head body) ∙ append_assoc start (head ++ body) tail

-- the pieces of all items of a list, by what they are of
pub all_of : {X : Type 0} (f : List ℕ → List ℕ) (v : X → List ℕ) (xs : List X) (n : ℕ) (start was : List ℕ)
    → length xs ≤ n → was ≡ start ++ flat_map (λ x. f (v x)) (take n xs) → was ≡ start ++ flat_map f (map v xs)
all_of f v xs n start was all kept = kept ∙ ap (λ z. start ++ flat_map (λ x. f (v x)) z) (take_all n xs all)
    ∙ ap (λ z. start ++ z) (sym (flat_map-map f v xs))
