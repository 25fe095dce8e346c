-- Texts that are put together piece by piece.
use Rattle.std.proofs.Common.{◌≡◌, ℕ, List, [], ◌∷◌, ◌++◌, sym, ◌∙◌, subst, append_assoc, append-nil}

-- y is t with these pieces put behind it, one by one
abbrev pub Grows : List ℕ → List (List ℕ) → List ℕ → Type 0
Grows t [] y = y ≡ t
Grows t (p ∷ ps) y = (x : List ℕ) × (x ≡ t ++ p) × Grows x ps y

-- the pieces behind this one, as one
abbrev pub after : List ℕ → List (List ℕ) → List ℕ
after first [] = first
after first (p ∷ ps) = after (first ++ p) ps

-- the pieces as one
abbrev pub whole : List (List ℕ) → List ℕ
whole [] = []
whole (p ∷ ps) = after p ps

-- a text that grows has the pieces as one behind it
joined_after : (t first : List ℕ) (ps : List (List ℕ)) (y : List ℕ) → Grows (t ++ first) ps y → y ≡ t ++ after first ps
joined_after t first [] y same = same
joined_after t first (p ∷ ps) y (x, one, more) = joined_after t (first ++ p) ps y (subst (λ z. Grows z ps y) (one
    ∙ append_assoc t first p) more)

pub joined : (t : List ℕ) (ps : List (List ℕ)) (y : List ℕ) → Grows t ps y → y ≡ t ++ whole ps
joined t [] y same = same ∙ sym (append-nil t)
joined t (p ∷ ps) y (x, one, more) = joined_after t p ps y (subst (λ z. Grows z ps y) one more)
