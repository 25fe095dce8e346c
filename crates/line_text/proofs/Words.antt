-- Lines that have other words, or another count of numbers behind them.
use Rattle.std.proofs.Common.{◌≡◌, ◌≢◌, ℕ, List, ◌∷◌, ◌++◌, length, refl, sym, ap, ◌∙◌, Bool, true, false, Option, Some}
use Rattle.std.proofs.Common.{None, bytes_eq, if◌then◌else◌, option_and_then}
use Rattle.std.proofs.lemmas.Slice.Eq.{bytes_eq-Decides}
use Rattle.dover_model.specs.Lines.{fields_of, line_of}
use Rattle.dover_model.proofs.texts.Fields.{line_of-fields_of}

-- the numbers aren't so many
abbrev pub IsNot : ℕ → Option (List ℕ) → Type 0
IsNot n o = (ns : List ℕ) → o ≡ Some ns → length ns ≢ n

-- where those of another count give nothing, they don't
pub uncounted : {A : Type 0} (f : List ℕ → Option A) (n : ℕ) → ((ns : List ℕ) → length ns ≢ n → f ns ≡ None)
    → (o : Option (List ℕ)) → IsNot n o → None ≡ option_and_then f o
uncounted f n nothing None other = refl
uncounted f n nothing (Some ns) other = sym (nothing ns (other ns refl))

-- a test that leads to nothing either way
pub skip : {A : Type 0} (b : Bool) (here other : Option A) → (b ≡ true → here ≡ None) → other ≡ None
    → (if b then here else other) ≡ None
skip true here other nothing rest = nothing refl
skip false here other nothing rest = rest

-- the line doesn't begin with the word and a space
abbrev pub Lacks : List ℕ → List ℕ → Type 0
Lacks line word = (rest : List ℕ) → line ≡ word ++ 32 ∷ rest → ⊥

-- then the word isn't its first field, if it has another field
pub differs : (line word field : List ℕ) (fields : List (List ℕ)) → fields_of line ≡ word ∷ field ∷ fields
    → (other : List ℕ) → Lacks line other → bytes_eq word other ≡ true → ⊥
differs line word field fields cut other lacks same = lacks (line_of (field ∷ fields))
    (sym (line_of-fields_of line) ∙ ap line_of cut
    ∙ ap (λ w. w ++ 32 ∷ line_of (field ∷ fields)) ((bytes_eq-Decides word other).0 same))
