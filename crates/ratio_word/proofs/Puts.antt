-- The text of an answer, line by line.
use Rattle.std.proofs.Common.{◌≡◌, ◌++◌, ◌∷◌, [], ℕ, List, ap, sym, ◌∙◌, append_assoc, append-nil}
use Rattle.dover_model.specs.Lines.{in_lines}
use Rattle.dover_model.proofs.lists.Beginnings.{in_lines-append}

-- two lines
pub two_lines : (a b : List ℕ) → (a ++ 10 ∷ []) ++ (b ++ 10 ∷ []) ≡ in_lines (a ∷ b ∷ [])
two_lines a b = ap (λ t. (a ++ 10 ∷ []) ++ t) (sym (append-nil (b ++ 10 ∷ [])))

-- a line, some lines, and a last one
pub lines_between : (a : List ℕ) (ls : List (List ℕ)) (b : List ℕ)
    → (a ++ 10 ∷ []) ++ (in_lines ls ++ (b ++ 10 ∷ [])) ≡ in_lines (a ∷ ls ++ b ∷ [])
lines_between a ls b = sym (append_assoc (a ++ 10 ∷ []) (in_lines ls) (b ++ 10 ∷ []))
    ∙ ap (λ t. ((a ++ 10 ∷ []) ++ in_lines ls) ++ t) (sym (append-nil (b ++ 10 ∷ [])))
    ∙ sym (in_lines-append (a ∷ ls) (b ∷ []))
