-- The lines of rows, one more put.
use Rattle.std.proofs.Common.{◌≡◌, ◌∙◌, ◌<◌, ◌+◌, ◌++◌, ◌∷◌, [], ℕ, List, length, map, take, drop, get_or, sym, ap}
use Rattle.std.proofs.lemmas.List.{append-nil, map-append, take_more, drop_more, take-append-drop}
use Rattle.dover_model.specs.Lines.{in_lines}
use Rattle.dover_model.proofs.lists.Beginnings.{in_lines-append}

module _ {X : Type 0} (line : X → List ℕ) where
  -- the text of rows
  abbrev text : List X → List ℕ
  text rows = in_lines (map line rows)

  -- rows behind rows
  behind : (xs ys : List X) → text (xs ++ ys) ≡ text xs ++ text ys
  behind xs ys = ap in_lines (map-append line xs ys) ∙ in_lines-append (map line xs) (map line ys)

  module _ (rows : List X) (i : ℕ) (d : X) (there : i < length rows) where
    -- the line of the next row
    abbrev next : List ℕ
    next = line (get_or rows i d) ++ 10 ∷ []

    -- one more
    pub more : text (take i rows) ++ next ≡ text (take (i + 1) rows)
    more = ap (λ l. text (take i rows) ++ l) (sym (append-nil next))
        ∙ sym (behind (take i rows) (get_or rows i d ∷ [])) ∙ ap text (sym (take_more rows i d there))

    -- all
    pub all : text (take i rows) ++ (next ++ text (drop (i + 1) rows)) ≡ text rows
    all = sym (behind (take i rows) (get_or rows i d ∷ drop (i + 1) rows))
        ∙ ap (λ xs. text (take i rows ++ xs)) (sym (drop_more rows i d there))
        ∙ ap text (take-append-drop i rows)
