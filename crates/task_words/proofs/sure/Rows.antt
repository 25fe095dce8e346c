-- The lines of numbered rows, one more put.
use Rattle.std.proofs.Common.{◌≡◌, ◌∙◌, ◌<◌, ◌≤◌, ◌+◌, ◌++◌, ◌∷◌, [], ℕ, List, length, map, take, drop, get_or, sym, ap}
use Rattle.std.proofs.Common.{arith}
use Rattle.std.specs.List.{enumerate_from}
use Rattle.std.proofs.lemmas.List.{append-nil, map-append, take_more, drop_more, take-append-drop, take_all}
use Rattle.std.proofs.lemmas.List.FromFn.{length-enumerate_from, get_or-enumerate_from}
use Rattle.dover_model.specs.Lines.{in_lines}
use Rattle.dover_model.proofs.lists.Beginnings.{in_lines-append}

module _ {X : Type 0} (line : ℕ → List ℕ) (blank : X) (xs : List X) where
  -- the rows
  abbrev rows : List (ℕ × X)
  rows = enumerate_from 0 xs

  -- their text
  abbrev text : List (ℕ × X) → List ℕ
  text some = in_lines (map (λ n_x. line n_x.0) some)

  -- rows behind rows
  behind : (some more : List (ℕ × X)) → text (some ++ more) ≡ text some ++ text more
  behind some more = ap in_lines (map-append (λ n_x. line n_x.0) some more)
      ∙ in_lines-append (map (λ n_x. line n_x.0) some) (map (λ n_x. line n_x.0) more)

  module _ (i : ℕ) (there : i < length xs) where
    -- a row is there
    row_there : i < length rows
    row_there = omega (arith, there, length-enumerate_from 0 xs)

    -- under its number
    numbered : line (get_or rows i (0, blank)).0 ≡ line i
    numbered = ap (λ (n_x : ℕ × X). line n_x.0) (get_or-enumerate_from 0 xs i (0, blank) there)
        ∙ ap line (let e : 0 + i ≡ i = omega arith in e)

    -- the line of the next row
    abbrev next : List ℕ
    next = line i ++ 10 ∷ []

    next_is : line (get_or rows i (0, blank)).0 ++ 10 ∷ [] ≡ next
    next_is = ap (λ l. l ++ 10 ∷ []) numbered

    -- one more
    pub more : text (take i rows) ++ next ≡ text (take (i + 1) rows)
    more = ap (λ l. text (take i rows) ++ l) (sym next_is ∙ sym (append-nil _))
        ∙ sym (behind (take i rows) (get_or rows i (0, blank) ∷ []))
        ∙ ap text (sym (take_more rows i (0, blank) row_there))

    -- all
    pub all : text (take i rows) ++ (next ++ text (drop (i + 1) rows)) ≡ text rows
    all = ap (λ l. text (take i rows) ++ (l ++ text (drop (i + 1) rows))) (sym next_is)
        ∙ sym (behind (take i rows) (get_or rows i (0, blank) ∷ drop (i + 1) rows))
        ∙ ap (λ some. text (take i rows ++ some)) (sym (drop_more rows i (0, blank) row_there))
        ∙ ap text (take-append-drop i rows)

  -- all are put
  pub whole : (i : ℕ) → length xs ≤ i → text (take i rows) ≡ text rows
  whole i over = ap text (take_all i rows (omega (arith, over, length-enumerate_from 0 xs)))
