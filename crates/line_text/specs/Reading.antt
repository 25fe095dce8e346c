-- Fields and the numbers in them.
use Rattle.std.specs.Prelude.{ℕ, List, [], ◌∷◌, Option, Some, None, option_map}
use denote.Ref.{Bor}
use Rattle.dover_model.specs.Common.{fields_of, numeral}

-- the fields of what is left of a line, if anything is
abbrev pub fields_left : Option (Bor (List ℕ)) → List (List ℕ)
fields_left None = []
fields_left (Some rest) = fields_of rest.now

-- the number that the first field spells, and the fields behind it
abbrev pub number_of_first : List (List ℕ) → Option (ℕ × List (List ℕ))
number_of_first [] = None
number_of_first (field ∷ fields) = option_map (λ n. (n, fields)) (numeral field)
