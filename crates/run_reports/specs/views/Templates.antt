-- Texts from templates.
use Rattle.std.specs.Prelude.{ℕ, List, [], ◌∷◌, ◌++◌, ◌==◌, if◌then◌else◌, decimal}

abbrev pub Text : Type 0
Text = List ℕ

-- the first of these numbers as a numeral
abbrev pub first_numeral : List ℕ → Text
first_numeral [] = []
first_numeral (n ∷ ns) = decimal n

-- the others
abbrev pub others : List ℕ → List ℕ
others [] = []
others (n ∷ ns) = ns

-- what stands for this byte of a template: the first of these numbers for an @, and else itself
abbrev pub part : ℕ → List ℕ → Text
part c ns = if c == 64 then first_numeral ns else c ∷ []

-- the numbers that are left behind it
abbrev pub left_behind : ℕ → List ℕ → List ℕ
left_behind c ns = if c == 64 then others ns else ns

-- the template with these numbers in place of its @, in order
unfoldable pub filled : Text → List ℕ → Text
filled [] ns = []
filled (c ∷ cs) ns = part c ns ++ filled cs (left_behind c ns)
