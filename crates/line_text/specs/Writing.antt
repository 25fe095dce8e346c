-- A line as it is written.
use Rattle.std.specs.Prelude.{ℕ, List, [], ◌∷◌, ◌++◌, decimal}

-- how many bytes a buffer has
abbrev pub most_written : ℕ
most_written = 170

-- numbers, each behind a space
abbrev pub numbers_behind : List ℕ → List ℕ
numbers_behind [] = []
numbers_behind (n ∷ ns) = 32 ∷ decimal n ++ numbers_behind ns
