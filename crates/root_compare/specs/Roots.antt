-- Whole numbers that stand below a root times a number.
use Rattle.std.specs.Prelude.{ℕ, ◌*◌, ◌≤◌}

-- x is at most the root of m, times a
abbrev pub IsBelowRoot : (m x a : ℕ) → Type 0
IsBelowRoot m x a = x * x ≤ m * a * a
