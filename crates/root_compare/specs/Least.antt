-- The least value that is heavy.
use Rattle.std.specs.Prelude.{ℕ, ◌+◌, not}
use Rattle.dover_model.specs.Common.{Fraction, greatest, is_heavy}

-- the least value that is heavy against w: one more than the greatest that isn't
abbrev pub least_heavy : Fraction → ℕ → ℕ
least_heavy k w = greatest (λ v. not (is_heavy k v w)) + 1
