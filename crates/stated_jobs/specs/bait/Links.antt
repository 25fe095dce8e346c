-- What the values of a baiting feed are to be: a link takes the processor by as little as it can, and the bait just
-- doesn't.
use Rattle.std.specs.Prelude.{ℕ, ◌≤◌}
use Rattle.dover_model.specs.Common.{Fraction, IsHeavy}

-- w is the least value, at least 1, against which the value v isn't heavy
pub record IsLeastUnmoved (k : Fraction) (v w : ℕ) : Type 0 where
  pub some : 1 ≤ w
  pub unmoved : IsHeavy k v w → ⊥
  pub least : (u : ℕ) → 1 ≤ u → (IsHeavy k v u → ⊥) → w ≤ u

-- v is the least value that is heavy against w
pub record IsLeastHeavy (k : Fraction) (w v : ℕ) : Type 0 where
  pub heavy : IsHeavy k v w
  pub least : (u : ℕ) → IsHeavy k u w → v ≤ u

-- v is the greatest value that isn't heavy against w
pub record IsMostLight (k : Fraction) (w v : ℕ) : Type 0 where
  pub light : IsHeavy k v w → ⊥
  pub most : (u : ℕ) → (IsHeavy k u w → ⊥) → u ≤ v
