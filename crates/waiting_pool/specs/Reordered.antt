-- Lists with the same members, in some order.
use Rattle.std.specs.Prelude.{◌≡◌, ℕ, List, sum_by}
use Rattle.dover_model.specs.Sound.{IsMember, Each}

-- the members of either list are those of the other, and however they are weighed, both weigh the same: none is there
-- more often than here
pub record IsReordered {X : Type 0} (xs ys : List X) : Type 0 where
  pub there : Each (λ x. IsMember x ys) xs
  pub back : Each (λ y. IsMember y xs) ys
  pub weighs : (f : X → ℕ) → sum_by f ys ≡ sum_by f xs
