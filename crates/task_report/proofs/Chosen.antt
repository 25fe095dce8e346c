-- The first of two numbers, where it is below a bound, and else the second.
use Rattle.std.proofs.Common.{◌≡◌, ◌<◌, ◌≤◌, ℕ, arith, cond, nat_lt}
use Rattle.std.proofs.lemmas.Grind.{common_steps}

-- the first is below the bound
pub first_chosen : (f g n r : ℕ) → r ≡ f → r < n → r ≡ cond (nat_lt f n) f g
first_chosen f g n r is less = grind (arith, common_steps)

-- it isn't
pub last_chosen : (f g n r m : ℕ) → m ≡ f → n ≤ m → r ≡ g → r ≡ cond (nat_lt f n) f g
last_chosen f g n r m is over last = grind (arith, common_steps)
