-- Sums as far as words take them.
use Rattle.std.proofs.Common.{◌≡◌, ℕ, ◌+◌, ◌<◌, ◌^◌, arith}
use Rattle.run_record.specs.ledger.Pages.{capped}

-- a sum of two parts, of which one is as far as a word takes it
pub capped_more : (a b : ℕ) → capped (capped a + b) ≡ capped (a + b)
capped_more a b = omega arith

-- a number that a word takes
pub capped_small : (n : ℕ) → n < 2 ^ 64 → capped n ≡ n
capped_small n small = omega (arith, small)
