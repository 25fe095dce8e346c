-- A rank gives back the numbers that it keeps.
use Rattle.std.specs.Prelude.{◌≡◌, ℕ}
use Rattle.std.proofs.Common.{arith}
use Rattle.place_heap.specs.Items.{facts_of, low_of}

pub low_back : (key low place : ℕ) → low_of (facts_of key low place) ≡ low
low_back key low place = omega arith
