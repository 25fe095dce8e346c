-- Texts that are put one behind another.
use Rattle.std.proofs.Common.{ℕ, List, ◌++◌, Option, Result, Err}
use Rattle.std.proofs.lemmas.Result.{on_ok_weaker, on_err_weaker}
use Rattle.dover_port.specs.Moves.{Move, Passes, CutsShort, PutsThrough}
use Rattle.dover_port.proofs.Through.{passes_then, passes_then_cut, cut_longer}

module _ {T E : Type 0} (a b c : Option (List Move)) (p q r t u : List ℕ) (result : Result T E) where
  -- a text was put, and then another
  pub puts_behind : Passes a b p q t → PutsThrough b c result q r u → PutsThrough a c result p r (t ++ u)
  puts_behind first second = record {
    all = on_ok_weaker result (λ more. passes_then a b c p q r t u first more) second.all;
    part = on_err_weaker result (λ more. passes_then_cut a b c p q r t u first more) second.part;
  }

-- the first of two texts was cut short
pub puts_cut : {T E : Type 0} (a b : Option (List Move)) (p q t u : List ℕ) (d : E) → CutsShort a b p t
    → PutsThrough {T = T} a b (Err d) p q (t ++ u)
puts_cut a b p q t u d it = record { all = tt; part = cut_longer a b p t u it }
