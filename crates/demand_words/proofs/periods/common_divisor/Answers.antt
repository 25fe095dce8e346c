use Rattle.std.proofs.lemmas.Nat.Gcd.{IsGcd-from_zero, IsGcd-from_mod}
use Rattle.std.proofs.Common.{arith}
use Rattle.demand_words.proofs.periods.common_divisor.Goals as goal

pub loop-second-preserved : goal.loop-second-preserved
loop-second-preserved c = record {
  same = λ g is. c.loop-second.invariant.same g (IsGcd-from_mod c.loop-second.first c.loop-second.second g is);
}

pub returns : goal.returns
returns c = c.loop-second.invariant.same c.loop-second.first
    (IsGcd-from_zero c.loop-second.first c.loop-second.second (omega (arith, c.loop-second-test.false)))
