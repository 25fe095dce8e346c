use Rattle.std.proofs.Common.{◌≡◌, ◌+◌, ◌*◌, ◌/◌, ◌≤◌, ◌<◌, ◌^◌, ◌⊎◌, inl, inr, ℕ, Some, None, arith, subst, sym}
use Rattle.std.proofs.Math.Nat.{div-le_self}
use Rattle.std.proofs.lemmas.Nat.{mul-le}
use Rattle.std.proofs.lemmas.Bool.{cases_lt}
use Rattle.dover_model.specs.Common.{IsHeavy, is_some_factor}
use Rattle.dover_model.proofs.valid.JobLimits.{ratio_limits, FactorLimits, factor_limits}
use Rattle.std.proofs.Common.{IsTrue}
use Rattle.root_compare.proofs.Least.{least_is, root_heavy, root_least, factor_heavy, factor_least}
use Rattle.root_compare.proofs.compare.least_heavy.Goals as goal

-- no factor is declared
plain : (c : goal.After-isqrt) → c.args.k.factor ≡ None
plain c = cc

-- what stands under the root, with the numbers of the ratio
under : (c : goal.After-isqrt) → c.from-p.result * c.from-sum.result * c.from-sum.result / c.from-q.result
    ≡ c.args.k.p * c.args.w * c.args.w / c.args.k.q
under c = cc

within : (c : goal.After-isqrt) → c.isqrt.result * c.isqrt.result ≤ c.args.k.p * c.args.w * c.args.w / c.args.k.q
within c = subst (λ n. c.isqrt.result * c.isqrt.result ≤ n) (under c) c.isqrt.ensures.within

most : (c : goal.After-isqrt) (r : ℕ) → r * r ≤ c.args.k.p * c.args.w * c.args.w / c.args.k.q → r ≤ c.isqrt.result
most c r less = c.isqrt.ensures.greatest r (subst (λ n. r * r ≤ n) (sym (under c)) less)

pub returns-in-None-clause-heavy : goal.returns-in-None-clause-heavy
returns-in-None-clause-heavy c = root_heavy c.args.k (plain c) c.args.w c.isqrt.result
    (ratio_limits c.q.ensures.ratio).least (within c) (most c)

pub returns-in-None-clause-least : goal.returns-in-None-clause-least
returns-in-None-clause-least c = root_least c.args.k (plain c) c.args.w c.isqrt.result
    (ratio_limits c.q.ensures.ratio).least (within c) (most c)

-- the root is no great number
small_root : (p w root : ℕ) → p ≤ 1_000_000 → w ≤ 10_000_000_000_000 → root * root ≤ p * w * w
    → root ≤ 10_000_000_000_000_000
small_root p w root small_p small_w square = by_order (cases_lt 10_000_000_000_000_000 root) where
  low : p * (w * w) ≤ 1_000_000 * (10_000_000_000_000 * 10_000_000_000_000)
  low = mul-le p (w * w) 1_000_000 (10_000_000_000_000 * 10_000_000_000_000) small_p
      (mul-le w w 10_000_000_000_000 10_000_000_000_000 small_w small_w)

  by_order : (10_000_000_000_000_000 < root) ⊎ (root ≤ 10_000_000_000_000_000) → root ≤ 10_000_000_000_000_000
  by_order (inr less) = less
  by_order (inl more) = absurd (let squares = mul-le 10_000_000_000_000_001 10_000_000_000_000_001 root root
      (omega (arith, more)) (omega (arith, more)) in omega (arith, squares, low, square))

pub returns-in-None-clause-is : goal.returns-in-None-clause-is
returns-in-None-clause-is c = least_is c.args.k c.args.w (c.args.w + c.isqrt.result + 1)
    (let root : c.isqrt.result ≤ 10_000_000_000_000_000 = small_root c.args.k.p c.args.w c.isqrt.result
    (ratio_limits c.q.ensures.ratio).small_p c.requires
    (omega (arith, within c, div-le_self (c.args.k.p * c.args.w * c.args.w) c.args.k.q)) in
    omega (arith, root, c.requires))
    (returns-in-None-clause-heavy c) (returns-in-None-clause-least c)

-- the factor is declared, and within its limits
factor_is : (c : goal.After-from-in-Some) → c.args.k.factor ≡ Some c.in-Some.factor
factor_is c = cc

limits : (c : goal.After-from-in-Some) → FactorLimits c.in-Some.factor
limits c = factor_limits c.in-Some.factor
    (subst (λ o. IsTrue (is_some_factor o)) (factor_is c) (ratio_limits c.factor.ensures.ratio).factor)

value : (c : goal.After-from-in-Some) → c.in-Some.factor.b * c.args.w / c.in-Some.factor.c + 1
    ≡ c.from.result * c.args.w / c.from-in-Some.result + 1
value c = cc

pub returns-in-Some-clause-heavy : goal.returns-in-Some-clause-heavy
returns-in-Some-clause-heavy c = subst (λ n. IsHeavy c.args.k n c.args.w) (value c)
    (factor_heavy c.args.k c.in-Some.factor (factor_is c) (limits c).least (limits c).more c.args.w)

pub returns-in-Some-clause-least : goal.returns-in-Some-clause-least
returns-in-Some-clause-least c = λ v heavy. subst (λ n. n ≤ v) (value c)
    (factor_least c.args.k c.in-Some.factor (factor_is c) (limits c).least (limits c).more c.args.w v heavy)

-- the quotient is no great number
small_part : (b w d : ℕ) → b ≤ 1_000_000 → w ≤ 10_000_000_000_000 → b * w / d + 1 ≤ 2 ^ 80
small_part b w d small_b small_w =
    let low : b * w ≤ 1_000_000 * 10_000_000_000_000 = mul-le b w 1_000_000 10_000_000_000_000 small_b small_w in
    omega (arith, low, div-le_self (b * w) d)

pub returns-in-Some-clause-is : goal.returns-in-Some-clause-is
returns-in-Some-clause-is c = least_is c.args.k c.args.w (c.from.result * c.args.w / c.from-in-Some.result + 1)
    (small_part c.from.result c.args.w c.from-in-Some.result
    (let small : c.in-Some.factor.b ≤ 1_000_000 = (limits c).small_b in
    omega (arith, small, c.from.ensures)) c.requires)
    (returns-in-Some-clause-heavy c) (returns-in-Some-clause-least c)
