use Rattle.std.proofs.Common.{◌≡◌, ◌+◌, ◌-◌, ◌*◌, ◌/◌, ◌≤◌, ◌^◌, IsTrue, arith, subst, Some}
use Rattle.std.proofs.lemmas.Nat.{mul-le}
use Rattle.dover_model.specs.Common.{is_some_factor, IsGreatest, is_within_by, scale, share}
use Rattle.dover_model.proofs.bound.GreatestLaws.{bound_by-is}
use Rattle.dover_model.proofs.valid.JobLimits.{ratio_limits}
use Rattle.root_compare.proofs.Factors.{share_few, quotient_low}
use Rattle.root_compare.proofs.compare.factor_bound.Goals as goal

-- the factor is within its limits
within : (c : goal.After-max) → IsTrue (is_some_factor (Some c.args.factor))
within c = subst (λ o. IsTrue (is_some_factor o)) c.requires.factor (ratio_limits c.q.ensures.ratio).factor

-- the share, with the numbers of the ratio and the factor
share_is : (c : goal.After-max) → share c.args.k c.args.factor ≡ c.from-q.result * c.from-b.result
    * (c.from-b.result - c.from-c.result) + c.from-p.result * c.from-c.result * (c.from-b.result - c.from-c.result)
    + c.from-c.result * c.max.result
share_is c = cc

-- it is no great number
few : (c : goal.After-max) → c.from-q.result * c.from-b.result * (c.from-b.result - c.from-c.result) + c.from-p.result
    * c.from-c.result * (c.from-b.result - c.from-c.result) + c.from-c.result * c.max.result ≤ 3 * 10 ^ 15
few c = subst (λ n. n ≤ 3 * 10 ^ 15) (share_is c) (share_few c.args.k c.args.factor c.q.ensures.ratio (within c))

pub overflow_add-share-2 : goal.overflow_add-share-2
overflow_add-share-2 c = omega (arith, few c)

-- the same behind the last number
within_there : (c : goal.After-from) → IsTrue (is_some_factor (Some c.args.factor))
within_there c = subst (λ o. IsTrue (is_some_factor o)) c.requires.factor (ratio_limits c.q.ensures.ratio).factor

-- the share, with the numbers of the ratio and the factor
share_there : (c : goal.After-from) → share c.args.k c.args.factor ≡ c.from-q.result * c.from-b.result
    * (c.from-b.result - c.from-c.result) + c.from-p.result * c.from-c.result * (c.from-b.result - c.from-c.result)
    + c.from-c.result * c.max.result
share_there c = cc

-- it is no great number
few_there : (c : goal.After-from) → c.from-q.result * c.from-b.result
    * (c.from-b.result - c.from-c.result) + c.from-p.result
    * c.from-c.result * (c.from-b.result - c.from-c.result) + c.from-c.result * c.max.result ≤ 3 * 10 ^ 15
few_there c = subst (λ n. n ≤ 3 * 10 ^ 15) (share_there c)
    (share_few c.args.k c.args.factor c.q.ensures.ratio (within_there c))

pub overflow_mul-result : goal.overflow_mul-result
overflow_mul-result c =
    let small : c.from.result ≤ 10 ^ 18 = omega (arith, c.from.ensures, c.requires.completed) in
    let product : (c.from-q.result * c.from-b.result * (c.from-b.result - c.from-c.result) + c.from-p.result
    * c.from-c.result * (c.from-b.result - c.from-c.result) + c.from-c.result * c.max.result) * c.from.result ≤
    (3 * 10 ^ 15) * 10 ^ 18 = mul-le _ c.from.result (3 * 10 ^ 15) (10 ^ 18) (few_there c) small in
    omega (arith, product)

-- the result, with the numbers of the ratio and the factor
result_is : (c : goal.After-from) → share c.args.k c.args.factor * c.args.a / scale c.args.k c.args.factor
    ≡ (c.from-q.result * c.from-b.result * (c.from-b.result - c.from-c.result) + c.from-p.result * c.from-c.result
    * (c.from-b.result - c.from-c.result) + c.from-c.result * c.max.result) * c.from.result
    / (c.from-q.result * c.from-c.result * (c.from-b.result - c.from-c.result))
result_is c = cc

pub returns-clause-greatest : goal.returns-clause-greatest
returns-clause-greatest c = subst (IsGreatest (λ n. is_within_by c.args.k (Some c.args.factor) n c.args.a))
    (result_is c)
    (bound_by-is c.args.k (Some c.args.factor) c.args.a c.q.ensures.ratio (within_there c) c.requires.completed)

pub returns-clause-small : goal.returns-clause-small
returns-clause-small c = subst (λ n. n ≤ 1_002_000_000 * c.args.a) (result_is c)
    (quotient_low c.args.k c.args.factor c.q.ensures.ratio (within_there c) c.args.a)
