use Rattle.std.proofs.Common.{None, IsTrue, refl, ◌≡◌, ◌+◌, ◌*◌, ◌/◌, ◌≤◌, ◌^◌, arith, subst, sym}
use Rattle.dover_model.specs.Common.{is_some_factor, IsGreatest, is_within_root, bound_by}
use Rattle.std.proofs.lemmas.Nat.{mul-le}
use Rattle.dover_model.proofs.bound.GreatestLaws.{bound_by-is, root_small, sum_small, root_within_small}
use Rattle.root_compare.proofs.Roots.{one_greatest, root_gives}
use Rattle.dover_model.proofs.valid.JobLimits.{ratio_limits}
use Rattle.root_compare.proofs.compare.root_bound.Goals as goal

some_none : IsTrue (is_some_factor None)
some_none = refl

-- what stands under the root, with the numbers of the ratio
under : (c : goal.After-scaled_root) → 4 * c.from-p.result * c.from-q.result * c.from-a.result * c.from-a.result
    ≡ 4 * c.args.k.p * c.args.k.q * c.args.a * c.args.a
under c = cc

pub overflow_add-result-2 : goal.overflow_add-result-2
overflow_add-result-2 c =
    let root : c.scaled_root.result ≤ 2_000 * (c.args.k.q * c.args.a) =
    root_small c.args.k c.args.a c.scaled_root.result c.q.ensures.ratio
    (subst (λ n. c.scaled_root.result * c.scaled_root.result ≤ n) (under c) c.scaled_root.ensures.within) in
    let sum : (c.args.k.p + c.args.k.q) * c.args.a ≤ 1_000_001 * (c.args.k.q * c.args.a) =
    sum_small c.args.k c.args.a c.q.ensures.ratio in
    let same : (c.from-p.result + c.from-q.result) * c.from-a.result ≡ (c.args.k.p + c.args.k.q) * c.args.a = cc in
    let product : c.args.k.q * c.args.a ≤ 1_000 * 10 ^ 18 =
    mul-le c.args.k.q c.args.a 1_000 (10 ^ 18) (ratio_limits c.q.ensures.ratio).small_q
    (omega (arith, c.requires.completed)) in
    omega (arith, root, sum, same, product)

pub returns-clause-greatest : goal.returns-clause-greatest
returns-clause-greatest c =
    let value : ((c.args.k.p + c.args.k.q) * c.args.a + c.scaled_root.result) / c.args.k.q
    ≡ ((c.from-p.result + c.from-q.result) * c.from-a.result + c.scaled_root.result) / c.from-q.result = cc in
    subst (IsGreatest (λ n. is_within_root c.args.k n c.args.a)) value
    (root_gives c.args.k c.args.a c.scaled_root.result (ratio_limits c.q.ensures.ratio).least
    (subst (λ n. c.scaled_root.result * c.scaled_root.result ≤ n) (under c) c.scaled_root.ensures.within)
    (λ r less. c.scaled_root.ensures.greatest r (subst (λ n. r * r ≤ n) (sym (under c)) less)))

pub returns-clause-is : goal.returns-clause-is
returns-clause-is c = one_greatest (λ n. is_within_root c.args.k n c.args.a)
    (((c.from-p.result + c.from-q.result) * c.from-a.result + c.scaled_root.result) / c.from-q.result)
    (bound_by c.args.k None c.args.a)
    (returns-clause-greatest c) (bound_by-is c.args.k None c.args.a c.q.ensures.ratio some_none c.requires.completed)

pub returns-clause-small : goal.returns-clause-small
returns-clause-small c = root_within_small c.args.k
    (((c.from-p.result + c.from-q.result) * c.from-a.result + c.scaled_root.result) / c.from-q.result) c.args.a
    c.q.ensures.ratio
    (returns-clause-greatest c).does
