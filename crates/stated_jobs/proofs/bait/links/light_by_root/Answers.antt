use Rattle.std.proofs.Common.{◌≡◌, ◌+◌, ◌*◌, ◌/◌, ◌≤◌, subst, sym, arith}
use Rattle.std.proofs.lemmas.Nat.{mul-le}
use Rattle.dover_model.specs.Greatest.{IsGreatest}
use Rattle.dover_model.proofs.valid.JobLimits.{ratio_limits}
use Rattle.root_compare.proofs.Roots.{one_greatest}
use Rattle.stated_jobs.proofs.bait.Heavy.{is_light, light_is, root_is, root_small}
use Rattle.stated_jobs.proofs.bait.links.light_by_root.Goals as goal

-- what stands under the root
under : (c : goal.After-isqrt)
    → c.from-p.result * c.from-square.result / c.from-q.result ≡ c.args.k.p * (c.args.work * c.args.work) / c.args.k.q
under c = cc

within : (c : goal.After-isqrt)
    → c.isqrt.result * c.isqrt.result ≤ c.args.k.p * (c.args.work * c.args.work) / c.args.k.q
within c = subst (λ n. c.isqrt.result * c.isqrt.result ≤ n) (under c) c.isqrt.ensures.within

found : (c : goal.After-isqrt) → IsGreatest (is_light c.args.k c.args.work) (c.args.work + c.isqrt.result)
found c = root_is c.args.k c.args.work c.isqrt.result c.q.ensures.ratio c.requires.plain (within c)
    (λ r less. c.isqrt.ensures.greatest r (subst (λ n. r * r ≤ n) (sym (under c)) less))

pub returns-clause-is : goal.returns-clause-is
returns-clause-is c = one_greatest _ _ _ (found c)
    (light_is c.args.k c.args.work c.q.ensures.ratio (omega (arith, c.requires.small)))

pub returns-clause-most : goal.returns-clause-most
returns-clause-most c = omega (arith, root_small c.args.k c.args.work c.isqrt.result c.q.ensures.ratio (within c))

pub overflow_mul-work : goal.overflow_mul-work
overflow_mul-work c =
    let square : c.args.work * c.args.work ≤ 1_000_000 * 1_000_000 =
    mul-le c.args.work c.args.work 1_000_000 1_000_000 c.requires.small c.requires.small in
    omega (arith, square)

pub overflow_mul-p : goal.overflow_mul-p
overflow_mul-p c =
    let square : c.args.work * c.args.work ≤ 1_000_000 * 1_000_000 =
    mul-le c.args.work c.args.work 1_000_000 1_000_000 c.requires.small c.requires.small in
    let product : c.from-p.result * c.from-square.result ≤ 1_000_000 * 1_000_000_000_000 =
    mul-le c.from-p.result c.from-square.result 1_000_000 1_000_000_000_000
    (omega (arith, c.from-p.ensures, c.p.ensures.is, (ratio_limits c.p.ensures.ratio).small_p))
    (omega (arith, c.from-square.ensures, square)) in
    omega (arith, product)

pub overflow_cast-result : goal.overflow_cast-result
overflow_cast-result c =
    omega (arith, c.requires.small, root_small c.args.k c.args.work c.isqrt.result c.q.ensures.ratio (within c))

pub overflow_add-result : goal.overflow_add-result
overflow_add-result c =
    omega (arith, c.requires.small, root_small c.args.k c.args.work c.isqrt.result c.q.ensures.ratio (within c))
