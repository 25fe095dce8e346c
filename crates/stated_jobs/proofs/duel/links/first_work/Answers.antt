use Rattle.std.proofs.Common.{◌≤◌, ◌*◌, arith}
use Rattle.std.proofs.lemmas.Nat.{mul-le, div_below}
use Rattle.dover_model.proofs.valid.JobLimits.{ratio_limits}
use Rattle.stated_jobs.proofs.duel.links.first_work.Goals as goal

pub overflow_mul-result : goal.overflow_mul-result
overflow_mul-result c =
    let product : c.args.share.whole * c.from.result ≤ 1_000_000 * 1_000_000 =
    mul-le c.args.share.whole c.from.result 1_000_000 1_000_000 c.requires.few
    (omega (arith, c.from.ensures, c.p.ensures.is, (ratio_limits c.p.ensures.ratio).small_p)) in
    omega (arith, product)

pub overflow_mul-result-2 : goal.overflow_mul-result-2
overflow_mul-result-2 c =
    let product : c.args.share.part * c.from-2.result ≤ 1_000_000 * 1_000 =
    mul-le c.args.share.part c.from-2.result 1_000_000 1_000 c.requires.few_parts
    (omega (arith, c.from-2.ensures, c.q.ensures.is, (ratio_limits c.q.ensures.ratio).small_q)) in
    omega (arith, product)

pub returns-clause-small : goal.returns-clause-small
returns-clause-small c =
    let product : c.args.share.whole * c.from.result ≤ 1_000_000 * 1_000_000 =
    mul-le c.args.share.whole c.from.result 1_000_000 1_000_000 c.requires.few
    (omega (arith, c.from.ensures, c.p.ensures.is, (ratio_limits c.p.ensures.ratio).small_p)) in
    let some : 1 * 1 ≤ c.args.share.part * c.from-2.result = mul-le 1 1 c.args.share.part c.from-2.result
    c.requires.some_part (omega (arith, c.from-2.ensures, c.q.ensures.is, (ratio_limits c.q.ensures.ratio).least)) in
    omega (
      arith,
      div_below (c.args.share.whole * c.from.result) (c.args.share.part * c.from-2.result)
          1_000_000_000_001 (omega (arith, some)) (omega (arith, product, some)),
    )

pub overflow_add-result : goal.overflow_add-result
overflow_add-result c =
    let product : c.args.share.whole * c.from.result ≤ 1_000_000 * 1_000_000 =
    mul-le c.args.share.whole c.from.result 1_000_000 1_000_000 c.requires.few
    (omega (arith, c.from.ensures, c.p.ensures.is, (ratio_limits c.p.ensures.ratio).small_p)) in
    let some : 1 * 1 ≤ c.args.share.part * c.from-2.result = mul-le 1 1 c.args.share.part c.from-2.result
    c.requires.some_part (omega (arith, c.from-2.ensures, c.q.ensures.is, (ratio_limits c.q.ensures.ratio).least)) in
    omega (
      arith,
      div_below (c.args.share.whole * c.from.result) (c.args.share.part * c.from-2.result)
          1_000_000_000_001 (omega (arith, some)) (omega (arith, product, some)),
    )
