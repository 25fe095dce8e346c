use Rattle.std.proofs.Common.{◌*◌, ◌≤◌, arith}
use Rattle.std.proofs.lemmas.Nat.{mul-le}
use Rattle.run_reports.proofs.views.story.put_product.Goals as goal

pub overflow_mul-part : goal.overflow_mul-part
overflow_mul-part c =
    let most : c.from-part.result * c.args.value ≤ 1_000_000 * 10_000_000_000_000 =
    mul-le c.from-part.result c.args.value 1_000_000 10_000_000_000_000
    (omega (arith, c.from-part.ensures, c.requires.part))
    c.requires.value in omega (arith, most)
