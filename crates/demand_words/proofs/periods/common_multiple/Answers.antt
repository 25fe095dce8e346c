use Rattle.std.proofs.Common.{◌≤◌, ◌/◌, sym, subst}
use Rattle.std.specs.Int.{◌∣◌}
use Rattle.demand_words.proofs.Dividing.{some_divisor, first_divides, second_divides, some_multiple}
use Rattle.demand_words.proofs.Sizes.{product}
use Rattle.demand_words.proofs.periods.common_multiple.Goals as goal

pub nonzero_div-a : goal.nonzero_div-a
nonzero_div-a c = some_divisor c.args.a c.common_divisor.result c.requires.a c.common_divisor.ensures.0

pub returns-clause-first : goal.returns-clause-first
returns-clause-first c = subst (λ n. c.args.a ∣ n)
    (sym (product c.from.result c.from-2.result (c.args.a / c.common_divisor.result) c.args.b
    c.from.ensures c.from-2.ensures))
    (first_divides c.args.a c.args.b c.common_divisor.result c.common_divisor.ensures)

pub returns-clause-second : goal.returns-clause-second
returns-clause-second c = subst (λ n. c.args.b ∣ n)
    (sym (product c.from.result c.from-2.result (c.args.a / c.common_divisor.result) c.args.b
    c.from.ensures c.from-2.ensures))
    (second_divides c.args.a c.args.b c.common_divisor.result c.common_divisor.ensures)

pub returns-clause-some : goal.returns-clause-some
returns-clause-some c = subst (λ n. 1 ≤ n)
    (sym (product c.from.result c.from-2.result (c.args.a / c.common_divisor.result) c.args.b
    c.from.ensures c.from-2.ensures))
    (some_multiple c.args.a c.args.b c.common_divisor.result c.common_divisor.ensures c.requires.a c.requires.b)
