use Rattle.std.proofs.Common.{◌+◌, ◌*◌, ◌/◌, ◌%◌, ◌∙◌, ap}
use Rattle.waiting_pool.proofs.LongDivision.{in_steps}
use Rattle.waiting_pool.proofs.pool.density_of.Goals as goal

pub returns : goal.returns
returns c = ap (λ n. n * 70_368_744_177_664 + (c.from-2.result * 8_388_608 + c.from-3.result)) c.from.ensures
    ∙ ap (λ n. c.args.value * 17_179_869_184 / c.args.work * 70_368_744_177_664 + (n * 8_388_608 + c.from-3.result))
    c.from-2.ensures
    ∙ ap (λ n. c.args.value * 17_179_869_184 / c.args.work * 70_368_744_177_664
    + (c.args.value * 17_179_869_184 % c.args.work * 8_388_608 / c.args.work * 8_388_608 + n)) c.from-3.ensures
    ∙ in_steps c.args.value c.args.work c.requires.some
