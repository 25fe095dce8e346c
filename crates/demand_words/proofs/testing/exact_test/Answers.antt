use Rattle.std.proofs.Common.{◌≤◌, ◌*◌, ◌/◌, arith, subst, sum_by}
use Rattle.demand_words.specs.Demanded.{all_facts}
use Rattle.demand_words.proofs.Dividing.{period_is}
use Rattle.demand_words.proofs.Sharing.{tells}
use Rattle.demand_words.proofs.testing.exact_test.Goals as goal

pub look_down-requires-clause-tells : goal.look_down-requires-clause-tells
look_down-requires-clause-tells c = tells c.args.tasks.now c.from.result c.in-Horizon.horizon c.requires
    (omega (arith, c.from.ensures, c.in-Some.ensures.some)) c.in-Horizon.ensures.0

pub look_down-requires-in-Unknown-clause-tells : goal.look_down-requires-in-Unknown-clause-tells
look_down-requires-in-Unknown-clause-tells c =
    period_is c.args.tasks.now c.in-Some.period c.last_deadline.result c.requires c.in-Some.ensures.some
    c.in-Some.ensures.each c.last_deadline.ensures.each
    (subst (λ n. sum_by (λ t. n * t.work / t.distance) (all_facts c.args.tasks.now) ≤ n) c.from.ensures
    c.in-Unknown.ensures.1)
