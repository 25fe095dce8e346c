use Rattle.std.proofs.Common.{◌≤◌, ◌+◌, ◌*◌, subst, sym, ◌∙◌, arith}
use Rattle.dover_model.proofs.lists.Tests.{never}
use Rattle.waiting_pool.proofs.Pooling.{three_orders, two_orders}
use Rattle.waiting_pool.proofs.pool.add_dense.Goals as goal

pub returns-then-by_density-clause-count : goal.returns-then-by_density-clause-count
returns-then-by_density-clause-count g c d fits =
    let by = sym c.by_density.ensures ∙ c.if-by_density.true in
    let put = c.insert.ensures.count d (fits by) in
    subst (λ n. c.insert.new.comparisons + 2 * d ≤ c.args.comparisons.now + n * d)
    (sym (three_orders c.args.version by)) (omega (arith, put))

pub returns-else-by_density-clause-in_it : goal.returns-else-by_density-clause-in_it
returns-else-by_density-clause-in_it g c by = never (sym c.if-by_density.false ∙ c.by_density.ensures ∙ by)

pub returns-else-by_density-clause-count : goal.returns-else-by_density-clause-count
returns-else-by_density-clause-count g c d fits =
    let by = sym c.by_density.ensures ∙ c.if-by_density.false in
    subst (λ n. c.args.comparisons.now + 2 * d ≤ c.args.comparisons.now + n * d)
    (sym (two_orders c.args.version by)) (omega arith)
