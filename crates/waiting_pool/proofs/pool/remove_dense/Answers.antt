use Rattle.std.proofs.Common.{◌≤◌, ◌+◌, ◌*◌, subst, sym, ◌∙◌, arith}
use Rattle.dover_model.proofs.lists.Tests.{never}
use Rattle.waiting_pool.proofs.Pooling.{three_orders, two_orders}
use Rattle.waiting_pool.proofs.pool.remove_dense.Goals as goal

pub returns-then-by_density-clause-count : goal.returns-then-by_density-clause-count
returns-then-by_density-clause-count g c d fits =
    let by = sym c.by_density.ensures ∙ c.if-by_density.true in
    let taken = c.remove.ensures.count d (fits by) in
    subst (λ n. c.remove.new.comparisons + 6 * d ≤ c.args.comparisons.now + 3 * n * d)
    (sym (three_orders c.args.version by)) (omega (arith, taken))

pub returns-else-by_density-clause-out : goal.returns-else-by_density-clause-out
returns-else-by_density-clause-out g c by = never (sym c.if-by_density.false ∙ c.by_density.ensures ∙ by)

pub returns-else-by_density-clause-count : goal.returns-else-by_density-clause-count
returns-else-by_density-clause-count g c d fits =
    let by = sym c.by_density.ensures ∙ c.if-by_density.false in
    subst (λ n. c.args.comparisons.now + 6 * d ≤ c.args.comparisons.now + 3 * n * d)
    (sym (two_orders c.args.version by)) (omega arith)
