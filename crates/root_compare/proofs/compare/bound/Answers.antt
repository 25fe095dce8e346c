use Rattle.std.proofs.Common.{arith, sym, subst}
use Rattle.dover_model.specs.Common.{is_within_by, IsGreatest}
use Rattle.root_compare.proofs.compare.bound.Goals as goal

pub overflow_cast-result : goal.overflow_cast-result
overflow_cast-result c = omega (arith, c.root_bound.ensures.small, c.requires.completed)

pub returns-clause-greatest : goal.returns-clause-greatest
returns-clause-greatest c = subst (λ o. IsGreatest (λ n. is_within_by c.args.k o n c.args.a) c.root_bound.result)
    (sym c.requires.plain) c.root_bound.ensures.greatest
