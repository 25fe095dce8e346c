use Rattle.std.proofs.Common.{true, false, sym, ap, ◌∙◌, subst}
use Rattle.dover_model.specs.Orders.{waiting_order, by_density}
use Rattle.dover_model.specs.declared.events.Version.TheVariants.{Four}
use Rattle.waiting_pool.specs.Pools.{IsPlaceOf}
use Rattle.waiting_pool.proofs.Pooling.{due_place, dense_place, only_four}
use Rattle.waiting_pool.proofs.pool.waiting_place.Goals as goal

pub returns-then-by_density : goal.returns-then-by_density
returns-then-by_density c slots due dense own modest =
    let is = sym c.by_density.ensures ∙ c.if-by_density.true in
    let four = only_four c.args.version c.args.pressed is in
    subst (λ b. IsPlaceOf (waiting_order c.args.version b) slots c.first_place.result) (sym is)
    (subst (λ v. IsPlaceOf (waiting_order v true) slots c.first_place.result) (sym four)
    (subst (IsPlaceOf (waiting_order Four true) slots) (sym c.first_place.ensures.2)
    (dense_place slots c.args.dense.now c.first_place.ensures.0 c.first_place.ensures.1
    (dense (ap (λ v. by_density v true) four)) own modest)))

pub returns : goal.returns
returns c slots due dense own modest =
    let is = sym c.by_density.ensures ∙ c.if-by_density.false in
    subst (λ b. IsPlaceOf (waiting_order c.args.version b) slots c.first_place-2.result) (sym is)
    (subst (IsPlaceOf (waiting_order c.args.version false) slots) (sym c.first_place-2.ensures.2)
    (due_place c.args.version slots c.args.by_deadline.now c.first_place-2.ensures.0 c.first_place-2.ensures.1 due
    own modest))
