use Rattle.std.proofs.Common.{[], ◌∷◌, refl, arith, ◌≤◌}
use Rattle.std.proofs.lemmas.Result.{IfOk-equal}
use Rattle.run_reports.specs.views.Why.{product}
use Rattle.run_reports.proofs.views.Joining.{joined}
use Rattle.dover_model.proofs.valid.JobLimits.{factor_limits}
use Rattle.run_reports.proofs.views.story.put_products.Goals as goal

pub returns : goal.returns
returns c k = IfOk-equal c.put_product-2.result _ _ _ c.put_product-2.ensures
    (joined c.args.text.now.items
    (product c.args.factor.c c.args.value ∷ c.args.answer.now ∷ product c.args.factor.b c.args.worth ∷ []) _
    (_, c.in_ok-put_product.ensures, (_, c.in_ok-extend_from_slice.ensures.items, (_, refl, refl))))

pub put_product-requires-clause-part : goal.put_product-requires-clause-part
put_product-requires-clause-part c =
    let small : c.args.factor.c ≤ 1_000 = (factor_limits c.args.factor c.requires.factor).small_c in
    omega (arith, small)

pub put_product-requires-clause-value : goal.put_product-requires-clause-value
put_product-requires-clause-value c = omega (arith, c.requires.value)

pub put_product-requires-2-clause-part : goal.put_product-requires-2-clause-part
put_product-requires-2-clause-part c = (factor_limits c.args.factor c.requires.factor).small_b

pub put_product-requires-2-clause-value : goal.put_product-requires-2-clause-value
put_product-requires-2-clause-value c = c.requires.worth
