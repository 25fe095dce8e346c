use Rattle.std.proofs.Common.{◌++◌, IsTrue, sym, ap, subst}
use Rattle.std.proofs.lemmas.Result.{IfOk-equal}
use Rattle.dover_model.specs.Fraction.{is_some_factor}
use Rattle.dover_model.proofs.valid.JobLimits.{ratio_limits}
use Rattle.run_reports.specs.views.Why.{sides}
use Rattle.run_reports.proofs.views.story.put_sides.Goals as goal

pub put_products-requires-clause-factor : goal.put_products-requires-clause-factor
put_products-requires-clause-factor c = subst (λ o. IsTrue (is_some_factor o)) (sym c.in-Some.ensures.is)
    (ratio_limits c.in-Some.ensures.ratio).factor

pub returns-in-None : goal.returns-in-None
returns-in-None c =
    let k = c.args.asked.now.k in
    IfOk-equal c.put_squares.result _ _ _ c.put_squares.ensures
    (ap (λ o. c.args.text.now.items ++ sides k o c.args.asked.now.value c.args.worth c.args.answer.now)
    c.in-None.ensures.is)

pub returns-in-Some : goal.returns-in-Some
returns-in-Some c =
    let k = c.args.asked.now.k in
    IfOk-equal c.put_products.result _ _ _ (c.put_products.ensures k)
    (ap (λ o. c.args.text.now.items ++ sides k o c.args.asked.now.value c.args.worth c.args.answer.now)
    c.in-Some.ensures.is)
