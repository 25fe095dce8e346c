use Rattle.std.proofs.Common.{◌++◌, sym, ap, ◌∙◌, append-nil, arith}
use Rattle.std.proofs.lemmas.Result.{IfOk-equal}
use Rattle.dover_model.proofs.valid.JobLimits.{ratio_limits}
use Rattle.run_reports.specs.views.Why.{by_ratios, greatest_ratio, up_to}
use Rattle.run_reports.proofs.views.story.put_by_ratios.Goals as goal

pub greatest_ratio-requires-clause-some : goal.greatest_ratio-requires-clause-some
greatest_ratio-requires-clause-some c = omega (arith, c.q-q.ensures.is, (ratio_limits c.q-q.ensures.ratio).least)

pub greatest_ratio-requires-clause-few : goal.greatest_ratio-requires-clause-few
greatest_ratio-requires-clause-few c = omega (arith, c.q-q.ensures.is, (ratio_limits c.q-q.ensures.ratio).small_q)

pub returns-in-Some : goal.returns-in-Some
returns-in-Some c =
    let k = c.args.asked.now.k in
    sym (append-nil c.args.text.now.items)
    ∙ ap (λ o. c.args.text.now.items ++ by_ratios k o c.args.asked.now.value c.args.worth) c.in-Some.ensures.is

pub returns-in-None : goal.returns-in-None
returns-in-None c =
    let text = c.args.text.now.items in
    let k = c.args.asked.now.k in
    let value = c.args.asked.now.value in
    IfOk-equal c.put_up_to.result _ _ _ c.put_up_to.ensures
    (ap (λ n. text ++ up_to n c.greatest_ratio.result) (c.from.ensures ∙ c.q-q.ensures.is)
    ∙ ap (λ o. text ++ up_to k.q o)
    (c.greatest_ratio.ensures.is ∙ ap (λ n. greatest_ratio n value c.args.worth) c.q-q.ensures.is)
    ∙ ap (λ o. text ++ by_ratios k o value c.args.worth) c.in-None.ensures.is)
