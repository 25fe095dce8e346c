use Rattle.std.proofs.Common.{◌≡◌, [], ◌++◌, refl, sym, ap, ◌∙◌, codes}
use Rattle.std.proofs.lemmas.Result.{IfOk-equal}
use Rattle.run_reports.specs.views.Templates.{filled}
use Rattle.run_reports.specs.views.Why.{up_to}
use Rattle.run_reports.proofs.views.story.put_up_to.Goals as goal

-- a template with no place for a number
plain : filled (codes ", with this value for no k") [] ≡ codes ", with this value for no k"
unfolding filled
plain = refl

pub returns-in-None : goal.returns-in-None
returns-in-None c = IfOk-equal c.put.result _ _ _ c.put.ensures
    (ap (λ t. c.args.text.now.items ++ t) plain
    ∙ ap (λ o. c.args.text.now.items ++ up_to c.args.q o) (sym c.in-None.is))

pub returns-in-Some : goal.returns-in-Some
returns-in-Some c = IfOk-equal c.put-in-Some.result _ _ _ c.put-in-Some.ensures
    (ap (λ o. c.args.text.now.items ++ up_to c.args.q o) (sym c.in-Some.is))
