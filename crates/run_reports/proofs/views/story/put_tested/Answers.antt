use Rattle.std.proofs.Common.{[], ◌∷◌, refl, codes}
use Rattle.std.proofs.lemmas.Result.{IfOk-equal}
use Rattle.run_reports.specs.views.Templates.{filled}
use Rattle.root_compare.specs.Least.{least_heavy}
use Rattle.run_reports.specs.views.Why.{sides, tested}
use Rattle.run_reports.proofs.views.Joining.{joined}
use Rattle.run_reports.proofs.views.story.put_tested.Goals as goal

pub returns : goal.returns
unfolding tested
returns c =
    let k = c.args.asked.now.k in
    IfOk-equal c.put-2.result _ _ _ (rw c.least_heavy.ensures.is at c.put-2.ensures)
    (joined c.args.text.now.items
    (filled (codes ", its value @ against @ under way:") (c.args.asked.now.value ∷ c.args.worth ∷ [])
    ∷ sides k k.factor c.args.asked.now.value c.args.worth c.args.answer.now
    ∷ filled (codes "; heavy from @ on") (least_heavy k c.args.worth ∷ []) ∷ []) _
    (_, c.in_ok-put.ensures, (_, c.in_ok-put_sides.ensures, (_, refl, refl))))

pub least_heavy-requires : goal.least_heavy-requires
least_heavy-requires c = c.requires.worth
