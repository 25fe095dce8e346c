use Rattle.std.proofs.Common.{[], ◌∷◌, refl, codes}
use Rattle.run_reports.specs.views.Templates.{filled}
use Rattle.run_reports.specs.views.Why.{tested, by_ratios}
use Rattle.run_reports.proofs.views.Joining.{joined}
use Rattle.run_reports.proofs.views.story.put_goes.Goals as goal

pub returns : goal.returns
returns c =
    let k = c.args.asked.now.k in
    joined c.args.text.now.items
    (filled (codes "at @ it is abandoned") (c.args.at ∷ [])
    ∷ tested k c.args.asked.now.value c.args.worth (codes " not above")
    ∷ by_ratios k k.factor c.args.asked.now.value c.args.worth ∷ codes "\n" ∷ []) _ (
      _,
      c.in_ok-put.ensures,
      (
        _,
        c.in_ok-put_tested.ensures,
        (_, c.in_ok-put_by_ratios.ensures, (_, c.in_ok-extend_from_slice.ensures.items, refl)),
      ),
    )
