use Rattle.std.proofs.Common.{[], ◌∷◌, refl, codes}
use Rattle.run_reports.specs.views.Templates.{filled}
use Rattle.run_reports.specs.views.Why.{tested}
use Rattle.run_reports.proofs.views.Joining.{joined}
use Rattle.run_reports.proofs.views.story.put_takes.Goals as goal

pub returns : goal.returns
returns c = joined c.args.text.now.items
    (filled (codes "at @ it takes the processor from job @") (c.args.at ∷ c.args.stops ∷ [])
    ∷ tested c.args.asked.now.k c.args.asked.now.value c.args.worth (codes " above") ∷ codes "\n" ∷ []) _ (
      _,
      rw c.from.ensures at c.in_ok-put.ensures,
      (_, c.in_ok-put_tested.ensures, (_, c.in_ok-extend_from_slice.ensures.items, refl)),
    )
