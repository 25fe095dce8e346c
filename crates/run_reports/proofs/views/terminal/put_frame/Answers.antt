use Rattle.std.proofs.Common.{[], ◌∷◌, ◌-◌, ◌/◌, ◌++◌, refl, ap, ◌∙◌, append_assoc, codes}
use Rattle.run_reports.specs.views.Templates.{filled}
use Rattle.run_reports.specs.views.Timeline.{column_ticks, column_of, blanks, labels_from}
use Rattle.run_reports.proofs.views.Filling.{filled_two}
use Rattle.run_reports.proofs.views.Joining.{joined}
use Rattle.run_reports.proofs.views.terminal.put_frame.Goals as goal

pub returns : goal.returns
unfolding filled
returns c =
    let text = c.args.text.now.items in
    let w = c.args.window.now in
    let ticks = filled (codes "       ticks of a column: @\n") (column_ticks w ∷ []) in
    let labels = labels_from w (column_of w (w.until - 1) / 20) 0 in
    joined text ((ticks ++ blanks 7) ∷ labels ∷ codes "\n" ∷ []) _ (
      _,
      (rw c.column_ticks.ensures at c.in_ok-put.ensures)
          ∙ ap (λ t. text ++ t)
          (filled_two (codes "       ticks of a column: @\n") (codes "       ") (column_ticks w ∷ []) [] refl),
      (
        _,
        rw (c.column_of-last.ensures.is, c.saturating_sub.ensures) at c.in_ok-put_labels.ensures,
        (_, c.in_ok-extend_from_slice.ensures.items, refl),
      ),
    )
    ∙ ap (λ t. text ++ t) (ap (λ t. t ++ codes "\n") (append_assoc ticks (blanks 7) labels)
    ∙ append_assoc ticks (blanks 7 ++ labels) (codes "\n"))
