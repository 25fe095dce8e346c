use Rattle.std.proofs.Common.{[], ◌∷◌, ◌++◌, refl, ap, ◌∙◌, codes, decimal}
use Rattle.run_reports.specs.views.Templates.{filled}
use Rattle.run_reports.proofs.views.Drawing.{summary_line}
use Rattle.run_reports.proofs.views.Joining.{joined}
use Rattle.run_reports.proofs.views.terminal.put_summary.Goals as goal

pub returns : goal.returns
returns c =
    let text = c.args.text.now.items in
    let n = c.args.counts in
    joined text
    (filled (codes "jobs @, completed @ @, abandoned @ @, taken @, bound ")
    (n.jobs ∷ n.completed ∷ n.value ∷ n.abandoned ∷ n.lost ∷ n.taken ∷ []) ∷ decimal n.bound ∷ codes "\n" ∷ []) _
    (_, c.in_ok-put.ensures, (_, c.in_ok-put_wide.ensures, (_, c.in_ok-extend_from_slice.ensures.items, refl)))
    ∙ ap (λ t. text ++ t) (summary_line n)
