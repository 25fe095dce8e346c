use Rattle.std.proofs.Common.{◌++◌, ◌∷◌, [], ap, ◌∙◌}
use Rattle.dover_model.specs.Lines.{in_lines}
use Rattle.run_reports.specs.report.Counts.{fates_lines, changes_line, bound_line}
use Rattle.run_reports.specs.report.Early.{lines_where}
use Rattle.run_reports.specs.report.Kept.{kept_lines}
use Rattle.run_reports.specs.report.Lines.{ratio_line, row_lines}
use Rattle.run_reports.proofs.report.report.Findings.text.Goals as goal

pub returns : goal.returns
returns c =
    let found = c.args.self.now in
    c.in_ok-put_kept.ensures
    ∙ ap (λ x. x ++ in_lines (kept_lines found.kept)) (c.in_ok-put_rows.ensures
    ∙ ap (λ x. x ++ in_lines (row_lines c.rows.result.now)) (c.in_ok-put_wide_line.ensures
    ∙ ap (λ x. x ++ in_lines (bound_line found.counts ∷ [])) (c.in_ok-put_early.ensures
    ∙ ap (λ x. x ++ in_lines (lines_where found.early found.it)) (c.in_ok-put_changes.ensures
    ∙ ap (λ x. x ++ in_lines (changes_line found.counts ∷ [])) (c.in_ok-put_fates.ensures
    ∙ ap (λ x. x ++ in_lines (fates_lines found.counts)) (c.in_ok-put_ratio.ensures
    ∙ ap (λ x. x ++ in_lines (ratio_line found.k ∷ [])) c.new-text.ensures.items)))))
    ∙ ap (λ rs. ((((in_lines (ratio_line found.k ∷ []) ++ in_lines (fates_lines found.counts))
    ++ in_lines (changes_line found.counts ∷ []))
    ++ in_lines (lines_where found.early found.it)) ++ in_lines (bound_line found.counts ∷ []))
    ++ in_lines (row_lines rs)) c.rows.ensures)
