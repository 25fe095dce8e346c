use Rattle.std.proofs.Common.{◌++◌, ◌∷◌, [], ap, ◌∙◌}
use Rattle.std.proofs.lemmas.Result.{IfOk-equal}
use Rattle.dover_model.specs.Lines.{in_lines}
use Rattle.run_reports.specs.report.Counts.{fates_lines, bound_line}
use Rattle.run_reports.proofs.report.Texts.{behind_lines}
use Rattle.run_reports.proofs.report.report.put_counts.Goals as goal

pub returns : goal.returns
returns c = IfOk-equal c.put_wide_line.result _ _ _ c.put_wide_line.ensures
    (ap (λ t. t ++ in_lines (bound_line c.args.counts ∷ [])) c.in_ok-put_fates.ensures
    ∙ behind_lines c.args.text.now.items (fates_lines c.args.counts) (bound_line c.args.counts ∷ []))
