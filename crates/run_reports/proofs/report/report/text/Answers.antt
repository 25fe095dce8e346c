use Rattle.std.proofs.Common.{◌≡◌, ◌++◌, ℕ, List, ap, ◌∙◌}
use Rattle.std.proofs.lemmas.Result.{IfOk-weaker}
use Rattle.dover_model.specs.Lines.{in_lines}
use Rattle.run_reports.specs.report.Findings.{told}
use Rattle.run_reports.specs.report.Kept.{IsReportText, kept_lines}
use Rattle.run_reports.proofs.report.report.text.Goals as goal

pub returns : goal.returns
returns c J of three =
    let lines = kept_lines c.in_ok-found.found.kept in
    let finish : (text : List ℕ) → text ≡ told c.in_ok-found.found ++ in_lines lines → IsReportText J text =
    λ text is. (
      lines,
      c.in_ok-found.ensures.kept J of,
      is ∙ ap (λ t. t ++ in_lines lines) (c.in_ok-found.ensures.report J of three),
    ) in
    IfOk-weaker c.text.result _ _ (λ written. finish written.items) c.text.ensures
