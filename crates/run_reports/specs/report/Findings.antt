-- What is found of a run, as a text.
use Rattle.std.specs.Prelude.{ℕ, List, [], ◌∷◌, ◌++◌}
use Rattle.dover_model.specs.Lines.{in_lines}
use Rattle.run_reports.specs.report.Counts.{fates_lines, changes_line, bound_line}
use Rattle.run_reports.specs.report.Early.{lines_where}
use Rattle.run_reports.specs.report.Lines.{ratio_line, row_lines}
use Rattle.run_reports.specs.declared.report.report.Findings.{Findings}

-- the lines of the ratio, of the summary with the changes of hands and those that completed early, and of the intervals
abbrev pub told : Findings → List ℕ
told f =
    ((((in_lines (ratio_line f.k ∷ []) ++ in_lines (fates_lines f.counts)) ++ in_lines (changes_line f.counts ∷ []))
    ++ in_lines (lines_where f.early f.it))
    ++ in_lines (bound_line f.counts ∷ []))
    ++ in_lines (row_lines f.charge.rows)
