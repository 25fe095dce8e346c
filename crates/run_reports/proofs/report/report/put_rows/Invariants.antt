use Rattle.std.proofs.Common.{◌≡◌, ◌++◌, take}
use Rattle.dover_model.specs.Lines.{in_lines}
use Rattle.run_reports.specs.report.Lines.{row_lines}
use Rattle.run_reports.proofs.report.report.put_rows.Given as goal

-- the lines of the intervals so far
abbrev pub invariant-loop-index : goal.invariant-loop-index
invariant-loop-index l = l.text.items ≡ l.fn.text.items ++ in_lines (row_lines (take l.index l.rows))
