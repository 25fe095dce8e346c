use Rattle.std.proofs.Common.{◌+◌, ◌++◌, ◌∷◌, [], take, get_or, ap, ◌∙◌, append_assoc}
use Rattle.dover_model.specs.Lines.{in_lines}
use Rattle.run_record.specs.declared.intervals.interval.Interval.{Interval}
use Rattle.run_reports.specs.report.Lines.{row_line, row_lines}
use Rattle.run_reports.proofs.report.Counting.{rows_more}
use Rattle.run_reports.proofs.report.report.put_rows.Goals as goal

-- no interval
abbrev none : Interval
none = record { from = 0; until = 0; regular = 0; taken = 0; displaced = 0; abandoned = 0 }

pub loop-index-preserved : goal.loop-index-preserved
loop-index-preserved c = c.in_ok-put_line.ensures
    ∙ ap (λ x. x ++ in_lines (row_line (c.loop-index.index + 1, get_or c.args.rows.now c.loop-index.index none) ∷ []))
    c.loop-index.invariant
    ∙ append_assoc c.args.text.now.items (in_lines (row_lines (take c.loop-index.index c.args.rows.now)))
    (in_lines (row_line (c.loop-index.index + 1, get_or c.args.rows.now c.loop-index.index none) ∷ []))
    ∙ ap (λ x. c.args.text.now.items ++ x) (rows_more c.args.rows.now c.loop-index.index none c.loop-index-test.true)
