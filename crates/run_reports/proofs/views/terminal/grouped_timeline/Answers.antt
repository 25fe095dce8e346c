use Rattle.std.proofs.Common.{◌++◌, ap, ◌∙◌, refl, map}
use Rattle.run_reports.specs.report.Counts.{counts_lines, jobs_released}
use Rattle.run_reports.proofs.report.Counting.{summary_is}
use Rattle.run_reports.specs.views.Timeline.{all_lines, window_or}
use Rattle.run_reports.proofs.views.Drawing.{drawn}
use Rattle.std.proofs.lemmas.Result.{IfOk-from_err}
use Rattle.run_reports.proofs.views.terminal.grouped_timeline.Goals as goal

pub count-requires : goal.count-requires
count-requires c = (
  c.args.run.now,
  c.requires.0,
  c.requires.1,
  c.in_ok-charge.ensures.totals,
  c.in_ok-charge.ensures.value c.requires.0 c.requires.1,
)

pub returns : goal.returns
returns c J of = drawn c.args.k c.args.run.now J of c.args.window c.args.of.now
    (map (λ label. label.items) c.args.labels.now) c.window_or-window.result c.in_ok-jobs.jobs.items
    (counts_lines c.count.result) _ _ _ _ c.in_ok-jobs.ensures
    (c.window_or-window.ensures ∙ ap (window_or c.args.window) c.deref.ensures.value)
    (ap counts_lines (c.count.ensures c.args.run.now J of c.in_ok-charge.ensures.totals
    (c.in_ok-charge.ensures.value J of))
    ∙ summary_is c.args.k c.args.run.now J of (jobs_released c.args.run.now) c.in_ok-charge.charge.value refl
    (c.in_ok-charge.ensures.value J of))
    c.new-text.ensures.items c.in_ok-put_summary.ensures c.in_ok-put_frame.ensures
    (c.in_ok-put_lines.ensures
    ∙ ap (λ js. c.put_frame.new.text.items ++ all_lines c.window_or-window.result c.args.run.now c.args.of.now
    (map (λ label. label.items) c.args.labels.now) js) c.deref-2.ensures.value)

pub returns-in_err-put_lines : goal.returns-in_err-put_lines
returns-in_err-put_lines c _ _ =
    IfOk-from_err c.from_residual-in_err-put_lines.result _ c.from_residual-in_err-put_lines.ensures.0

pub returns-in_err-put_frame : goal.returns-in_err-put_frame
returns-in_err-put_frame c _ _ =
    IfOk-from_err c.from_residual-in_err-put_frame.result _ c.from_residual-in_err-put_frame.ensures.0
