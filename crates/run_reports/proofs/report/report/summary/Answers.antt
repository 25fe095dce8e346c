use Rattle.std.proofs.Common.{◌≡◌, subst, IfOk}
use Rattle.dover_model.specs.Common.{in_lines, summary}
use Rattle.run_reports.specs.report.Counts.{counts_lines}
use Rattle.run_reports.proofs.report.Counting.{summary_told}
use Rattle.run_reports.proofs.report.report.summary.Goals as goal

pub count-requires : goal.count-requires
count-requires c = (
  c.args.run.now,
  c.requires.0,
  c.requires.1,
  c.in_ok-charge.ensures.totals,
  c.in_ok-charge.ensures.value c.requires.0 c.requires.1,
)

pub returns : goal.returns
returns c J of =
    let value = c.in_ok-charge.ensures.value J of in
    let told : in_lines (counts_lines c.count.result) ≡ summary J = summary_told c.args.k c.args.run.now J of
    c.count.result c.in_ok-charge.charge.value (c.count.ensures c.args.run.now J of c.in_ok-charge.ensures.totals value)
    value in
    subst (λ t. IfOk c.counts_text.result (λ text. text.items ≡ t)) told c.counts_text.ensures
