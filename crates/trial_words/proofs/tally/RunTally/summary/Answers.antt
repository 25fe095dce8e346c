use Rattle.std.proofs.Common.{◌≡◌, subst, IfOk}
use Rattle.dover_model.specs.Common.{in_lines, printed, summary}
use Rattle.run_reports.specs.report.Counts.{counts_lines}
use Rattle.run_reports.proofs.report.Counting.{summary_told}
use Rattle.trial_words.proofs.tally.RunTally.summary.Goals as goal

pub count_by-requires : goal.count_by-requires
count_by-requires c =
    (printed c.requires.0, c.requires.0, c.requires.1, c.requires.2.totals, c.requires.2.value)

pub returns : goal.returns
returns c J of counted =
    let told : in_lines (counts_lines c.count_by.result) ≡ summary J = summary_told c.args.k (printed J) J of
    c.count_by.result c.args.self.now.value (c.count_by.ensures (printed J) J of counted.totals counted.value)
    counted.value in
    subst (λ t. IfOk c.counts_text.result (λ text. text.items ≡ t)) told c.counts_text.ensures
