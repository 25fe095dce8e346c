use Rattle.std.proofs.Common.{◌++◌, ◌∷◌, [], ap, ◌∙◌, refl, subst, sym}
use Rattle.dover_model.specs.Common.{Fraction, in_lines, served, may_finish_early}
use Rattle.run_reports.specs.report.Counts.{counts_of, fates_lines, changes_line, bound_line}
use Rattle.run_reports.specs.report.Counts.{jobs_released}
use Rattle.run_reports.specs.report.Early.{early_of, lines_where}
use Rattle.run_reports.specs.report.Kept.{AreKeptBy, kept_lines}
use Rattle.run_reports.specs.report.Lines.{ratio_line, row_lines}
use Rattle.run_reports.proofs.report.Counting.{same_where, report_is}
use Rattle.run_reports.proofs.report.report.Findings.of.Goals as goal

pub count-counts-requires : goal.count-counts-requires
count-counts-requires c = (
  c.args.run.now,
  c.requires.0,
  c.requires.1,
  c.in_ok-charge.ensures.totals,
  c.in_ok-charge.ensures.value c.requires.0 c.requires.1,
)

pub kept_of-kept-requires : goal.kept_of-kept-requires
kept_of-kept-requires c = (
  c.requires.0,
  c.requires.1,
  c.value.ensures ∙ c.in_ok-charge.ensures.value c.requires.0 c.requires.1,
)

pub returns-clause-kept : goal.returns-clause-kept
returns-clause-kept c J of = subst (λ (k : Fraction). AreKeptBy k.factor J (kept_lines c.kept_of-kept.result))
    (sym of.ratio)
    (c.kept_of-kept.ensures J of (c.value.ensures ∙ c.in_ok-charge.ensures.value J of))

pub returns-clause-report : goal.returns-clause-report
returns-clause-report c J of three =
    let run = c.args.run.now in
    let jobs = jobs_released run in
    let counts = counts_of c.args.k run jobs c.in_ok-charge.charge.value in
    let early = c.may_finish_early-early.result in
    let rows = in_lines (row_lines c.in_ok-charge.charge.rows) in
    let head = in_lines (ratio_line c.args.k ∷ []) in
    ap (λ n. ((((head ++ in_lines (fates_lines n)) ++ in_lines (changes_line n ∷ []))
    ++ in_lines (lines_where early c.in_ok-it.it))
    ++ in_lines (bound_line n ∷ [])) ++ rows) (c.count-counts.ensures run J of c.in_ok-charge.ensures.totals
    (c.in_ok-charge.ensures.value J of))
    ∙ ap (λ ls. ((((head ++ in_lines (fates_lines counts)) ++ in_lines (changes_line counts ∷ [])) ++ in_lines ls)
    ++ in_lines (bound_line counts ∷ [])) ++ rows)
    (same_where early c.in_ok-it.it (early_of jobs (served J) run) (c.in_ok-it.ensures c.args.k J of))
    ∙ report_is c.args.k run J of early jobs (served J) c.in_ok-charge.charge.value c.in_ok-charge.charge.rows
    (c.may_finish_early-early.ensures ∙ ap may_finish_early (sym three)) (λ e. refl) refl
    (c.in_ok-charge.ensures.value J of) (c.in_ok-charge.ensures.rows J of)
