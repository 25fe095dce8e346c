use Rattle.std.proofs.Common.{◌≡◌, length, ap, ◌∙◌, sym, subst, arith, slice_index_or, count_by}
use Rattle.dover_model.specs.Session.{may_finish_early}
use Rattle.run_record.specs.intervals.Rows.{IsRunOf}
use Rattle.run_record.specs.intervals.Totals.{is_release}
use Rattle.run_reports.specs.report.Counts.{jobs_released}
use Rattle.run_reports.specs.report.Courses.{course_in, unseen}
use Rattle.run_reports.proofs.report.Counting.{releases_count, few_steps}
use Rattle.run_reports.proofs.report.Tables.{whole_table}
use Rattle.run_reports.proofs.report.rows.TableRows.of.Goals as goal

pub invariant_of-result : goal.invariant_of-result
invariant_of-result c = (
  omega arith,
  omega arith,
  few_steps c.requires.0 c.args.run.items c.requires.1.0 c.requires.1.1,
)

pub returns : goal.returns
returns c k J of three =
    let counted : c.releases.result ≡ length (jobs_released c.args.run.items) =
    c.releases.ensures ∙ ap (count_by is_release) c.deref-3.ensures.value ∙ releases_count c.args.run.items in
    whole_table c.args.run.items c.in_ok-courses.courses.items
    (λ n low. subst (λ es. slice_index_or c.in_ok-courses.courses.items n unseen ≡ course_in es n)
    c.deref-2.ensures.value (c.in_ok-courses.ensures.each n (omega (arith, counted, low))))
    k J of c.may_finish_early-early.result c.in_ok-served.served.items
    (c.may_finish_early-early.ensures ∙ ap may_finish_early (sym three))
    (c.in_ok-served.ensures k J (subst (λ es. IsRunOf k es J) (sym c.deref.ensures.value) of))
