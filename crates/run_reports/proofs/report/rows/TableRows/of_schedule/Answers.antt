use Rattle.std.proofs.Common.{◌≡◌, length, ap, ◌∙◌, subst, arith, slice_index_or, count_by}
use Rattle.run_record.specs.intervals.Totals.{is_release}
use Rattle.run_reports.specs.report.Counts.{jobs_released}
use Rattle.run_reports.specs.report.Courses.{course_in, unseen}
use Rattle.run_reports.proofs.report.Counting.{releases_count}
use Rattle.run_reports.proofs.report.Tables.{whole_schedule}
use Rattle.run_reports.proofs.report.rows.TableRows.of_schedule.Goals as goal

pub returns : goal.returns
returns c =
    let run = c.args.run.items in
    let counted : c.releases.result ≡ length (jobs_released run) =
    c.releases.ensures ∙ ap (count_by is_release) c.deref-2.ensures.value ∙ releases_count run in
    whole_schedule run c.in_ok-courses.courses.items
    (λ n low. subst (λ es. slice_index_or c.in_ok-courses.courses.items n unseen ≡ course_in es n)
    c.deref.ensures.value (c.in_ok-courses.ensures.each n (omega (arith, counted, low))))
