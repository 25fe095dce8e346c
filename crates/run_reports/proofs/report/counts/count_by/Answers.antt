use Rattle.std.proofs.Common.{ap, ◌∙◌, arith}
use Rattle.run_reports.specs.report.Counts.{jobs_released}
use Rattle.run_record.specs.declared.intervals.totals.JobTotals.{JobTotals}
use Rattle.run_reports.proofs.report.Counting.{counts_are, releases_count, value_small}
use Rattle.run_reports.proofs.report.Sizing.{sizes_fit, worth_is}
use Rattle.run_reports.proofs.report.counts.count_by.Goals as goal

pub overflow_sub-result : goal.overflow_sub-result
overflow_sub-result c = let r = c.requires in
    omega (arith, worth_is r.1 r.2.valid r.0 r.2.prints c.args.totals r.3, r.4, c.from.ensures)

pub overflow_cast-result : goal.overflow_cast-result
overflow_cast-result c = let r = c.requires in
    omega (arith, (sizes_fit r.1 r.2.valid r.0 r.2.prints c.args.totals r.3 r.2.listable).1)

pub long_bound-requires : goal.long_bound-requires
long_bound-requires c = let r = c.requires in omega (arith, r.4, value_small c.args.k r.0 r.1 r.2)

pub returns : goal.returns
returns c run J of are value = counts_are c.args.k run c.args.totals (jobs_released run) c.args.totals.jobs
    c.args.value _ c.long_bound.result are (ap (λ (t : JobTotals). t.jobs) are ∙ releases_count run)
    (omega (arith, worth_is J of.valid run of.prints c.args.totals are, value, c.from.ensures))
    c.long_bound.ensures.is
