use Rattle.std.proofs.Common.{ap, ◌∙◌}
use Rattle.run_reports.specs.report.Counts.{jobs_released, counts_of}
use Rattle.run_reports.proofs.report.counts.count.Goals as goal

pub count_by-requires : goal.count_by-requires
count_by-requires c = (
  c.requires.0,
  c.requires.1,
  c.requires.2,
  c.totals.ensures ∙ c.requires.3,
  c.value.ensures ∙ c.requires.4,
)

pub returns : goal.returns
returns c run J of are value = c.count_by.ensures run J of (c.totals.ensures ∙ are) (c.value.ensures ∙ value)
    ∙ ap (counts_of c.args.k run (jobs_released run)) c.value.ensures
