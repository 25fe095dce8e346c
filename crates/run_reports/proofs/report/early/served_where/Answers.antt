use Rattle.std.proofs.Common.{◌∙◌}
use Rattle.run_reports.proofs.report.Counting.{jobs_are}
use Rattle.run_reports.proofs.report.early.served_where.Goals as goal

pub served-requires : goal.served-requires
served-requires c = (
  c.requires.0,
  (
    c.requires.1.0,
    c.requires.1.1,
    c.deref.ensures.value ∙ c.in_ok-jobs.ensures ∙ jobs_are c.requires.0 c.args.run.now c.requires.1.0 c.requires.1.1,
  ),
)

pub returns : goal.returns
returns c k J of early = c.served.ensures k J of
    (c.deref.ensures.value ∙ c.in_ok-jobs.ensures ∙ jobs_are k c.args.run.now J of)
