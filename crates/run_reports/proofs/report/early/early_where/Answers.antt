use Rattle.std.proofs.Common.{ap, ◌∙◌}
use Rattle.run_reports.specs.report.Counts.{jobs_released}
use Rattle.run_reports.specs.report.Early.{early_of}
use Rattle.run_reports.proofs.report.Counting.{jobs_are, few_steps}
use Rattle.run_reports.proofs.report.early.early_where.Goals as goal

pub served-requires : goal.served-requires
served-requires c = (
  c.requires.0,
  (
    c.requires.1.0,
    c.requires.1.1,
    c.deref.ensures.value ∙ c.in_ok-jobs.ensures ∙ jobs_are c.requires.0 c.args.run.now c.requires.1.0 c.requires.1.1,
  ),
)

pub of-requires : goal.of-requires
of-requires c = few_steps c.requires.0 c.args.run.now c.requires.1.0 c.requires.1.1

pub returns : goal.returns
returns c k J of early = c.of.ensures
    ∙ ap (λ js. early_of js c.deref-3.result.now c.args.run.now) (c.deref-2.ensures.value ∙ c.in_ok-jobs.ensures)
    ∙ ap (λ hs. early_of (jobs_released c.args.run.now) hs c.args.run.now)
    (c.deref-3.ensures.value ∙ c.in_ok-served.ensures k J of
    (c.deref.ensures.value ∙ c.in_ok-jobs.ensures ∙ jobs_are k c.args.run.now J of))
