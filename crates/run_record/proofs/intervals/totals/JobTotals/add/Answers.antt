use Rattle.std.proofs.Common.{arith}
use Rattle.dover_model.proofs.valid.JobLimits.{job_limits}
use Rattle.run_record.proofs.intervals.totals.JobTotals.add.Goals as goal

pub overflow_add-self-in-Release : goal.overflow_add-self-in-Release
overflow_add-self-in-Release c = omega (
  arith,
  c.requires.worth,
  c.from.ensures,
  c.value.ensures.is,
  (job_limits c.value.ensures.job).modest,
)

pub returns-in-Release-clause-modest : goal.returns-in-Release-clause-modest
returns-in-Release-clause-modest c =
    omega (arith, c.from.ensures, c.value.ensures.is, (job_limits c.value.ensures.job).modest)
