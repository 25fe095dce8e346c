use Rattle.std.proofs.Common.{arith, subst, take_all}
use Rattle.std.proofs.lemmas.Grind.{common_steps}
use Rattle.dover_model.specs.Common.{IsJob, Each}
use Rattle.dover_model.proofs.lists.Taking.{each_more}
use Rattle.dover_model.proofs.valid.JobLimits.{job_limits}
use Rattle.dover_model.proofs.jobs.total_value.Goals as goal

pub loop-job-preserved : goal.loop-job-preserved
loop-job-preserved c = record {
  value = let same = c.value-value.ensures.is in let is = c.job-item.is in grind (arith, common_steps);
  most = omega (
    arith,
    c.loop-job.invariant.most,
    c.value-value.ensures.is,
    (job_limits c.value-value.ensures.job).modest,
  );
  each = each_more IsJob c.args.jobs.now c.loop-job.job-index c.job-item.result c.loop-job-test.true c.job-item.is
      c.loop-job.invariant.each
      c.value-value.ensures.job;
}

pub returns-clause-jobs : goal.returns-clause-jobs
returns-clause-jobs c = subst (Each IsJob)
    (take_all c.loop-job.job-index c.args.jobs.now c.loop-job-test.false) c.loop-job.invariant.each
