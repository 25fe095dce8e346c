use Rattle.std.proofs.Common.{◌∙◌, ap, arith, get_or}
use Rattle.task_report.specs.Counting.{no_job, with_job}
use Rattle.task_report.proofs.Counted.{tally_all, tally_more}
use Rattle.task_report.proofs.counting.SortedRun.tally.Goals as goal

pub loop-number-preserved : goal.loop-number-preserved
loop-number-preserved c = record {
  is = λ tasks steps known. c.with_job-tally.ensures.is tasks steps known
      ∙ ap (λ t. with_job tasks steps c.args.task t
      (c.loop-number.number, get_or c.args.self.now.jobs.items c.loop-number.number no_job))
      (c.loop-number.invariant.is tasks steps known)
      ∙ tally_more tasks steps c.args.task c.args.self.now.jobs.items c.loop-number.number
      (omega (arith, c.loop-number-test.true, c.len-number-end.ensures));
  few = c.with_job-tally.ensures.few;
}

pub returns : goal.returns
returns c = λ tasks steps known. c.loop-number.invariant.is tasks steps known
    ∙ tally_all tasks steps c.args.task c.args.self.now.jobs.items c.loop-number.number
    (omega (arith, c.loop-number-test.false, c.len-number-end.ensures)) known.jobs_are
