use Rattle.std.proofs.Common.{◌≡◌, ◌∙◌, ap, sym, arith, sum_by, take_all}
use Rattle.std.proofs.lemmas.List.Sums.{sum_by_more}
use Rattle.dover_model.proofs.valid.JobLimits.{job_limits}
use Rattle.clairvoyant.proofs.feasible.LastStart.{asked_most, asked_due, asked_none, due_all, due_none, asked}
use Rattle.clairvoyant.proofs.feasible.window.work_inside.Goals.{then-a-release+then-deadline-b, else-a-release}
use Rattle.clairvoyant.proofs.feasible.window.work_inside.Goals.{else-a-release-via-then-a-release+else-deadline-b}
use Rattle.clairvoyant.proofs.feasible.window.work_inside.Goals.{else-a-release-via-else-a-release}
use Rattle.clairvoyant.proofs.feasible.Overfull.{work_is}
use Rattle.clairvoyant.proofs.feasible.window.work_inside.Goals as goal

pub returns : goal.returns
returns c = c.loop-job.invariant.sum
    ∙ ap (sum_by (asked c.args.a c.args.b))
    (take_all c.loop-job.job-index c.args.jobs.now (omega (arith, c.loop-job-test.false)))
    ∙ sym (work_is c.args.jobs.now c.args.a c.args.b)

pub loop-job-preserved : goal.loop-job-preserved
loop-job-preserved c =
    let sum = sum_by_more (asked c.args.a c.args.b) c.args.jobs.now c.loop-job.job-index c.job-item.result
    c.loop-job-test.true in
    let here = ap (asked c.args.a c.args.b) c.job-item.is in
    elim c.if-a-release.branch [
      | then-a-release+then-deadline-b w ↦ record {
        sum = omega (
          arith,
          sum,
          here,
          w.work-is,
          w.work-work.ensures.is,
          c.loop-job.invariant.sum,
          asked_due c.args.a c.args.b c.job-item.result (omega (arith, w.if-a-release.true, c.release.ensures.is)),
          due_all c.args.b c.job-item.result (omega (arith, w.if-deadline-b.true, w.deadline.ensures.is)),
        );
        small = omega (
          arith,
          w.work-is,
          w.work-work.ensures.is,
          c.loop-job.invariant.small,
          (job_limits w.work-work.ensures.job).small,
        );
      }
      | else-a-release w ↦
          let none : asked c.args.a c.args.b c.job-item.result ≡ 0 = elim w.else-a-release.branch [
            | else-a-release-via-then-a-release+else-deadline-b v ↦ omega (
              arith,
              asked_most c.args.a c.args.b c.job-item.result,
              due_none c.args.b c.job-item.result (omega (arith, v.if-deadline-b.false, v.deadline.ensures.is)),
            )
            | else-a-release-via-else-a-release v ↦
                asked_none c.args.a c.args.b c.job-item.result
                (omega (arith, v.if-a-release.false, c.release.ensures.is))
          ] in
          record {
            sum = omega (arith, sum, here, w.work-is, c.loop-job.invariant.sum, none);
            small = omega (arith, w.work-is, c.loop-job.invariant.small);
          }
    ]

pub overflow_add-work : goal.overflow_add-work
overflow_add-work c = omega (
  arith,
  c.loop-job.invariant.small,
  c.loop-job-test.true,
  c.requires.count,
  c.work-work.ensures.is,
  (job_limits c.work-work.ensures.job).small,
)
