use Rattle.std.proofs.Common.{◌∙◌, ◌+◌, ap, arith, sum_by, take}
use Rattle.run_record.proofs.intervals.Counted.{sum_more}
use Rattle.run_reports.specs.report.Counts.{value_lost, all_lost}
use Rattle.run_reports.specs.report.Fates.{value_done}
use Rattle.run_reports.proofs.report.fates.fates_of.Goals as goal

pub loop-event-preserved : goal.loop-event-preserved
loop-event-preserved c =
    let jobs = c.args.jobs.now in
    let run = c.args.run.now in
    let i = c.loop-event.event-index in
    let e = c.event-item.result in
    record {
      value = ap (λ n. n + c.done_at-value.result) c.loop-event.invariant.value
          ∙ ap (λ n. sum_by (value_done jobs) (take i run) + n) c.done_at-value.ensures.is
          ∙ sum_more (value_done jobs) run i e c.event-item.is c.loop-event-test.true;
      lost = ap (λ n. n + c.lost_at-lost.result) c.loop-event.invariant.lost
          ∙ ap (λ n. all_lost jobs (take i run) + n) c.lost_at-lost.ensures.is
          ∙ sum_more (value_lost jobs) run i e c.event-item.is c.loop-event-test.true;
      small_value = omega (arith, c.done_at-value.ensures.modest, c.loop-event.invariant.small_value);
      small_lost = omega (arith, c.lost_at-lost.ensures.modest, c.loop-event.invariant.small_lost);
    }
