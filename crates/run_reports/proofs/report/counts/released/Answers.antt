use Rattle.std.proofs.Common.{◌∙◌, ap, arith, take_all}
use Rattle.run_reports.proofs.report.Counting.{released_more}
use Rattle.run_reports.specs.report.Counts.{jobs_released}
use Rattle.run_reports.proofs.report.counts.released.Goals as goal

pub loop-event-preserved : goal.loop-event-preserved
loop-event-preserved c = c.in_ok-keep_released.ensures
    ∙ released_more c.args.run.now c.loop-event.event-index c.event-item.result
    c.loop-event.jobs.items c.event-item.is c.loop-event-test.true c.loop-event.invariant

pub returns : goal.returns
returns c = c.loop-event.invariant
    ∙ ap jobs_released (take_all c.loop-event.event-index c.args.run.now (omega (arith, c.loop-event-test.false)))
