use Rattle.std.proofs.Common.{◌∙◌, arith, ap}
use Rattle.run_reports.specs.report.Early.{left_at, with_left}
use Rattle.run_reports.specs.declared.report.early.Early.{Early}
use Rattle.run_reports.proofs.report.Counting.{early_more, early_fits}
use Rattle.run_reports.proofs.report.early.Early.of.Goals as goal

pub add-requires-clause-room : goal.add-requires-clause-room
add-requires-clause-room c = early_fits c.args.jobs.now c.args.served.now c.args.run.now c.loop-event.event-index
    c.loop-event.early c.loop-event.invariant.is c.loop-event.invariant.small c.loop-event-test.true c.requires

pub loop-event-preserved : goal.loop-event-preserved
loop-event-preserved c = record {
  is = c.add.ensures ∙ ap (with_left c.loop-event.early) c.left_at.ensures.is
      ∙ ap (λ f. with_left f (left_at c.args.jobs.now c.args.served.now c.event-item.result)) c.loop-event.invariant.is
      ∙ early_more c.args.jobs.now c.args.served.now c.args.run.now c.loop-event.event-index c.event-item.result
      c.event-item.is c.loop-event-test.true;
  small = omega (
    arith,
    ap (λ (f : Early). f.left) c.add.ensures,
    c.left_at.ensures.modest,
    c.loop-event.invariant.small,
  );
}
