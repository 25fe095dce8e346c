use Rattle.std.proofs.Common.{◌∙◌, arith, ap, take_all}
use Rattle.run_record.specs.intervals.Totals.{totals_of, with_step}
use Rattle.run_record.specs.declared.intervals.totals.JobTotals.{JobTotals}
use Rattle.run_record.proofs.intervals.Counted.{totals_fit, totals_on}
use Rattle.run_record.proofs.intervals.totals.JobTotals.of.Goals as goal

pub loop-event-init : goal.loop-event-init
loop-event-init c = record {
  is = c.new-totals.ensures;
  small = omega (arith, ap (λ (t : JobTotals). t.worth) c.new-totals.ensures);
}

pub add-requires : goal.add-requires
add-requires c = totals_fit c.args.run.now c.loop-event.event-index c.loop-event.totals c.loop-event.invariant
    c.loop-event-test.true (omega arith)

pub loop-event-preserved : goal.loop-event-preserved
loop-event-preserved c = totals_on c.args.run.now c.loop-event.event-index c.event-item.result c.loop-event.totals _
    c.event-item.is c.loop-event-test.true c.loop-event.invariant
    (c.add.ensures.is ∙ ap (with_step c.loop-event.totals) c.event.ensures) c.add.ensures.modest

pub returns : goal.returns
returns c = c.loop-event.invariant.is
    ∙ ap totals_of (take_all c.loop-event.event-index c.args.run.now (omega arith))
