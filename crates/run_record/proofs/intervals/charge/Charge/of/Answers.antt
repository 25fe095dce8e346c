use Rattle.std.proofs.Common.{◌≡◌, arith, ap, ◌∙◌, take_all}
use Rattle.dover_model.specs.Common.{Instance, completed_value}
use Rattle.run_record.specs.intervals.Rows.{IsRunOf, rows_of}
use Rattle.run_record.specs.intervals.Totals.{totals_of, with_step}
use Rattle.run_record.specs.declared.intervals.totals.JobTotals.{JobTotals}
use Rattle.run_record.proofs.intervals.Counted.{totals_fit, totals_on}
use Rattle.run_record.proofs.intervals.Reading.{all_charged, none_charged, one_charged}
use Rattle.run_record.proofs.intervals.Charges.{rows_bound, rows_observed, rows_honest, rows_ordered, rows_displaced}
use Rattle.run_record.proofs.intervals.Charges.{rows_paid, rows_light, rows_completed, rows_abandoned}
use Rattle.run_record.proofs.ledger.Walking.{few_steps, step_read}
use Rattle.run_record.proofs.intervals.charge.Charge.of.Goals as goal

pub before_run-requires : goal.before_run-requires
before_run-requires c = omega (arith, few_steps c.args.k c.args.run.now c.requires.0 c.requires.1)

pub loop-event-init : goal.loop-event-init
loop-event-init c = record {
  charges = λ J of. none_charged c.args.k c.args.run.now J of _ _ c.in_ok-under_way.ensures c.new-book.ensures;
  counted = record {
    is = c.new-totals.ensures;
    small = omega (arith, ap (λ (t : JobTotals). t.worth) c.new-totals.ensures);
  };
}

pub add-requires : goal.add-requires
add-requires c = totals_fit c.args.run.now c.loop-event.event-index c.loop-event.totals
    c.loop-event.invariant.counted c.loop-event-test.true (omega arith)

pub read-requires : goal.read-requires
read-requires c = (step_read c.args.k c.args.run.now c.requires.0 c.requires.1 c.loop-event.under_way
    c.loop-event.event-index c.event-item.result c.event-item.is c.loop-event-test.true
    (c.loop-event.invariant.charges c.requires.0 c.requires.1).reads).of.readable

pub loop-event-preserved : goal.loop-event-preserved
loop-event-preserved c = record {
  charges = λ J of. one_charged c.args.k c.args.run.now J of c.loop-event.under_way c.loop-event.book
      c.loop-event.event-index c.event-item.result c.event-item.is c.loop-event-test.true
      (c.loop-event.invariant.charges J of) _ _ c.in_ok-read.ensures c.in_ok-note.ensures;
  counted = totals_on c.args.run.now c.loop-event.event-index c.event-item.result c.loop-event.totals _
      c.event-item.is c.loop-event-test.true c.loop-event.invariant.counted
      (c.add.ensures.is ∙ ap (with_step c.loop-event.totals) c.event.ensures) c.add.ensures.modest;
}

pub returns-clause-totals : goal.returns-clause-totals
returns-clause-totals c = c.loop-event.invariant.counted.is
    ∙ ap totals_of (take_all c.loop-event.event-index c.args.run.now (omega arith))

-- the rows and the value
done : (c : goal.After-drop-under_way-inside-4) (J : Instance) → IsRunOf c.args.k c.args.run.now J
    → (c.into_parts-rows.result.0.items ≡ rows_of J) × (c.into_parts-rows.result.1 ≡ completed_value J)
done c J of =
    let it = all_charged c.args.k c.args.run.now J of c.loop-event.under_way c.loop-event.book
    c.loop-event.event-index (omega arith) (c.loop-event.invariant.charges J of) in
    (c.into_parts-rows.ensures.rows ∙ it.0, c.into_parts-rows.ensures.value ∙ it.1)

pub returns-clause-rows : goal.returns-clause-rows
returns-clause-rows c J of = (done c J of).0

pub returns-clause-bound : goal.returns-clause-bound
returns-clause-bound c J of =
    rows_bound c.args.k c.args.run.now J of c.into_parts-rows.result.0.items c.into_parts-rows.result.1 (done c J of).0
    (done c J of).1

pub returns-clause-observed : goal.returns-clause-observed
returns-clause-observed c J of =
    rows_observed c.args.k c.args.run.now J of c.into_parts-rows.result.0.items c.into_parts-rows.result.1
    (done c J of).0 (done c J of).1

pub returns-clause-honest : goal.returns-clause-honest
returns-clause-honest c J of =
    rows_honest c.args.k c.args.run.now J of c.into_parts-rows.result.0.items c.into_parts-rows.result.1 (done c J of).0
    (done c J of).1

pub returns-clause-ordered : goal.returns-clause-ordered
returns-clause-ordered c =
    rows_ordered c.args.k c.args.run.now c.requires.0 c.requires.1 c.into_parts-rows.result.0.items
    c.into_parts-rows.result.1
    (done c c.requires.0 c.requires.1).0 (done c c.requires.0 c.requires.1).1

pub returns-clause-displaced : goal.returns-clause-displaced
returns-clause-displaced c =
    rows_displaced c.args.k c.args.run.now c.requires.0 c.requires.1 c.into_parts-rows.result.0.items
    c.into_parts-rows.result.1
    (done c c.requires.0 c.requires.1).0 (done c c.requires.0 c.requires.1).1

pub returns-clause-paid : goal.returns-clause-paid
returns-clause-paid c J of =
    rows_paid c.args.k c.args.run.now J of c.into_parts-rows.result.0.items c.into_parts-rows.result.1 (done c J of).0
    (done c J of).1

pub returns-clause-light : goal.returns-clause-light
returns-clause-light c J of = (
  (done c J of).0,
  rows_light c.args.k c.args.run.now J of c.into_parts-rows.result.0.items c.into_parts-rows.result.1
      (done c J of).0 (done c J of).1,
)

pub returns-clause-completed : goal.returns-clause-completed
returns-clause-completed c =
    rows_completed c.args.k c.args.run.now c.requires.0 c.requires.1 c.into_parts-rows.result.0.items
    c.into_parts-rows.result.1
    (done c c.requires.0 c.requires.1).0 (done c c.requires.0 c.requires.1).1

pub returns-clause-abandoned : goal.returns-clause-abandoned
returns-clause-abandoned c J of =
    rows_abandoned c.args.k c.args.run.now J of c.into_parts-rows.result.0.items c.into_parts-rows.result.1
    (done c J of).0 (done c J of).1

pub returns-clause-value : goal.returns-clause-value
returns-clause-value c J of = (done c J of).1
