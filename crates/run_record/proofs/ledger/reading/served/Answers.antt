use Rattle.std.proofs.Common.{◌∙◌, arith}
use Rattle.std.proofs.lemmas.Result.{IfOk-weaker}
use Rattle.run_record.proofs.ledger.Walking.{begun, few_steps, had_at_end, step_behind, step_read}
use Rattle.run_record.proofs.ledger.reading.served.Goals as goal

pub before_run-requires : goal.before_run-requires
before_run-requires c = omega (arith, few_steps c.requires.0 c.args.run.now c.requires.1.0 c.requires.1.1)

pub loop-event-init : goal.loop-event-init
loop-event-init c k J of = begun k c.args.run.now J of _ c.in_ok-under_way.ensures

pub read-requires : goal.read-requires
read-requires c = (step_read c.requires.0 c.args.run.now c.requires.1.0 c.requires.1.1 c.loop-event.under_way
    c.loop-event.event-index c.event-item.result c.event-item.is c.loop-event-test.true
    (c.loop-event.invariant c.requires.0 c.requires.1.0 c.requires.1.1)).of.readable

pub loop-event-preserved : goal.loop-event-preserved
loop-event-preserved c k J of = step_behind k c.args.run.now J of c.loop-event.under_way
    c.loop-event.event-index c.event-item.result c.event-item.is c.loop-event-test.true
    (c.loop-event.invariant k J of) _ c.in_ok-read.ensures

pub returns : goal.returns
returns c k J of same =
    IfOk-weaker c.had_by.result _ _
    (λ served is. is ∙ had_at_end k c.args.run.now J of c.loop-event.under_way c.args.jobs.now c.loop-event.event-index
    (omega arith) same (c.loop-event.invariant k J of))
    c.had_by.ensures
