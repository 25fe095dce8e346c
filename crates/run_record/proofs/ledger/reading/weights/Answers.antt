use Rattle.std.proofs.Common.{◌≤◌, ◌++◌, ◌∷◌, [], ap, ◌∙◌, arith, subst, sym}
use Rattle.std.specs.List.{AllByRecursion}
use Rattle.dover_model.specs.Limits.{most_total}
use Rattle.dover_model.specs.declared.events.Version.TheVariants.{Two}
use Rattle.dover_model.proofs.sessions.Growing.{all_behind}
use Rattle.run_record.proofs.ledger.Walking.{worth_before}
use Rattle.run_record.specs.ledger.Pages.{worth}
use Rattle.run_record.proofs.ledger.Walking.{all_told, few_steps, none_told, one_told, step_read}
use Rattle.run_record.proofs.ledger.reading.weights.Goals as goal

pub before_run-requires : goal.before_run-requires
before_run-requires c = omega (arith, few_steps c.args.k c.args.run.now c.requires.0 c.requires.1)

pub loop-event-init : goal.loop-event-init
loop-event-init c = record {
  weighs = λ J of. none_told c.args.k c.args.run.now J of worth_before _ _ c.in_ok-under_way.ensures
      c.new-worths.ensures.items;
  small = subst (AllByRecursion (λ worth. worth ≤ most_total Two)) (sym c.new-worths.ensures.items) tt;
}

pub read-requires : goal.read-requires
read-requires c = (step_read c.args.k c.args.run.now c.requires.0 c.requires.1 c.loop-event.under_way
    c.loop-event.event-index c.event-item.result c.event-item.is c.loop-event-test.true
    (c.loop-event.invariant.weighs c.requires.0 c.requires.1).0).of.readable

pub loop-event-preserved : goal.loop-event-preserved
loop-event-preserved c =
    let longer = c.in_ok-push.ensures.items ∙ ap (λ w. c.loop-event.worths.items ++ w ∷ []) c.worth.ensures in
    record {
      weighs = λ J of. one_told c.args.k c.args.run.now J of worth_before c.loop-event.under_way
          c.loop-event.event-index c.event-item.result c.event-item.is c.loop-event-test.true _
          (c.loop-event.invariant.weighs J of) (λ p e. worth p) (λ s of. of.weight) _ _ c.in_ok-read.ensures longer;
      small = subst (AllByRecursion (λ worth. worth ≤ most_total Two)) (sym longer)
          (all_behind (λ worth. worth ≤ most_total Two) c.loop-event.worths.items (worth c.loop-event.under_way)
          c.loop-event.invariant.small
          (step_read c.args.k c.args.run.now c.requires.0 c.requires.1 c.loop-event.under_way
          c.loop-event.event-index c.event-item.result c.event-item.is c.loop-event-test.true
          (c.loop-event.invariant.weighs c.requires.0 c.requires.1).0).of.small);
    }

pub returns-clause-are : goal.returns-clause-are
returns-clause-are c J of = all_told c.args.k c.args.run.now J of worth_before c.loop-event.under_way
    c.loop-event.worths.items c.loop-event.event-index (omega arith) (c.loop-event.invariant.weighs J of)
