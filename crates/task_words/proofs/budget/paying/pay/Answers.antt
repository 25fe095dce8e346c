use Rattle.std.proofs.Common.{◌∙◌}
use Rattle.task_words.proofs.budget.Standing.{too_long, paid_more, fit_more}
use Rattle.task_words.proofs.budget.paying.pay.Goals as goal

pub returns-in-Err-clause-unpaid : goal.returns-in-Err-clause-unpaid
returns-in-Err-clause-unpaid c = (
  too_long c.args.ratio c.args.cost c.args.tasks.now c.loop-number.number c.loop-number-test.true
      c.loop-number.invariant.fit c.in-Err.gets c.in-Err.ensures.unpaid.0 c.in-Err.ensures.unpaid.1,
  c.in-Err.ensures.unpaid.0,
)

pub loop-number-preserved : goal.loop-number-preserved
loop-number-preserved c = record {
  paid = c.in-Ok-push.ensures.items ∙ paid_more c.args.ratio c.args.cost c.args.tasks.now c.loop-number.number
      c.loop-number-test.true c.loop-number.invariant.fit c.in-Ok.task c.in-Ok.ensures.paid.0
      c.loop-number.budgets.items c.loop-number.invariant.paid;
  fit = fit_more c.args.ratio c.args.cost c.args.tasks.now c.loop-number.number c.loop-number-test.true
      c.loop-number.invariant.fit c.in-Ok.task c.in-Ok.ensures.paid.0 c.in-Ok.ensures.paid.1;
}
