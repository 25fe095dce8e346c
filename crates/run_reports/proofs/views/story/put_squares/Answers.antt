use Rattle.std.proofs.Common.{[], ◌∷◌, ◌-◌, refl, arith}
use Rattle.std.proofs.lemmas.Result.{IfOk-equal}
use Rattle.run_reports.specs.views.Why.{square}
use Rattle.run_reports.proofs.views.Joining.{joined}
use Rattle.dover_model.proofs.valid.JobLimits.{ratio_limits}
use Rattle.run_reports.proofs.views.story.put_squares.Goals as goal

pub returns : goal.returns
returns c = IfOk-equal c.put_square-2.result _ _ _ (rw c.p.ensures.is at c.put_square-2.ensures)
    (joined c.args.text.now.items
    (square c.args.asked.now.k.q (c.args.asked.now.value - c.args.worth) ∷ c.args.answer.now
    ∷ square c.args.asked.now.k.p c.args.worth ∷ []) _ (
      _,
      rw (c.q.ensures.is, c.saturating_sub.ensures) at c.in_ok-put_square.ensures,
      (_, c.in_ok-extend_from_slice.ensures.items, (_, refl, refl)),
    ))

pub put_square-requires-clause-part : goal.put_square-requires-clause-part
put_square-requires-clause-part c = omega (arith, c.q.ensures.is, (ratio_limits c.q.ensures.ratio).small_q)

pub put_square-requires-clause-value : goal.put_square-requires-clause-value
put_square-requires-clause-value c = omega (arith, c.saturating_sub.ensures, c.requires.value)

pub put_square-requires-2-clause-part : goal.put_square-requires-2-clause-part
put_square-requires-2-clause-part c = omega (arith, c.p.ensures.is, (ratio_limits c.p.ensures.ratio).small_p)

pub put_square-requires-2-clause-value : goal.put_square-requires-2-clause-value
put_square-requires-2-clause-value c = c.requires.worth
