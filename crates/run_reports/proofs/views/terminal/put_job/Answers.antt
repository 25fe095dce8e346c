use Rattle.std.proofs.Common.{[], ◌∷◌, ◌++◌, refl, decimal, ap, ◌∙◌, codes}
use Rattle.std.proofs.lemmas.Result.{IfOk-equal}
use Rattle.run_reports.specs.views.Templates.{filled}
use Rattle.run_reports.specs.views.Timeline.{placed, signs, loss_sign}
use Rattle.run_reports.proofs.views.Drawing.{value_line, ended}
use Rattle.run_reports.proofs.views.Joining.{joined}
use Rattle.run_reports.proofs.views.terminal.put_job.Goals as goal

pub returns : goal.returns
returns c =
    let text = c.args.text.now.items in
    let value = c.args.job.now.value in
    let marks = signs c.args.window.now c.args.job.now c.args.own.now c.args.ending in
    let lost = loss_sign c.args.ending in
    let front = placed c.args.number ++ codes " " ++ marks in
    IfOk-equal c.put.result _ _ _ (rw (c.value_line.ensures, c.value.ensures.is) at c.put.ensures)
    (joined text
    (placed c.args.number ∷ codes " " ∷ marks ∷ filled (codes " " ++ (lost ++ codes "@\n")) (value ∷ []) ∷ []) _ (
      _,
      c.in_ok-put_placed.ensures,
      (_, c.in_ok-extend_from_slice.ensures.items, (_, c.in_ok-put_signs.ensures, (_, refl, refl))),
    )
    ∙ ap (λ t. text ++ t) (ap (λ t. front ++ t) (value_line c.args.ending value)
    ∙ ended front (codes " ") lost (decimal value) (codes "\n")))
