use Rattle.std.proofs.Common.{◌+◌, ◌++◌, ◌∷◌, [], ap, ◌∙◌, ℕ, ◌-◌, append_assoc, min}
use Rattle.run_reports.specs.views.Timeline.{sign, first_tick, blanks, column_of, signs_from}
use Rattle.run_reports.proofs.views.Drawing.{signs_more}
use Rattle.run_reports.specs.views.Templates.{Text}
use Rattle.run_reports.proofs.views.signs.put_signs.Goals as goal

pub loop-column-preserved : goal.loop-column-preserved
loop-column-preserved c = signs_more c.args.window.now c.args.own.now c.drawn_ending-drawn.result
    (c.column_of-last.result + 1) c.loop-column.column c.loop-column.text.items _ _ c.loop-column-test.true
    (c.in_ok-push.ensures.items ∙ ap (λ s. c.loop-column.text.items ++ s ∷ []) (c.sign.ensures
    ∙ ap (λ a. sign a c.end_tick-until.result c.args.own.now c.drawn_ending-drawn.result) c.first_tick-from.ensures
    ∙ ap (λ b. sign (first_tick c.args.window.now c.loop-column.column) b c.args.own.now c.drawn_ending-drawn.result)
    c.end_tick-until.ensures))
    c.loop-column.invariant

pub loop-column-init : goal.loop-column-init
loop-column-init c =
    let w = c.args.window.now in
    let first = c.column_of-first.result in
    let last = c.column_of-last.result in
    let text = c.args.text.now.items in
    let rest : ℕ → ℕ → Text = λ from to. signs_from w c.args.own.now c.drawn_ending-drawn.result (to + 1 - from) from in
    ap (λ t. t ++ rest first last) c.in_ok-put_blanks.ensures ∙ append_assoc text (blanks first) (rest first last)
    ∙ ap (λ n. text ++ (blanks n ++ rest n last)) (c.column_of-first.ensures.is ∙ ap (column_of w) c.release.ensures.is)
    ∙ ap (λ m. text ++ (blanks (column_of w c.args.job.now.release) ++ rest (column_of w c.args.job.now.release) m))
    (c.column_of-last.ensures.is ∙ ap (column_of w) (c.saturating_sub.ensures
    ∙ ap (λ n. n - 1) (c.min.ensures ∙ ap (λ d. min d w.until) c.deadline.ensures.is)))
    ∙ ap (λ e. text ++ (blanks (column_of w c.args.job.now.release) ++ signs_from w c.args.own.now e
    (column_of w (min c.args.job.now.deadline w.until - 1) + 1 - column_of w c.args.job.now.release)
    (column_of w c.args.job.now.release))) c.drawn_ending-drawn.ensures
