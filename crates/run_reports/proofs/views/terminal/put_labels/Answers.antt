use Rattle.std.proofs.Common.{◌++◌, ap, ◌∙◌, arith, decimal}
use Rattle.run_reports.specs.views.Timeline.{padded}
use Rattle.run_reports.proofs.views.Drawing.{labels_more, labels_all}
use Rattle.std.proofs.lemmas.Result.{IfOk-equal}
use Rattle.run_reports.proofs.views.terminal.put_labels.Goals as goal

pub loop-index-preserved : goal.loop-index-preserved
loop-index-preserved c = labels_more c.args.window.now c.args.more c.loop-index.index c.loop-index.text.items _ _
    c.loop-index-test.true
    (c.in_ok-put_padded.ensures ∙ ap (λ n. c.loop-index.text.items ++ padded n) c.first_tick.ensures)
    c.loop-index.invariant

pub returns : goal.returns
returns c = IfOk-equal c.put_wide.result _ _ _ c.put_wide.ensures
    (ap (λ n. c.loop-index.text.items ++ decimal n) c.first_tick-2.ensures
    ∙ labels_all c.args.window.now c.args.more c.loop-index.index c.loop-index.text.items _
    (omega (arith, c.loop-index-test.false)) c.loop-index.invariant)
