use Rattle.std.proofs.Common.{◌++◌, ap, ◌∙◌, arith}
use Rattle.task_report.specs.Pictures.{labels_from, other_label}
use Rattle.task_report.proofs.Labels.{labels_all, labels_more}
use Rattle.task_report.proofs.drawing.labels.Goals as goal

pub loop-number-preserved : goal.loop-number-preserved
loop-number-preserved c = labels_more (λ label. label.items) c.args.tasks.now c.loop-number.number _
    c.loop-number.labels.items c.push.new.self.items c.in_ok-label.label _ c.loop-number-test.true
    c.in_ok-label.ensures c.in_ok-push.ensures.items c.loop-number.invariant

pub returns : goal.returns
returns c = c.in_ok-put_other.ensures
    ∙ ap (λ ls. ls ++ other_label c.contains-some.result) (labels_all c.args.tasks.now c.loop-number.number _ _
    (omega (arith, c.loop-number-test.false)) c.loop-number.invariant)
    ∙ ap (λ b. labels_from 0 c.args.tasks.now ++ other_label b) c.contains-some.ensures.value
