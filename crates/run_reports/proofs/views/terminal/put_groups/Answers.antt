use Rattle.std.proofs.Common.{ap, ◌∙◌}
use Rattle.run_reports.proofs.views.Drawing.{groups_more}
use Rattle.run_reports.proofs.views.terminal.put_groups.Goals as goal

pub loop-group-preserved : goal.loop-group-preserved
loop-group-preserved c = groups_more c.args.window.now c.args.run.now c.args.of.now c.args.jobs.now
    (λ label. label.items) c.args.labels.now c.loop-group.group c.index-labels-group.result c.deref.result.now
    c.loop-group.text.items c.put_label.new.text.items _ _ c.loop-group-test.true
    (c.deref.ensures.value ∙ ap (λ label. label.items) c.index-labels-group.is) c.in_ok-put_label.ensures
    c.in_ok-put_group.ensures c.loop-group.invariant
