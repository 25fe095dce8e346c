use Rattle.std.proofs.Common.{◌≡◌, ◌++◌, ◌*◌, ◌-◌}
use Rattle.run_reports.specs.views.Timeline.{labels_from}
use Rattle.run_reports.proofs.views.terminal.put_labels.Given as goal

-- the labels so far, and those to come
abbrev pub invariant-loop-index : goal.invariant-loop-index
invariant-loop-index l = l.text.items ++ labels_from l.window (l.more - l.index) (20 * l.index)
    ≡ l.fn.text.items ++ labels_from l.window l.more 0
