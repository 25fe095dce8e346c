use Rattle.std.proofs.Common.{◌≡◌, ◌++◌, map, drop}
use Rattle.task_report.specs.Pictures.{labels_from}
use Rattle.task_report.proofs.drawing.labels.Given as goal

-- the labels so far, and those to come
abbrev pub invariant-loop-number : goal.invariant-loop-number
invariant-loop-number l = map (λ label. label.items) l.labels.items ++ labels_from l.number (drop l.number l.tasks)
    ≡ labels_from 0 l.tasks
