use Rattle.std.proofs.Common.{◌≡◌, ◌++◌, drop, map}
use Rattle.run_reports.specs.views.Timeline.{group_lines}
use Rattle.run_reports.proofs.views.terminal.put_groups.Given as goal

-- the groups so far, and those to come
abbrev pub invariant-loop-group : goal.invariant-loop-group
invariant-loop-group l = l.text.items
    ++ group_lines l.window l.run l.of l.jobs l.group (drop l.group (map (λ label. label.items) l.labels))
    ≡ l.fn.text.items ++ group_lines l.window l.run l.of l.jobs 0 (map (λ label. label.items) l.labels)
