use Rattle.std.proofs.Common.{◌≡◌, ◌++◌, drop}
use Rattle.run_reports.specs.views.Timeline.{lines_of}
use Rattle.run_reports.proofs.views.terminal.put_group.Given as goal

-- the lines so far, and those to come
abbrev pub invariant-loop-number : goal.invariant-loop-number
invariant-loop-number l = l.text.items ++ lines_of l.window l.run l.of l.group l.number (drop l.number l.jobs)
    ≡ l.fn.text.items ++ lines_of l.window l.run l.of l.group 0 l.jobs
