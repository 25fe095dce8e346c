use Rattle.std.proofs.Common.{◌≡◌, ◌++◌, ◌-◌, ◌+◌}
use Rattle.run_reports.specs.views.Timeline.{signs, signs_from}
use Rattle.run_reports.proofs.views.signs.put_signs.Given as goal

-- the signs so far, and those to come
abbrev pub invariant-loop-column : goal.invariant-loop-column
invariant-loop-column l = l.text.items ++ signs_from l.window l.own l.drawn (l.last + 1 - l.column) l.column
    ≡ l.fn.text.items ++ signs l.window l.job l.own l.fn.ending
