use Rattle.std.proofs.Common.{◌≡◌, ◌++◌, replicate}
use Rattle.run_reports.proofs.views.signs.put_blanks.Given as goal

-- the spaces so far
abbrev pub invariant-loop : goal.invariant-loop
invariant-loop l = l.text.items ≡ l.fn.text.items ++ replicate l.counter 32
