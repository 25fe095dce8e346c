use Rattle.std.proofs.Common.{◌≡◌, ◌≤◌, ◌++◌, drop}
use Rattle.run_reports.specs.views.Templates.{filled}
use Rattle.run_reports.proofs.views.template.put.Given as goal

-- the text so far, and what is to come
abbrev pub invariant-loop-byte : goal.invariant-loop-byte
invariant-loop-byte l = record {
  is : l.text.items ++ filled (drop l.byte-index l.template) (drop l.next l.numbers)
      ≡ l.fn.text.items ++ filled l.template l.numbers;
  few : l.next ≤ l.byte-index;
}
