use Rattle.std.proofs.Common.{◌≡◌, ◌≤◌, ◌+◌, ◌++◌, drop, length}
use Rattle.line_text.specs.Writing.{numbers_behind}
use Rattle.line_text.proofs.back_line.put_before.Given as goal

-- the numbers from `left` on are written
abbrev pub invariant-loop-left : goal.invariant-loop-left
invariant-loop-left l = record {
  size : length l.bytes ≡ length l.fn.bytes;
  few : l.left ≤ length l.numbers;
  start : l.start + length (numbers_behind (drop l.left l.numbers)) ≡ l.end;
  written : drop l.start l.bytes ≡ numbers_behind (drop l.left l.numbers) ++ drop l.end l.fn.bytes;
}

abbrev pub decreases-loop-left : goal.decreases-loop-left
decreases-loop-left l = l.left
