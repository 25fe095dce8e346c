use Rattle.std.proofs.Common.{◌≡◌, ◌++◌, take, length, option_map}
use Rattle.dover_model.specs.Common.{fields_of, numerals}
use Rattle.line_text.specs.Reading.{fields_left}
use Rattle.line_text.proofs.fields.numbers_in.Given as goal

-- the numbers so far, and those of what is left
abbrev pub invariant-loop-at : goal.invariant-loop-at
invariant-loop-at g l = record {
  read : option_map (λ ns. take l.at l.numbers ++ ns) (numerals (fields_left l.left)) ≡ numerals (fields_of l.fn.line);
  places : length l.numbers ≡ g.row.N;
}
