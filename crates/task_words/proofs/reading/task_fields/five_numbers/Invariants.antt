use Rattle.std.proofs.Common.{◌≡◌, ◌++◌, ◌-◌, take, drop, length, option_map}
use Rattle.dover_model.specs.Common.{numerals}
use Rattle.line_text.specs.Reading.{fields_left}
use Rattle.task_words.proofs.reading.task_fields.five_numbers.Given as goal

-- the numbers so far, and those of the fields that are left of the first five
abbrev pub invariant-loop-at : goal.invariant-loop-at
invariant-loop-at l = record {
  places : length l.numbers ≡ 5;
  read : option_map (λ ns. take l.at l.numbers ++ ns) (numerals (take (5 - l.at) (fields_left l.left)))
      ≡ numerals (take 5 (fields_left l.fn.fields));
  left : drop (5 - l.at) (fields_left l.left) ≡ drop 5 (fields_left l.fn.fields);
}
