use Rattle.std.proofs.Common.{◌≡◌, ◌<◌, ◌≤◌, ◌^◌, take, true}
use Rattle.std.specs.Str.{all_ascii_digits}
use Rattle.dover_model.specs.Numerals as model
use Rattle.line_text.proofs.numerals.leading_digits.Given as goal

-- the bytes so far are digits, not more than a numeral has, and write the number
abbrev pub invariant-loop-at : goal.invariant-loop-at
invariant-loop-at l = record {
  digits : all_ascii_digits (take l.at l.text) ≡ true;
  number : l.number ≡ model.number_onto 0 (take l.at l.text);
  small : l.number < 10 ^ l.at;
  few : l.at ≤ 18;
}
