use Rattle.std.proofs.Common.{◌≡◌, ◌++◌, ◌+◌, length, option_map}
use Rattle.std.specs.Option.{option_map_or}
use Rattle.dover_model.specs.Numerals.{numerals}
use Rattle.line_text.specs.Reading.{fields_left}
use Rattle.line_text.proofs.fields.read_numbers.Given as goal

-- the numbers so far, and those of what is left
abbrev pub invariant-loop-left : goal.invariant-loop-left
invariant-loop-left l = option_map (λ ns. l.numbers ++ ns) (numerals (fields_left l.left)) ≡ numerals
    (fields_left l.fn.fields)

-- the bytes that are left
abbrev pub decreases-loop-left : goal.decreases-loop-left
decreases-loop-left l = option_map_or (λ rest. length rest.now + 1) l.left 0
