use Rattle.std.proofs.Common.{◌≡◌, All, take, false, ◌==◌}
use Rattle.line_text.proofs.fields.cut_field.Given as goal

-- no space so far
abbrev pub invariant-loop-at : goal.invariant-loop-at
invariant-loop-at l = All (λ b. (b == 32) ≡ false) (take l.at l.line)
