use Rattle.std.proofs.Common.{◌≡◌, take}
use Rattle.line_text.proofs.fields.behind_word.Given as goal

-- the line begins as the word, so far
abbrev pub invariant-loop-at : goal.invariant-loop-at
invariant-loop-at l = take l.at l.line ≡ take l.at l.word
