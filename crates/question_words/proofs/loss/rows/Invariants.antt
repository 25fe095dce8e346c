use Rattle.std.proofs.Common.{◌≡◌, map, take, get_or, false}
use Rattle.question_words.specs.Loss.{row_of}
use Rattle.question_words.proofs.loss.rows.Given as goal

abbrev pub invariant-loop-x : goal.invariant-loop-x
invariant-loop-x l = l.rows.items ≡ map (row_of l.jobs (λ n. get_or l.done n false)) (take l.x-index l.stretches)
