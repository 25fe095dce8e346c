use Rattle.task_words.proofs.sure.Rivals.{HasSeen}
use Rattle.task_words.proofs.sure.densities.sparsest.Given as goal

-- the least dense of the tasks so far, but one
abbrev pub invariant-loop-number : goal.invariant-loop-number
invariant-loop-number l = HasSeen l.tasks l.without l.number l.best
