use Rattle.task_words.specs.budget.Lines.{KeepUpTo}
use Rattle.task_words.proofs.budget.densities.find_breakers.Given as goal

-- none so far
abbrev pub invariant-loop-number : goal.invariant-loop-number
invariant-loop-number l = KeepUpTo l.ratio l.tasks l.number
