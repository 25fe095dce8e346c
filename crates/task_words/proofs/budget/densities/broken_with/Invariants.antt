use Rattle.task_words.specs.budget.Budgets.{task_at}
use Rattle.task_words.specs.budget.Lines.{KeepsUpTo}
use Rattle.task_words.proofs.budget.densities.broken_with.Given as goal

-- none so far
abbrev pub invariant-loop-other : goal.invariant-loop-other
invariant-loop-other l = KeepsUpTo l.ratio l.tasks (task_at l.tasks l.number) l.other
