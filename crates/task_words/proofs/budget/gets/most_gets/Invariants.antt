use Rattle.std.proofs.Common.{◌≡◌, ◌≤◌, ◌+◌, ◌*◌, take, sum_by}
use Rattle.task_words.specs.budget.Budgets.{most_preempting, most_taking, task_at}
use Rattle.task_words.proofs.budget.gets.most_gets.Given as goal

-- how often so far
abbrev pub invariant-loop-other : goal.invariant-loop-other
invariant-loop-other l = record {
  gets : l.gets ≡ 1 + sum_by (most_preempting (task_at l.tasks l.number)) (take l.other-index l.tasks)
      + sum_by (most_taking l.ratio (task_at l.tasks l.number)) (take l.other-index l.tasks);
  few : l.gets ≤ 1 + l.other-index * 3_000_000_000_000;
}
