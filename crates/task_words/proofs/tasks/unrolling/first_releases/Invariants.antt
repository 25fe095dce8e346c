use Rattle.std.proofs.Common.{◌≡◌, ◌≤◌, ◌<◌, ◌+◌, ◌*◌, ◌^◌, ℕ, length, get_or, None}
use Rattle.task_words.specs.tasks.Merging.{IsNext, blank_task}
use Rattle.task_words.proofs.tasks.unrolling.first_releases.Given as goal

-- the first releases of the tasks so far are kept, and no others
abbrev pub invariant-loop-task : goal.invariant-loop-task
invariant-loop-task g l = record {
  number_is : l.number ≡ l.task-index;
  size : length l.next ≡ length l.tasks;
  kept : (n : ℕ) → n < l.task-index → IsNext l.until n (get_or l.tasks n blank_task) 0 (get_or l.next n None);
  rest : (n : ℕ) → l.task-index ≤ n → get_or l.next n None ≡ None;
  count : (d : ℕ) → length l.tasks + 1 < 2 ^ d → l.comparisons ≤ l.initial.comparisons + d * l.task-index;
}
