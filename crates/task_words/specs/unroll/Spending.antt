-- How many comparisons it takes to unroll tasks.
use Rattle.std.specs.Prelude.{◌<◌, ◌≤◌, ◌+◌, ◌*◌, ◌^◌, ℕ, List, length}
use Rattle.task_words.specs.tasks.Tasks.{jobs_before}
use Rattle.task_words.specs.declared.tasks.task.PeriodicTask.{PeriodicTask}

-- tasks cost at most d comparisons each, and each job that they release before a tick 4 * d, where how many tasks there
-- are, plus one, has at most d binary digits
abbrev pub UnrollsAtMost : (until : ℕ) → List PeriodicTask → (before after : ℕ) → Type 0
UnrollsAtMost until tasks before after = (d : ℕ) → length tasks + 1 < 2 ^ d
    → after ≤ before + d * (length tasks + 4 * length (jobs_before until tasks))
