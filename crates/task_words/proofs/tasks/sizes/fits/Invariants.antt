use Rattle.std.proofs.Common.{◌≡◌, ◌≤◌, take}
use Rattle.task_words.specs.tasks.Limits.{counts, worths}
use Rattle.task_words.proofs.tasks.sizes.fits.Given as goal

-- how many jobs the tasks so far release, and what they are worth
abbrev pub invariant-loop-task : goal.invariant-loop-task
invariant-loop-task l = record {
  count_is : l.count ≡ counts l.until (take l.task-index l.tasks);
  total_is : l.total ≡ worths l.until (take l.task-index l.tasks);
  few : l.count ≤ 1_000_000;
  modest : l.total ≤ 10_000_000_000_000;
}
