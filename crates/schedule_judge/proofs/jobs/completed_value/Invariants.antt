use Rattle.std.proofs.Common.{◌≡◌, ◌≤◌, ◌*◌, take, sum_by}
use Rattle.schedule_judge.specs.Jobs.{value_done}
use Rattle.schedule_judge.proofs.jobs.completed_value.Given as goal

-- the values of the jobs so far
abbrev pub invariant-loop-told : goal.invariant-loop-told
invariant-loop-told l = record {
  sum : l.sum ≡ sum_by value_done (take l.told-index l.jobs);
  small : l.sum ≤ 1_000_000_000 * l.told-index;
}
