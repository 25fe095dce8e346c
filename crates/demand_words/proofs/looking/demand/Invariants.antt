use Rattle.std.proofs.Common.{◌≡◌, ◌≤◌, ◌*◌, ◌^◌, take, sum_by}
use Rattle.task_laws.specs.Demand.{jobs_within}
use Rattle.demand_words.specs.Demanded.{facts}
use Rattle.demand_words.proofs.looking.demand.Given as goal

-- the work of the tasks so far
abbrev pub invariant-loop-task : goal.invariant-loop-task
invariant-loop-task l = record {
  work : l.work ≡ sum_by (λ t. t.work * jobs_within (facts t) l.ticks) (take l.task-index l.tasks);
  few : l.work ≤ l.task-index * 2 ^ 104;
}
