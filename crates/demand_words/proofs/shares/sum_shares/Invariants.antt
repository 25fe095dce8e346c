use Rattle.std.proofs.Common.{◌≡◌, ◌≤◌, ◌*◌, ◌-◌, ◌/◌, ◌^◌, take, sum_by}
use Rattle.demand_words.specs.Demanded.{facts, share}
use Rattle.demand_words.proofs.shares.sum_shares.Given as goal

-- the sums over the tasks so far
abbrev pub invariant-loop-task : goal.invariant-loop-task
invariant-loop-task l = record {
  most : l.sums.most ≡ sum_by (λ t. share l.scale (facts t)) (take l.task-index l.tasks);
  least : l.sums.least ≡ sum_by (λ t. l.scale * t.work / t.period) (take l.task-index l.tasks);
  beyond : l.sums.beyond ≡ sum_by (λ t. share l.scale (facts t) * (t.period - t.deadline)) (take l.task-index l.tasks);
  few_most : l.sums.most ≤ l.task-index * 2 ^ 104;
  few_least : l.sums.least ≤ l.task-index * 2 ^ 104;
  few_beyond : l.sums.beyond ≤ l.task-index * 2 ^ 105;
}
