use Rattle.std.proofs.Common.{◌≡◌, ◌≤◌, ◌*◌, take, sum_by}
use Rattle.task_laws.specs.Sure.{most_crossing}
use Rattle.task_words.specs.sure.Streams.{stream_of}
use Rattle.task_words.proofs.sure.sums.sum_up.Given as goal

-- the sums over the tasks so far
abbrev pub invariant-loop-task : goal.invariant-loop-task
invariant-loop-task l = record {
  crossing : l.crossing ≡ sum_by (λ t. most_crossing (stream_of t)) (take l.task-index l.tasks);
  worth : l.worth ≡ sum_by (λ t. most_crossing (stream_of t) * t.value) (take l.task-index l.tasks);
  few : l.crossing ≤ l.task-index * 1_000_000_000_000;
  modest : l.worth ≤ l.task-index * (1_000_000_000_000 * 1_000_000_000);
}
