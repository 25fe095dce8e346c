use Rattle.std.proofs.Common.{◌≡◌, ◌≤◌, ◌<◌, ◌+◌, ◌*◌, ◌∙◌, ℕ, List, ap, length, take, get_or, arith, sum_by}
use Rattle.std.proofs.lemmas.List.{length-map}
use Rattle.std.proofs.lemmas.List.Sums.{sum_by_more}
use Rattle.std.proofs.lemmas.Nat.{mul-le}
use Rattle.task_laws.specs.Sure.{most_crossing}
use Rattle.task_words.specs.tasks.Merging.{blank_task}
use Rattle.task_words.specs.declared.tasks.task.PeriodicTask.{PeriodicTask}
use Rattle.task_words.specs.sure.Kept.{AreSmall}
use Rattle.task_words.specs.sure.Streams.{stream_of, streams_of}
use Rattle.task_words.proofs.sure.Small.{small_there, few_cross}
use Rattle.task_words.proofs.sure.sums.sum_up.Goals as goal

pub most_crossing-more-requires : goal.most_crossing-more-requires
most_crossing-more-requires c =
    (small_there c.args.tasks.now c.requires c.loop-task.task-index c.loop-task-test.true).apart

-- one task's part is small
few_more : (tasks : List PeriodicTask) → AreSmall (streams_of tasks) → (i : ℕ) → i < length tasks
    → most_crossing (stream_of (get_or tasks i blank_task)) ≤ 1_000_000_000_000
few_more tasks small i less = few_cross (stream_of (get_or tasks i blank_task)) (small_there tasks small i less)

-- and so is what it is worth
little_more : (tasks : List PeriodicTask) → AreSmall (streams_of tasks) → (i : ℕ) → i < length tasks
    → most_crossing (stream_of (get_or tasks i blank_task)) * (get_or tasks i blank_task).value
    ≤ 1_000_000_000_000 * 1_000_000_000
little_more tasks small i less = mul-le (most_crossing (stream_of (get_or tasks i blank_task)))
    (get_or tasks i blank_task).value 1_000_000_000_000 1_000_000_000 (few_more tasks small i less)
    (small_there tasks small i less).value

-- tasks are few
few_tasks : (tasks : List PeriodicTask) → AreSmall (streams_of tasks) → length tasks ≤ 1_000_000
few_tasks tasks small = omega (arith, small.few, length-map tasks stream_of)

-- what one task adds, by the numbers of the code
adds : (value more from from_two : ℕ) (n : ℕ) → from ≡ more → more ≡ n → from_two ≡ value → from * from_two ≡ n * value
adds value more from from_two n e f g = ap (λ x. x * from_two) (e ∙ f) ∙ ap (λ x. n * x) g

pub overflow_add-crossing : goal.overflow_add-crossing
overflow_add-crossing c = omega (
  arith,
  c.loop-task.invariant.few,
  c.loop-task-test.true,
  few_tasks c.args.tasks.now c.requires,
  few_more c.args.tasks.now c.requires c.loop-task.task-index c.loop-task-test.true,
  c.most_crossing-more.ensures,
)

pub overflow_add-worth : goal.overflow_add-worth
overflow_add-worth c = omega (
  arith,
  c.loop-task.invariant.modest,
  c.loop-task-test.true,
  few_tasks c.args.tasks.now c.requires,
  little_more c.args.tasks.now c.requires c.loop-task.task-index c.loop-task-test.true,
  adds (get_or c.args.tasks.now c.loop-task.task-index blank_task).value c.most_crossing-more.result c.from.result
      c.from-in-loop-task.result (most_crossing (stream_of (get_or c.args.tasks.now c.loop-task.task-index blank_task)))
      c.from.ensures c.most_crossing-more.ensures c.from-in-loop-task.ensures,
)

pub loop-task-preserved : goal.loop-task-preserved
loop-task-preserved c =
    let product : c.from.result * c.from-in-loop-task.result
    ≡ most_crossing (stream_of (get_or c.args.tasks.now c.loop-task.task-index blank_task))
    * (get_or c.args.tasks.now c.loop-task.task-index blank_task).value =
    adds (get_or c.args.tasks.now c.loop-task.task-index blank_task).value c.most_crossing-more.result c.from.result
    c.from-in-loop-task.result (most_crossing (stream_of (get_or c.args.tasks.now c.loop-task.task-index blank_task)))
    c.from.ensures c.most_crossing-more.ensures c.from-in-loop-task.ensures in
    let crosses : sum_by (λ t. most_crossing (stream_of t)) (take (c.loop-task.task-index + 1) c.args.tasks.now)
    ≡ sum_by (λ t. most_crossing (stream_of t)) (take c.loop-task.task-index c.args.tasks.now)
    + most_crossing (stream_of (get_or c.args.tasks.now c.loop-task.task-index blank_task)) =
    sum_by_more (λ t. most_crossing (stream_of t)) c.args.tasks.now c.loop-task.task-index blank_task
    c.loop-task-test.true in
    let is_worth : sum_by (λ t. most_crossing (stream_of t) * t.value)
    (take (c.loop-task.task-index + 1) c.args.tasks.now)
    ≡ sum_by (λ t. most_crossing (stream_of t) * t.value) (take c.loop-task.task-index c.args.tasks.now)
    + most_crossing (stream_of (get_or c.args.tasks.now c.loop-task.task-index blank_task))
    * (get_or c.args.tasks.now c.loop-task.task-index blank_task).value =
    sum_by_more (λ t. most_crossing (stream_of t) * t.value) c.args.tasks.now c.loop-task.task-index blank_task
    c.loop-task-test.true in
    record {
      crossing = omega (arith, c.loop-task.invariant.crossing, crosses, c.most_crossing-more.ensures);
      worth = omega (arith, c.loop-task.invariant.worth, is_worth, product);
      few = omega (
        arith,
        c.loop-task.invariant.few,
        few_more c.args.tasks.now c.requires c.loop-task.task-index c.loop-task-test.true,
        c.most_crossing-more.ensures,
      );
      modest = omega (
        arith,
        c.loop-task.invariant.modest,
        little_more c.args.tasks.now c.requires c.loop-task.task-index c.loop-task-test.true,
        product,
      );
    }
