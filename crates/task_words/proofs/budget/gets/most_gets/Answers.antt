use Rattle.std.proofs.Common.{◌≡◌, ◌≤◌, ◌<◌, ◌+◌, List, ℕ, length, take, get_or, arith, sum_by}
use Rattle.std.proofs.lemmas.List.{length-map}
use Rattle.std.proofs.lemmas.List.Sums.{sum_by_more}
use Rattle.task_words.specs.tasks.Merging.{blank_task}
use Rattle.task_words.specs.declared.tasks.task.PeriodicTask.{PeriodicTask}
use Rattle.task_words.specs.budget.Budgets.{most_preempting, most_taking, task_at}
use Rattle.task_words.specs.sure.Kept.{AreSmall}
use Rattle.task_words.specs.sure.Streams.{stream_of, streams_of}
use Rattle.task_words.proofs.sure.Small.{small_there}
use Rattle.task_words.proofs.budget.gets.most_gets.Goals as goal

-- tasks are few
few_tasks : (tasks : List PeriodicTask) → AreSmall (streams_of tasks) → length tasks ≤ 1_000_000
few_tasks tasks small = omega (arith, small.few, length-map tasks stream_of)

-- their deadlines are near
near : (tasks : List PeriodicTask) → AreSmall (streams_of tasks) → (i : ℕ) → i < length tasks
    → (get_or tasks i blank_task).deadline ≤ 1_000_000_000_000
near tasks small i less = (small_there tasks small i less).span

-- and not at once
later : (tasks : List PeriodicTask) → AreSmall (streams_of tasks) → (i : ℕ) → i < length tasks
    → 1 ≤ (get_or tasks i blank_task).deadline
later tasks small i less =
    let some : 1 ≤ (get_or tasks i blank_task).work = (small_there tasks small i less).work in
    let within : (get_or tasks i blank_task).work ≤ (get_or tasks i blank_task).deadline =
    (small_there tasks small i less).within in
    omega (arith, some, within)

pub most_preempting-gets-requires : goal.most_preempting-gets-requires
most_preempting-gets-requires c = record {
  period = (small_there c.args.tasks.now c.requires.small c.loop-other.other-index c.loop-other-test.true).apart;
}

pub most_taking-gets-requires-clause-period : goal.most_taking-gets-requires-clause-period
most_taking-gets-requires-clause-period c =
    (small_there c.args.tasks.now c.requires.small c.loop-other.other-index c.loop-other-test.true).apart

pub most_taking-gets-requires-clause-value : goal.most_taking-gets-requires-clause-value
most_taking-gets-requires-clause-value c =
    (small_there c.args.tasks.now c.requires.small c.loop-other.other-index c.loop-other-test.true).value

pub most_taking-gets-requires-clause-deadline : goal.most_taking-gets-requires-clause-deadline
most_taking-gets-requires-clause-deadline c = near c.args.tasks.now c.requires.small c.args.number c.requires.number

pub most_taking-gets-requires-clause-other : goal.most_taking-gets-requires-clause-other
most_taking-gets-requires-clause-other c =
    later c.args.tasks.now c.requires.small c.loop-other.other-index c.loop-other-test.true

pub most_taking-gets-requires-clause-late : goal.most_taking-gets-requires-clause-late
most_taking-gets-requires-clause-late c =
    near c.args.tasks.now c.requires.small c.loop-other.other-index c.loop-other-test.true

pub overflow_add-gets : goal.overflow_add-gets
overflow_add-gets c = omega (
  arith,
  c.loop-other.invariant.few,
  c.loop-other-test.true,
  few_tasks c.args.tasks.now c.requires.small,
  near c.args.tasks.now c.requires.small c.args.number c.requires.number,
  c.most_preempting-gets.ensures.few,
)

pub overflow_add-gets-in-loop-other : goal.overflow_add-gets-in-loop-other
overflow_add-gets-in-loop-other c = omega (
  arith,
  c.loop-other.invariant.few,
  c.loop-other-test.true,
  few_tasks c.args.tasks.now c.requires.small,
  near c.args.tasks.now c.requires.small c.args.number c.requires.number,
  c.most_preempting-gets.ensures.few,
  c.most_taking-gets.ensures.few,
)

pub loop-other-preserved : goal.loop-other-preserved
loop-other-preserved c =
    let preempts : sum_by (most_preempting (task_at c.args.tasks.now c.args.number))
    (take (c.loop-other.other-index + 1) c.args.tasks.now)
    ≡ sum_by (most_preempting (task_at c.args.tasks.now c.args.number)) (take c.loop-other.other-index c.args.tasks.now)
    + most_preempting (task_at c.args.tasks.now c.args.number) (task_at c.args.tasks.now c.loop-other.other-index) =
    sum_by_more (most_preempting (task_at c.args.tasks.now c.args.number)) c.args.tasks.now c.loop-other.other-index
    blank_task c.loop-other-test.true in
    let takes : sum_by (most_taking c.args.ratio (task_at c.args.tasks.now c.args.number))
    (take (c.loop-other.other-index + 1) c.args.tasks.now)
    ≡ sum_by (most_taking c.args.ratio (task_at c.args.tasks.now c.args.number))
    (take c.loop-other.other-index c.args.tasks.now)
    + most_taking c.args.ratio (task_at c.args.tasks.now c.args.number)
    (task_at c.args.tasks.now c.loop-other.other-index) =
    sum_by_more (most_taking c.args.ratio (task_at c.args.tasks.now c.args.number)) c.args.tasks.now
    c.loop-other.other-index blank_task c.loop-other-test.true in
    let preempt : c.most_preempting-gets.result ≡ most_preempting (task_at c.args.tasks.now c.args.number)
    (task_at c.args.tasks.now c.loop-other.other-index) = c.most_preempting-gets.ensures.is in
    let take_it : c.most_taking-gets.result ≡ most_taking c.args.ratio (task_at c.args.tasks.now c.args.number)
    (task_at c.args.tasks.now c.loop-other.other-index) = c.most_taking-gets.ensures.is in
    record {
      gets = omega (arith, c.loop-other.invariant.gets, preempts, takes, preempt, take_it);
      few = omega (
        arith,
        c.loop-other.invariant.few,
        near c.args.tasks.now c.requires.small c.args.number c.requires.number,
        c.most_preempting-gets.ensures.few,
        c.most_taking-gets.ensures.few,
      );
    }
