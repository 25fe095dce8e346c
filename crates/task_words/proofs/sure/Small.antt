-- Tasks that may stand together are small streams.
use Rattle.std.proofs.Common.{◌≡◌, ℕ, zero, suc, ◌+◌, ◌*◌, ◌≤◌, ◌<◌, ◌⊎◌, inl, inr, List, [], ◌∷◌, length, refl, sym}
use Rattle.std.proofs.Common.{ap, ◌∙◌, subst, get_or, arith}
use Rattle.std.specs.List.{AllByRecursion}
use Rattle.std.specs.Int.{div_ceil}
use Rattle.std.proofs.Math.Nat.{mul-le-mul_right, mul-le-mul_left}
use Rattle.std.proofs.lemmas.Bool.{cases_lt}
use Rattle.std.proofs.lemmas.Grind.{div_ceil_times}
use Rattle.std.proofs.lemmas.List.{length-map, get_or-map}
use Rattle.dover_model.specs.Common.{Fraction}
use Rattle.task_laws.specs.Sure.{Stream, stream_at, blank_stream, most_crossing}
use Rattle.dover_model.proofs.valid.JobLimits.{job_limits}
use Rattle.task_words.specs.tasks.Limits.{IsTask, AreTasks}
use Rattle.task_words.specs.tasks.Merging.{blank_task}
use Rattle.task_words.specs.declared.tasks.task.PeriodicTask.{PeriodicTask}
use Rattle.task_words.specs.sure.Streams.{stream_of, streams_of}
use Rattle.task_words.specs.sure.Kept.{IsSmall, AreSmall}

-- what holds of each holds at each place
pub at_place : {X : Type 0} (P : X → Type 0) (xs : List X) (d : X) → AllByRecursion P xs → (i : ℕ) → i < length xs
    → P (get_or xs i d)
at_place P [] d all i less = absurd (omega arith)
at_place P (x ∷ xs) d all zero less = all.0
at_place P (x ∷ xs) d all (suc i) less = at_place P xs d all.1 i (omega arith)

-- the stream of the task at a place
pub stream_there : (tasks : List PeriodicTask) (y : ℕ) → y < length tasks
    → stream_at (streams_of tasks) y ≡ stream_of (get_or tasks y blank_task)
stream_there tasks y less = get_or-map stream_of tasks y blank_task blank_stream less

-- a task is a small stream
small_task : (task : PeriodicTask) → IsTask 0 task → IsSmall (stream_of task)
small_task task it =
    let window = (job_limits it.job).window in
    let due = it.due in
    record {
      apart = it.period;
      work = (job_limits it.job).work;
      within = omega (arith, window);
      span = omega (arith, due);
      worth = (job_limits it.job).worth;
      value = (job_limits it.job).modest;
    }

-- so are tasks that may stand together
pub small_tasks : (k : Fraction) (tasks : List PeriodicTask) → AreTasks 0 k tasks → AreSmall (streams_of tasks)
small_tasks k tasks are = record {
  each = λ y less. let low : y < length tasks = omega (arith, less, length-map tasks stream_of) in
      subst IsSmall (sym (stream_there tasks y low))
      (small_task (get_or tasks y blank_task) (at_place (IsTask 0) tasks blank_task are.each y low));
  few = let few : length tasks ≤ 1_000_000 = are.few in omega (arith, few, length-map tasks stream_of);
}

-- the stream of a task that stands at a place
pub stream_is : (tasks : List PeriodicTask) (y : ℕ) → y < length tasks → (t d : PeriodicTask) → t ≡ get_or tasks y d
    → stream_at (streams_of tasks) y ≡ stream_of t
stream_is tasks y less t d is = get_or-map stream_of tasks y d blank_stream less ∙ ap stream_of (sym is)

-- among small ones it is small
pub small_at : (tasks : List PeriodicTask) → AreSmall (streams_of tasks) → (y : ℕ) → y < length tasks
    → (t d : PeriodicTask) → t ≡ get_or tasks y d → IsSmall (stream_of t)
small_at tasks small y less t d is = subst IsSmall (stream_is tasks y less t d is)
    (small.each y (omega (arith, less, length-map tasks stream_of)))

pub small_there : (tasks : List PeriodicTask) → AreSmall (streams_of tasks) → (y : ℕ) → y < length tasks
    → IsSmall (stream_of (get_or tasks y blank_task))
small_there tasks small y less = small_at tasks small y less (get_or tasks y blank_task) blank_task refl

-- no more jobs cross a tick than the span has ticks
pub few_cross : (s : Stream) → IsSmall s → most_crossing s ≤ 1_000_000_000_000
few_cross s small = by_order (cases_lt s.span (div_ceil s.span s.apart)) where
  apart : 1 ≤ s.apart
  apart = small.apart

  span : s.span ≤ 1_000_000_000_000
  span = small.span

  by_order : (s.span < div_ceil s.span s.apart) ⊎ (div_ceil s.span s.apart ≤ s.span)
      → div_ceil s.span s.apart ≤ 1_000_000_000_000
  by_order (inr less) = omega (arith, less, span)
  by_order (inl more) = absurd (
      let bounds : (s.span ≤ div_ceil s.span s.apart * s.apart)
      × (div_ceil s.span s.apart * s.apart < s.span + s.apart) =
      div_ceil_times s.span s.apart (omega (arith, apart)) in
      let times : (s.span + 1) * s.apart ≤ div_ceil s.span s.apart * s.apart =
      mul-le-mul_right s.apart (omega (arith, more)) in
      let once : s.span * 1 ≤ s.span * s.apart = mul-le-mul_left s.span apart in
      omega (arith, bounds.1, times, once))
