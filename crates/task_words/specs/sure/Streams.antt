-- Tasks as streams of jobs, and what can stand against one of them.
use Rattle.std.specs.Prelude.{◌≡◌, ◌⊎◌, ◌==◌, ◌||◌, ◌*◌, ◌&&◌, ℕ, List, Bool, true, not, map, nat_le, if◌then◌else◌}
use Rattle.std.specs.Prelude.{set}
use Rattle.std.specs.List.{list_all, sum_by, enumerate_from}
use Rattle.dover_model.specs.Common.{Fraction, is_heavy}
use Rattle.task_laws.specs.Sure.{Stream, stream_at, most_crossing, most_beside, most_fitting}
use Rattle.task_laws.specs.Sure.{is_spread}
use Rattle.dover_model.specs.Common.{by_density, IsByDeadline}
use Rattle.dover_model.specs.declared.events.Version.{Version}
use Rattle.task_words.specs.declared.tasks.task.PeriodicTask.{PeriodicTask}

-- the stream of a task's jobs, whose releases may come at any ticks that are a period apart or more
abbrev pub stream_of : PeriodicTask → Stream
stream_of task = record { apart = task.period; work = task.work; span = task.deadline; value = task.value }

abbrev pub streams_of : List PeriodicTask → List Stream
streams_of tasks = map stream_of tasks

-- how many jobs of the other streams can cross one tick
abbrev pub count_beside : List Stream → ℕ → ℕ
count_beside streams x = sum_by (λ y_s. if y_s.0 == x then 0 else most_crossing y_s.1) (enumerate_from 0 streams)

-- of so many jobs at most all sets are tried
abbrev pub most_tried : ℕ
most_tried = 20

-- What jobs of the other streams are worth at most that can stand against a job of this one: those that fit, where few
-- can cross one tick and the version always chooses by deadline, and else all that can.
abbrev pub most_against : Version → List Stream → ℕ → ℕ
most_against v streams x =
    if not (by_density v true) && nat_le (count_beside streams x) most_tried then most_fitting streams x
    else most_beside streams x

-- the same streams, that of number x with this value
abbrev pub with_value : List Stream → (x v : ℕ) → List Stream
with_value streams x v = set streams x (record (stream_at streams x) { value = v })

-- no other job of stream x crosses the latest start of one, and its value is heavy against what can stand against it
abbrev pub is_sure : Fraction → Version → List Stream → ℕ → Bool
is_sure k v streams x = is_spread (stream_at streams x)
    && is_heavy k (stream_at streams x).value (most_against v streams x)

-- What is sure by the rules of version v is so in version w: there jobs are always chosen by deadline, or v looked at
-- all that can stand against a job.
abbrev pub HoldsIn : (v w : Version) → Type 0
HoldsIn v w = IsByDeadline w ⊎ (by_density v true ≡ true)

-- with this value stream x would be within the ratio of each other
abbrev pub stays_within : Fraction → List Stream → ℕ → ℕ → Bool
stays_within k streams x v = list_all
    (λ y_s. (y_s.0 == x) || nat_le (k.q * v * y_s.1.work) (k.p * y_s.1.value * (stream_at streams x).work))
    (enumerate_from 0 streams)
