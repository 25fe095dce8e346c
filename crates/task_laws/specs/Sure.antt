-- Jobs that no run loses, whatever comes beside them.
use Rattle.std.specs.Prelude.{◌≡◌, ℕ, ◌+◌, ◌*◌, ◌≤◌, ◌<◌, List, Bool, ◌&&◌, ◌==◌, nat_le, nat_lt, get_or}
use Rattle.std.specs.Prelude.{if◌then◌else◌, length, true, false, [], ◌∷◌, ◌++◌, max, replicate}
use Rattle.std.specs.Int.{div_ceil}
use Rattle.std.specs.List.{sum_by, enumerate_from}
use Rattle.dover_model.specs.declared.events.Event.TheVariants.{Complete}
use Rattle.dover_model.specs.declared.events.Task.{Task}
use Rattle.dover_model.specs.Fraction.{Fraction}
use Rattle.dover_model.specs.JobFacts.{JobFacts}
use Rattle.dover_model.specs.Instance.{Instance}
use Rattle.dover_model.specs.Schedules.{numbered}
use Rattle.dover_model.specs.Windows.{crosses}
use Rattle.dover_model.specs.Orders.{IsHeavy}
use Rattle.dover_model.specs.State.{is_privileged}
use Rattle.dover_model.specs.Sound.{IsMember, Each, EachTwo}
use Rattle.dover_model.specs.Run.{printed}

-- ---- the jobs that can hold the processor together

-- the value of a chosen job
abbrev pub chosen_value : (ℕ → Bool) → ℕ × JobFacts → ℕ
chosen_value chosen (m, i) = if chosen m then i.value else 0

-- the work of a chosen job that is due by this tick
abbrev pub chosen_work : (ℕ → Bool) → ℕ → ℕ × JobFacts → ℕ
chosen_work chosen due (m, i) = if chosen m && nat_le i.deadline due then i.work else 0

-- The jobs whose numbers are chosen can run and be held together at this tick, while number n waits: they cross it, and
-- for each of them its work and that of those due no later is at most its window.
pub record CanHold (J : Instance) (n t : ℕ) (chosen : ℕ → Bool) : Type 0 where
  pub waits : chosen n ≡ false
  pub crossing : Each (λ m_i. chosen m_i.0 ≡ true → crosses t m_i.1 ≡ true) (numbered J)
  pub fitting : Each (λ m_i. chosen m_i.0 ≡ true
      → sum_by (chosen_work chosen m_i.1.deadline) (numbered J) + m_i.1.release ≤ m_i.1.deadline) (numbered J)

-- the running job and the held ones fit so, with all the work that they declare
abbrev pub FitWindows : List Task → Type 0
FitWindows tasks = Each (λ l. is_privileged l ≡ true
    → sum_by (λ u. if is_privileged u && nat_le u.job.deadline l.job.deadline then u.job.work else 0) tasks
    + l.job.release ≤ l.job.deadline) tasks

-- the value of the job of number n is heavy against any such jobs
abbrev pub IsHeavyAt : Instance → ℕ → JobFacts → ℕ → Type 0
IsHeavyAt J n j t = (chosen : ℕ → Bool) → CanHold J n t chosen
    → IsHeavy J.rules.ratio j.value (sum_by (chosen_value chosen) (numbered J))

-- ---- a job that is completed

-- No job is heavy against this one whose latest start, where it has had nothing, lies between its release and its
-- deadline: only such a job could displace it.
abbrev pub NoneDisplaces : Instance → JobFacts → Type 0
NoneDisplaces J j = Each (λ i. j.release + i.work ≤ i.deadline → i.deadline < j.deadline + i.work
    → IsHeavy J.rules.ratio i.value j.value → ⊥) J.jobs

-- no job that may meet this one is heavy against it: none is due later than its release whose latest start, where it
-- has had nothing, lies before its deadline
abbrev pub NoneMeets : Instance → JobFacts → Type 0
NoneMeets J j = Each (λ i. j.release < i.deadline → i.deadline < j.deadline + i.work
    → IsHeavy J.rules.ratio i.value j.value → ⊥) J.jobs

-- the run completes the job of this number, in time
pub record IsCompleted (J : Instance) (n : ℕ) (j : JobFacts) : Type 0 where
  pub tick : ℕ
  pub event : IsMember (Complete tick n) (printed J)
  pub in_time : tick ≤ j.deadline

-- ---- all jobs of a stream

-- Jobs that come again and again: two releases are so many ticks apart or more, and each job declares this work or
-- more, and is due so many ticks behind its release, and worth so much, at most.
pub record Stream : Type 0 where
  pub apart : ℕ
  pub work : ℕ
  pub span : ℕ
  pub value : ℕ

-- the stream that stands for none
abbrev pub blank_stream : Stream
blank_stream = record { apart = 0; work = 0; span = 0; value = 0 }

-- the stream of this number
abbrev pub stream_at : List Stream → ℕ → Stream
stream_at streams x = get_or streams x blank_stream

-- the job keeps to what the stream says
pub record IsWithinStream (s : Stream) (i : JobFacts) : Type 0 where
  pub work : s.work ≤ i.work
  pub span : i.deadline ≤ i.release + s.span
  pub value : i.value ≤ s.value

-- each job is of the stream whose number `of` has for it, and those of one stream are apart
pub record AreOfStreams (streams : List Stream) (of : ℕ → ℕ) (J : Instance) : Type 0 where
  pub spaced : Each (λ s. 1 ≤ s.apart) streams
  pub named : Each (λ m_i. of m_i.0 < length streams) (numbered J)
  pub within : Each (λ m_i. IsWithinStream (stream_at streams (of m_i.0)) m_i.1) (numbered J)
  pub apart : EachTwo (λ m_i n_j. of m_i.0 ≡ of n_j.0 → m_i.0 < n_j.0
      → m_i.1.release + (stream_at streams (of m_i.0)).apart ≤ n_j.1.release) (numbered J)

-- the job is all that the stream allows
pub record IsOfStream (s : Stream) (j : JobFacts) : Type 0 where
  pub work : j.work ≡ s.work
  pub span : j.deadline ≡ j.release + s.span
  pub value : j.value ≡ s.value

-- how many jobs of the stream can cross one tick
abbrev pub most_crossing : Stream → ℕ
most_crossing s = div_ceil s.span s.apart

-- the work of so many jobs of each stream of no greater span than this
abbrev pub work_within : (ℕ → ℕ) → ℕ → ℕ × Stream → ℕ
work_within counts span (y, s) = if nat_le s.span span then counts y * s.work else 0

-- So many jobs of each stream can hold the processor together, while one of stream x waits: of each stream as many as
-- can cross one tick, and where there is one, its work and that of all with no greater span is at most its span.
pub record CanStack (streams : List Stream) (x : ℕ) (counts : ℕ → ℕ) : Type 0 where
  pub waits : counts x ≡ 0
  pub few : (y : ℕ) → y < length streams → counts y ≤ most_crossing (stream_at streams y)
  pub fitting : (y : ℕ) → y < length streams → 1 ≤ counts y
      → sum_by (work_within counts (stream_at streams y).span) (enumerate_from 0 streams) ≤ (stream_at streams y).span

-- what so many jobs of each stream are worth
abbrev pub worth_of : (ℕ → ℕ) → List Stream → ℕ
worth_of counts streams = sum_by (λ y_s. counts y_s.0 * y_s.1.value) (enumerate_from 0 streams)

-- Job j of stream x is never lost: no other job of its own stream crosses its latest start, nor is one heavy against
-- it, and its value is heavy against any jobs of the other streams that can hold the processor together.
pub record IsSure (k : Fraction) (streams : List Stream) (x : ℕ) (j : JobFacts) : Type 0 where
  pub before_later : j.deadline < j.release + j.work + (stream_at streams x).apart
  pub behind_earlier : j.release + (stream_at streams x).span + j.work ≤ j.deadline + (stream_at streams x).apart
  pub own : IsHeavy k (stream_at streams x).value j.value → ⊥
  pub heavy : (counts : ℕ → ℕ) → CanStack streams x counts → IsHeavy k j.value (worth_of counts streams)

-- the latest start of a job that is all that the stream allows is crossed by no other
abbrev pub is_spread : Stream → Bool
is_spread s = nat_lt s.span (s.work + s.apart) && nat_le s.work s.apart

-- what jobs of the other streams that cross one tick are worth at most
abbrev pub most_beside : List Stream → ℕ → ℕ
most_beside streams x =
    sum_by (λ y_s. if y_s.0 == x then 0 else most_crossing y_s.1 * y_s.1.value) (enumerate_from 0 streams)

-- as many jobs of each of these streams but number x as can cross one tick
abbrev pub others : ℕ → List (ℕ × Stream) → List Stream
others x [] = []
others x (y_s ∷ rest) = (if y_s.0 == x then [] else replicate (most_crossing y_s.1) y_s.1) ++ others x rest

-- the greatest worth of some of these jobs whose work is at most the greatest span among them, where jobs of this work,
-- span and value are chosen already
abbrev pub best_of : List Stream → (work span value : ℕ) → ℕ
best_of [] work span value = if nat_le work span then value else 0
best_of (s ∷ more) work span value =
    max (best_of more work span value) (best_of more (work + s.work) (max span s.span) (value + s.value))

-- what jobs of the other streams are worth at most whose work is at most the greatest span among them
abbrev pub most_fitting : List Stream → ℕ → ℕ
most_fitting streams x = best_of (others x (enumerate_from 0 streams)) 0 0 0
