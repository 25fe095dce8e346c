-- What a policy's run has come to before a tick.
use Rattle.std.specs.Prelude.{◌≡◌, ◌≤◌, ◌<◌, ℕ, zero, suc, ◌%◌, ◌^◌, List, [], ◌∷◌, ◌++◌, length, map, true}
use Rattle.std.specs.Prelude.{◌==◌, ◌⊎◌, ◌-◌, if◌then◌else◌, sum_by, cond}
use Rattle.std.specs.Ordering.{nat_cmp, ordering_then}
use Rattle.std.specs.declared.cmp.Ordering.{Ordering}
use Rattle.std.specs.declared.cmp.Reverse.{Reverse}
use Rattle.std.specs.BinaryHeap.{IsHeap}
use Rattle.dover_model.specs.declared.events.Task.{Task}
use Rattle.dover_model.specs.declared.events.Entry.{Entry}
use Rattle.dover_model.specs.declared.pieces.Piece.{Piece}
use Rattle.dover_model.specs.Common.{JobFacts, entry_of, to_come, left, given, stretches, Each, IsMember, last_deadline}
use Rattle.dover_model.specs.Common.{idle}
use Rattle.policy_lab.specs.declared.tally.Tally.{Tally}
use Rattle.policy_lab.specs.Picks.{Picks}
use Rattle.policy_lab.specs.Counts.{stops}
use Rattle.policy_lab.specs.PolicyRun.{is_ready, picked}
use Rattle.policy_lab.specs.Ranks.{turn_by}

-- the jobs at tick t, with the ticks that they have had
abbrev pub tasks_at : Picks → List JobFacts → ℕ → List Task
tasks_at picks jobs zero = to_come 0 jobs
tasks_at picks jobs (suc t) = let tasks = tasks_at picks jobs t in map (given (picked picks t tasks)) tasks

-- the schedule of the ticks before t
abbrev pub schedule_before : Picks → List JobFacts → ℕ → List ℕ
schedule_before picks jobs zero = []
schedule_before picks jobs (suc t) = schedule_before picks jobs t ++ picked picks t (tasks_at picks jobs t) ∷ []

-- the sum of so much for each job that is served fully
abbrev pub served_by : (JobFacts → ℕ) → List Task → ℕ
served_by amount tasks = sum_by (λ task. if left task == 0 then amount task.job else 0) tasks

-- the value of the jobs that are served fully, and how many they are
abbrev pub served_value : List Task → ℕ
served_value tasks = served_by (λ j. j.value) tasks

abbrev pub served_jobs : List Task → ℕ
served_jobs tasks = served_by (λ j. 1) tasks

-- the number that is picked in the tick before tick t, and at the first tick the one that is picked in it
abbrev pub last_at : Picks → List JobFacts → ℕ → ℕ
last_at picks jobs zero = picked picks zero (tasks_at picks jobs zero)
last_at picks jobs (suc t) = picked picks t (tasks_at picks jobs t)

-- the entry of a job of which so much is left
abbrev pub entry_with : (number left : ℕ) → JobFacts → Entry
entry_with number left j = record
    { number = number; deadline = j.deadline; latest = j.deadline - left; left = left; value = j.value }

-- ---- the queue

-- what the heap has of a job: its turn, and what is left of it
abbrev pub Turn : Type 0
Turn = Reverse (ℕ × ℕ)

-- its order, in which a job is the greater the less its turn is
abbrev pub turn_cmp : Turn → Turn → Ordering
turn_cmp s t = ordering_then (nat_cmp t.0.0 s.0.0) (nat_cmp t.0.1 s.0.1)

-- what a job is kept as
abbrev pub kept_as : (Entry → ℕ) → Task → ℕ × ℕ
kept_as ranks task = (turn_by ranks (entry_of task), left task)

-- the jobs in the heap
abbrev pub kept_of : List Turn → List (ℕ × ℕ)
kept_of turns = map (λ (t : Turn). t.0) turns

-- 1 if the job has the number
abbrev pub is_of : ℕ → ℕ × ℕ → ℕ
is_of n k = cond (k.0 % 2 ^ 20 == n) 1 0

-- Kept are jobs of number below `released` that have work left, each at most once, and not the one that is out; and
-- among them all that are ready.
pub record HasQueue (ranks : Entry → ℕ) (t released out : ℕ) (kept : List (ℕ × ℕ)) (tasks : List Task) : Type 0 where
  pub each : Each (λ k. (task : Task) × IsMember task tasks × (task.number < released) × (task.number ≡ out → ⊥)
      × (1 ≤ left task) × (k ≡ kept_as ranks task)) kept
  pub all : Each (λ task. task.number < released → (task.number ≡ out → ⊥) → is_ready t task ≡ true
      → IsMember (kept_as ranks task) kept) tasks
  pub apart : (n : ℕ) → sum_by (is_of n) kept ≤ 1
  pub past : Each (λ task. task.number < released → task.job.release ≤ t) tasks

-- ---- the run

-- The job that ran in the tick before tick t goes by this number where it is ready; where none does, it has no work
-- left, if there is a tick before.
pub record HasLast (picks : Picks) (jobs : List JobFacts) (t last : ℕ) : Type 0 where
  pub ready : (last ≡ idle) ⊎ ((u : Task) × IsMember u (tasks_at picks jobs t) × (u.number ≡ last)
      × (last ≡ last_at picks jobs t) × (is_ready t u ≡ true))
  pub over : last ≡ idle → (t ≡ 0) ⊎ Each (λ u. u.number ≡ last_at picks jobs t → left u ≡ 0) (tasks_at picks jobs t)

-- what a run comes to in numbers before tick t
pub record HasTally (picks : Picks) (jobs : List JobFacts) (t : ℕ) (tally : Tally) : Type 0 where
  pub value : tally.value ≡ served_value (tasks_at picks jobs t)
  pub completed : tally.completed ≡ served_jobs (tasks_at picks jobs t)
  pub stops : tally.stops ≡ stops jobs (schedule_before picks jobs t)
  pub few : tally.stops ≤ t
  pub last : HasLast picks jobs t tally.last

-- what a run has come to before tick t: its queue, what it comes to in numbers, and its stretches; no job that isn't
-- counted as released comes before the tick `from`
pub record HasRun (picks : Picks) (ranks : Entry → ℕ) (jobs : List JobFacts) (t from released out : ℕ) (tally : Tally)
    (turns : List Turn)
    (pieces : List Piece) : Type 0 where
  pub queue : HasQueue ranks t released out (kept_of turns) (tasks_at picks jobs t)
  pub ordered : IsHeap turn_cmp turns
  pub ahead : Each (λ task. released ≤ task.number → from ≤ task.job.release) (tasks_at picks jobs t)
  pub few : released ≤ length jobs
  pub soon : t ≤ last_deadline jobs
  pub counts : HasTally picks jobs t tally
  pub stretched : pieces ≡ stretches (schedule_before picks jobs t)

-- what a whole run comes to
pub record HasEnded (picks : Picks) (jobs : List JobFacts) (tally : Tally) (pieces : List Piece) : Type 0 where
  pub value : tally.value ≡ served_value (tasks_at picks jobs (last_deadline jobs))
  pub completed : tally.completed ≡ served_jobs (tasks_at picks jobs (last_deadline jobs))
  pub stops : tally.stops ≡ stops jobs (schedule_before picks jobs (last_deadline jobs))
  pub stretched : pieces ≡ stretches (schedule_before picks jobs (last_deadline jobs))

-- the job of number n is the first of those that are released and ready, with so much left
pub record IsNext (ranks : Entry → ℕ) (t released n amount : ℕ) (tasks : List Task) : Type 0 where
  pub task : Task
  pub member : IsMember task tasks
  pub number : task.number ≡ n
  pub low : n < released
  pub amount_is : left task ≡ amount
  pub ready : is_ready t task ≡ true
  pub first : Each (λ u. u.number < released → is_ready t u ≡ true → (u.number ≡ n)
      ⊎ (turn_by ranks (entry_of task) < turn_by ranks (entry_of u))) tasks
