-- The next release of each task, and the jobs that came before.
use Rattle.std.specs.Prelude.{◌≡◌, ℕ, suc, ◌≤◌, ◌<◌, List, ◌++◌, length, take, get_or, true, false}
use Rattle.std.specs.Prelude.{Option, Some, None, if◌then◌else◌, nat_lt}
use Rattle.dover_model.specs.declared.events.Version.TheVariants.{Two}
use Rattle.dover_model.specs.Common.{JobFacts, last_tick_in}
use Rattle.place_heap.specs.Items.{ItemFacts}
use Rattle.task_words.specs.tasks.Names.{blank_name}
use Rattle.task_words.specs.tasks.Tasks.{releases, released_at, jobs_before}
use Rattle.task_words.specs.declared.tasks.task.PeriodicTask.{PeriodicTask}

-- the tasks, the tick before which their jobs are released, and the next release of each task at its number
pub record Merge : Type 0 where
  pub tasks : List PeriodicTask
  pub until : ℕ
  pub next : List (Option ItemFacts)

-- these parts
abbrev pub merge : List PeriodicTask → ℕ → List (Option ItemFacts) → Merge
merge tasks until next = record { tasks = tasks; until = until; next = next }

-- a release of the task of this number, as a heap keeps it: first by the tick, then by the task
abbrev pub release_item : (number release : ℕ) → ItemFacts
release_item number release = record { key = release; tie = 0; number = number; place = number }

-- a release of the task of this number, if it is before a tick
abbrev pub kept_release : (until number release : ℕ) → Option ItemFacts
kept_release until number release = if nat_lt release until then Some (release_item number release) else None

-- read of no list
abbrev pub blank_task : PeriodicTask
blank_task = record { offset = 0; period = 0; work = 0; deadline = 0; value = 0; name = blank_name }

-- nothing is released from one tick on before another
abbrev pub IsQuiet : PeriodicTask → (from before : ℕ) → Type 0
IsQuiet task from before = (tick : ℕ) → from ≤ tick → tick < before → releases task tick ≡ false

-- the first release of a task at or after a tick
pub record IsNextRelease (until number : ℕ) (task : PeriodicTask) (from : ℕ) (i : ItemFacts) : Type 0 where
  pub item_is : i ≡ release_item number i.key
  pub early : from ≤ i.key
  pub late : i.key < until
  pub released : releases task i.key ≡ true
  pub quiet : IsQuiet task from i.key

-- this is the first release of a task from a tick on, if there is one
abbrev pub IsNext : (until number : ℕ) → PeriodicTask → (from : ℕ) → Option ItemFacts → Type 0
IsNext until number task from None = IsQuiet task from until
IsNext until number task from (Some i) = IsNextRelease until number task from i

-- the tick from which a task's next release counts, where the tasks before a place had their turn at a tick
abbrev pub from_tick : (tick place number : ℕ) → ℕ
from_tick tick place number = if nat_lt number place then suc tick else tick

-- The next release of each task is kept, and these jobs came before: those before a tick, and at the tick those of the
-- first tasks.
pub record StandsBehind (m : Merge) (done : List JobFacts) : Type 0 where
  pub limit : m.until ≤ last_tick_in Two
  pub size : length m.next ≡ length m.tasks
  pub tick : ℕ
  pub place : ℕ
  pub known : tick ≤ m.until
  pub within : place ≤ length m.tasks
  pub begun : tick ≡ m.until → place ≡ 0
  pub done_is : done ≡ jobs_before tick m.tasks ++ released_at tick (take place m.tasks)
  pub next : (n : ℕ) → n < length m.tasks
      → IsNext m.until n (get_or m.tasks n blank_task) (from_tick tick place n) (get_or m.next n None)
