-- Where the schedule by earliest deadline stands at a tick.
use Rattle.std.specs.Prelude.{◌≡◌, ℕ, ◌+◌, ◌-◌, ◌*◌, ◌≤◌, ◌<◌, ◌⊎◌, List, ◌++◌, length, drop, ◌==◌, ◌&&◌, cond, IsTrue}
use Rattle.std.specs.Prelude.{Bool, Option, None, Some, slice_get, nat_lt, min, if◌then◌else◌, sum_by, count_by}
use Rattle.std.specs.List.{enumerate_from}
use Rattle.dover_model.specs.Common.{last_tick, JobFacts, IsJob, is_served, left, IsMember, Each, IsNumberedFrom}
use Rattle.dover_model.specs.Common.{jobs_of, IsOverfull, is_inside, work_inside, stretches, edf, edf_from}
use Rattle.dover_model.specs.Common.{last_release, most_work}
use Rattle.dover_model.specs.declared.events.Task.{Task}
use Rattle.dover_model.specs.declared.pieces.Piece.{Piece}
use Rattle.clairvoyant.specs.declared.feasible.simulation.Simulation.{Simulation}
use Rattle.clairvoyant.specs.feasible.Feasibility.{IsDeadline}
use Rattle.clairvoyant.specs.feasible.Queue.{Kept}

-- whether a stretch goes on with the piece: it is of the same job, and ends as the piece begins
abbrev pub goes_on : Piece → Piece → Bool
goes_on p last = (last.number == p.number) && (last.until == p.from)

-- the ticks that the jobs inside the window from a to d have had
abbrev pub had_inside : ℕ → ℕ → List Task → ℕ
had_inside a d tasks = sum_by (λ t. cond (is_inside a d t.job) t.had 0) tasks

-- since some tick only jobs that are released then or later and due by d have run, and of those due by d the earlier
-- ones are done
pub record IsBusy (d clock : ℕ) (tasks : List Task) : Type 0 where
  pub since : ℕ
  pub past : since ≤ clock
  pub filled : clock ≤ since + had_inside since d tasks
  pub clean : Each (λ t. t.job.release < since → t.job.deadline ≤ d → left t ≡ 0) tasks

-- the schedule by earliest deadline begins with these ticks, and the tasks say what the jobs have had of them
pub record HasCome (jobs : List JobFacts) (clock : ℕ) (so_far : List ℕ) (tasks : List Task) : Type 0 where
  pub numbered : IsNumberedFrom 0 tasks
  pub of_jobs : jobs_of tasks ≡ jobs
  pub at_most : Each (λ t. t.had ≤ t.job.work) tasks
  pub had : Each (λ t. count_by (λ m. m == t.number) (drop t.job.release so_far) ≡ t.had) tasks
  pub ticks : length so_far ≡ clock
  pub more : ℕ
  pub rest : edf jobs ≡ so_far ++ edf_from more clock tasks
  pub enough : last_release jobs - clock + sum_by left tasks ≤ more
  pub busy : (d : ℕ) → IsBusy d clock tasks

-- what a ready job is kept as
abbrev pub kept_as : Task → Kept
kept_as t = ((t.job.deadline, t.number), left t)

-- kept are the jobs of number below `released` that aren't done
pub record AreReady (released : ℕ) (kept : List Kept) (tasks : List Task) : Type 0 where
  pub each : Each (λ e. (t : Task) × IsMember t tasks × (t.number < released) × (1 ≤ left t) × (e ≡ kept_as t)) kept
  pub all : Each (λ t. t.number < released → 1 ≤ left t → IsMember (kept_as t) kept) tasks

-- the jobs of number below `released` are released by now, and no other is released before the tick `from`
pub record AreReleased (released clock from : ℕ) (tasks : List Task) : Type 0 where
  pub past : Each (λ t. t.number < released → (t.job.release ≤ clock) × IsJob t.job) tasks
  pub ahead : Each (λ t. released ≤ t.number → from ≤ t.job.release) tasks

-- the deadline is no sooner than the late one
abbrev pub IsLateBy : Option ℕ → ℕ → Type 0
IsLateBy None d = ⊥
IsLateBy (Some b) d = b ≤ d

-- the late deadline with one more, where a job that is due then is done at this tick at the earliest
abbrev pub with_late : Option ℕ → (deadline done : ℕ) → Option ℕ
with_late None deadline done = if nat_lt deadline done then Some deadline else None
with_late (Some b) deadline done = if nat_lt deadline done then Some (min b deadline) else Some b

-- the late deadline is a job's, and some window to it is overfull
abbrev pub IsShown : List JobFacts → Option ℕ → Type 0
IsShown jobs None = Unit {0}
IsShown jobs (Some b) = IsDeadline jobs b × ((a : ℕ) × IsOverfull jobs a b (work_inside jobs a b))

-- each job that is done is served, or due no sooner than the late deadline
abbrev pub AreServed : Option ℕ → List ℕ → List Task → Type 0
AreServed late s tasks =
    Each (λ t. left t ≡ 0 → IsTrue (is_served s (t.number, t.job)) ⊎ IsLateBy late t.job.deadline) tasks

-- the simulation has come to the tick `clock`, and no job that isn't counted as released is released before the tick
-- `from`
pub record Stands (jobs : List JobFacts) (clock released : ℕ) (kept : List Kept) (pieces : List Piece)
    (late : Option ℕ)
    (from : ℕ) : Type 0 where
  pub tasks : List Task
  pub so_far : List ℕ
  pub come : HasCome jobs clock so_far tasks
  pub ready : AreReady released kept tasks
  pub releases : AreReleased released clock from tasks
  pub stretch : pieces ≡ stretches so_far
  pub served : AreServed late so_far tasks
  pub shown : IsShown jobs late
  pub few : released ≤ length jobs
  pub soon : clock + sum_by (λ e. e.1) kept ≤ last_tick + most_work * released

-- the same of a simulation
abbrev pub StandsAt : List JobFacts → Simulation → (from : ℕ) → Type 0
StandsAt jobs s from = Stands jobs s.clock s.queue.released s.queue.kept s.pieces.items s.late from

-- the pieces and the ready jobs together are at most twice as many as the jobs that are released
abbrev pub HasFew : Simulation → Type 0
HasFew s = length s.pieces.items + length s.queue.kept ≤ 2 * s.queue.released

-- the next job is released by now
abbrev pub IsPending : List JobFacts → (clock released : ℕ) → Type 0
IsPending jobs clock released = (j : JobFacts) × (slice_get jobs released ≡ Some j) × (j.release ≤ clock)

-- no job that isn't counted as released is released before the tick `from`
abbrev pub NoneBefore : List JobFacts → (from released : ℕ) → Type 0
NoneBefore jobs from released = (length jobs ≤ released)
    ⊎ ((j : JobFacts) × (slice_get jobs released ≡ Some j) × (from ≤ j.release))

-- how far a job runs that has l ticks left: to its end, or to the next release
pub record RunsUntil (jobs : List JobFacts) (clock released l until : ℕ) : Type 0 where
  pub some : clock < until
  pub within : until ≤ clock + l
  pub none : NoneBefore jobs until released
  pub ends : (until ≡ clock + l) ⊎ IsPending jobs until released

-- the simulation has come to the end
pub record IsWhole (jobs : List JobFacts) (pieces : List Piece) (late : Option ℕ) : Type 0 where
  pub stretch : pieces ≡ stretches (edf jobs)
  pub count : length pieces ≤ 2 * length jobs
  pub served : Each (λ n_j. IsTrue (is_served (edf jobs) n_j) ⊎ IsLateBy late n_j.1.deadline) (enumerate_from 0 jobs)
  pub shown : IsShown jobs late
