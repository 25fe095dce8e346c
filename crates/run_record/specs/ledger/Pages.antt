-- What is kept of the running and the held jobs, and what each printed step does to it.
use Rattle.std.specs.Prelude.{ℕ, ◌+◌, ◌-◌, ◌^◌, ◌<◌, min, max, List, [], ◌∷◌, ◌++◌, length, set, ◌==◌}
use Rattle.std.specs.Prelude.{if◌then◌else◌, Option, Some, None, slice_index_or, Bool, true, false, fold}
use Rattle.std.specs.Option.{option_map, option_map_or, ForSome}
use Rattle.dover_model.specs.declared.events.Entry.{Entry}
use Rattle.dover_model.specs.declared.events.Event.{Event}
use Rattle.dover_model.specs.declared.events.Event.TheVariants.{Release, Run, Preempt, Take, Complete, Abandon, End}
use Rattle.dover_model.specs.declared.events.Role.TheVariants.{Coming}
use Rattle.dover_model.specs.Common.{entry_of, room_of, JobFacts, Each}
use Rattle.held_stack.specs.Stack.{Stack, top_of, value_of, popped}

-- the jobs by number, as they were when they last had the processor; the one that runs, as it was at a tick; and the
-- held ones
pub record Page : Type 0 where
  pub entries : List Entry
  pub since : ℕ
  pub turn : Option Entry
  pub held : Stack

-- no job
abbrev pub nobody : Entry
nobody = record { number = 0; deadline = 0; latest = 0; left = 0; value = 0 }

-- no job is held
abbrev pub empty : Stack
empty = record { held = []; spare = 0 }

-- with these jobs, none of which runs or is held
abbrev pub page_of : List Entry → Page
page_of entries = record { entries = entries; since = 0; turn = None; held = empty }

-- the job that a step releases, before it runs, as the one of this number
abbrev pub entries_by : ℕ → Event → List Entry
entries_by n (Release m job) = entry_of (record { number = n; job = job; role = Coming; had = 0 }) ∷ []
entries_by n _ = []

-- with that of one step more
abbrev pub with_entry : List Entry → Event → List Entry
with_entry entries e = entries ++ entries_by (length entries) e

-- the jobs that these steps release, before they run
abbrev pub entries_of : List Event → List Entry
entries_of run = fold with_entry [] run

-- a job that ran for so many ticks more
abbrev pub ran : ℕ → Entry → Entry
ran ticks e = record {
  number = e.number;
  deadline = e.deadline;
  latest = e.deadline - (e.left - ticks);
  left = e.left - ticks;
  value = e.value;
}

-- the job that runs, as it is at a tick
abbrev pub turn_at : Page → ℕ → Option Entry
turn_at p at = option_map (ran (at - p.since)) p.turn

-- the jobs with this one as it is
abbrev pub stored : List Entry → Option Entry → List Entry
stored entries None = entries
stored entries (Some e) = set entries e.number e

-- none runs from this tick on
abbrev pub stopped : Page → ℕ → Page
stopped p at = record p { entries = stored p.entries (turn_at p at); turn = None }

-- the job of this number runs from this tick on
abbrev pub started : Page → (at n : ℕ) → Page
started p at n = record p { since = at; turn = Some (slice_index_or p.entries n nobody) }

-- the held jobs with this one
abbrev pub with_hold : Stack → Option Entry → Stack
with_hold s None = s
with_hold s (Some e) = record { held = e ∷ s.held; spare = max s.spare 1 - 1 }

-- without the job of this number, if it is the one on top
abbrev pub without : ℕ → Stack → Option Entry → Stack
without n s None = s
without n s (Some e) = if e.number == n then popped s.held s.spare else s

-- after a printed step
abbrev pub with_event : Page → Event → Page
with_event p (Release n job) = p
with_event p (Run at n) = started (record p { held = without n p.held (top_of p.held.held) }) at n
with_event p (Preempt at stops starts) =
    started (record (stopped p at) { held = with_hold p.held (turn_at p at) }) at starts
with_event p (Take at stops starts) = started (record (stopped p at) { held = empty }) at starts
with_event p (Complete at n) = stopped p at
with_event p (Abandon at n) = p
with_event p (End value) = p

-- the room of the running and the held jobs at a tick, where one runs
abbrev pub room_with : ℕ → Stack → Option Entry → ℕ
room_with at s None = 0
room_with at s (Some e) = room_of at (e ∷ s.held)

-- what a fresh job's work is tested against at a step
abbrev pub room_on : Page → Event → ℕ
room_on p (Release n job) = room_with job.release p.held (turn_at p job.release)
room_on p (Preempt at stops starts) = room_with at p.held (turn_at p at)
room_on p _ = 0

-- a sum, as far as a word takes it
abbrev pub capped : ℕ → ℕ
capped n = min n (2 ^ 64 - 1)

-- the value of the job that runs
abbrev pub turn_value : Page → ℕ
turn_value p = option_map_or (λ e. e.value) p.turn 0

-- what the running and the held jobs are worth
abbrev pub worth : Page → ℕ
worth p = capped (turn_value p + value_of p.held.held)

-- no job is held
abbrev pub holds_none : Page → Bool
holds_none p = option_map_or (λ e. false) (top_of p.held.held) true

-- the value of the job that a step completes or abandons
abbrev pub value_on : Page → Event → ℕ
value_on p (Complete at n) = turn_value p
value_on p (Abandon at n) = (slice_index_or p.entries n nobody).value
value_on p _ = 0

-- ---- what a step asks of the page

-- this job can be put on top
pub record CanHold (s : Stack) (e : Entry) : Type 0 where
  pub first : Each (λ f. e.deadline < f.deadline) s.held
  pub total : value_of (e ∷ s.held) < 10 ^ 18

-- the job that runs can be stored
abbrev pub CanStop : Page → ℕ → Type 0
CanStop p at = ForSome (turn_at p at) (λ e. e.number < length p.entries)

-- and held
abbrev pub CanPreempt : Page → ℕ → Type 0
CanPreempt p at = ForSome (turn_at p at) (CanHold p.held)

-- the room can be asked for
abbrev pub CanWeigh : Page → ℕ → Type 0
CanWeigh p at = ForSome (turn_at p at) (λ e. Each (λ f. e.deadline < f.deadline) p.held.held)

-- the step can come next
abbrev pub IsReadable : Page → Event → Type 0
IsReadable p (Release n job) = CanWeigh p job.release
IsReadable p (Run at n) = Unit {0}
IsReadable p (Preempt at stops starts) = CanStop p at × CanPreempt p at
IsReadable p (Take at stops starts) = CanStop p at
IsReadable p (Complete at n) = CanStop p at
IsReadable p (Abandon at n) = Unit {0}
IsReadable p (End value) = Unit {0}

-- ---- what the jobs had

-- the ticks that a job of this number has had, by what is left of it
abbrev pub had_in : List Entry → ℕ × JobFacts → ℕ
had_in entries (n, j) = j.work - (slice_index_or entries n nobody).left
