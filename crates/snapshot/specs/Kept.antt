-- What a reader keeps of a snapshot, and for which lines it stands.
use Rattle.std.specs.Prelude.{◌≡◌, ℕ, ◌+◌, ◌-◌, List, [], ◌∷◌, ◌++◌, length, map, replicate, ◌≤◌, ◌<◌, ◌^◌, true}
use Rattle.std.specs.Prelude.{Option, Some, None, Result, Ok, Err, codes, slice_get, option_map}
use Rattle.dover_model.specs.declared.events.Event.{Event}
use Rattle.dover_model.specs.declared.events.Task.{Task}
use Rattle.dover_model.specs.Common.{JobFacts, most_lines, most_ready, IsValid, IsValidSession, with_jobs, Item}
use Rattle.dover_model.specs.Common.{FinishItem, EarlyFinish, mark_after, admitted_jobs, instance_of, TickLine}
use Rattle.dover_model.specs.Common.{feed_text, Account, Open, account_of_lines}
use Rattle.event_feed.specs.Answers.{AddsJob, counted}
use Rattle.event_feed.specs.declared.fed.Fed.{Fed}
use Rattle.event_feed.specs.declared.fed.Fed.TheVariants as fed
use Rattle.event_feed.specs.Kept as feed
use Rattle.snapshot.specs.Snapshot.{Head}
use Rattle.snapshot.specs.Reading.{Going, Taken, Refused, is_within_limits, stored, has_lines_for, is_settled}
use Rattle.snapshot.specs.Reading.{reading_of}
use Rattle.snapshot.specs.Stored.{HasRead, NoneRefused, fed_lines}
use Rattle.snapshot.specs.Forms.{head_in}
use Rattle.ready_server.specs.Serving as ready
use Rattle.ready_server.specs.Roster.{HasLine}
use Rattle.ready_server.specs.Roster as roster
use Rattle.ready_server.specs.Rostering.{Serves, Rests}
use Rattle.ready_server.specs.declared.server.ReadyServer.{ReadyServer}
use Rattle.snapshot.specs.declared.resuming.Stance.{Stance}
use Rattle.snapshot.specs.declared.resuming.Resuming.{Resuming}
use Rattle.snapshot.specs.declared.reader.Got.{Got}
use Rattle.snapshot.specs.declared.reader.Got.TheVariants.{More, Ready}
use Rattle.snapshot.specs.declared.reader.SnapFault.{SnapFault}
use Rattle.snapshot.specs.declared.reader.SnapFault.TheVariants.{BadSnapshot, Memory}

-- ---- the feed

-- the intake was handed the line of the ratio, and those of the items
pub record IsFed (i : feed.Kept) (h : Head) (items : List Item) : Type 0 where
  pub stands : feed.StandsFor i (fed_lines h items)
  pub going : feed.IsGoing i

-- the job that is offered, if one is
abbrev pub job_in : Fed → Option JobFacts
job_in (fed.Ratio k version) = None
job_in (fed.Job number job) = Some job
job_in (fed.Tick tick) = None
job_in fed.Over = None
job_in (fed.Refused release work deadline value refusal) = None
job_in (fed.Done tick number) = None

-- there is a line for one more, and room for a job wherever it is released
pub record HasRoom (h : Head) (items : List Item) : Type 0 where
  pub valid : IsValidSession (stored h items)
  pub good : NoneRefused items
  pub lines : length items + 2 ≤ most_lines h.rules.version
  pub few : length (admitted_jobs items) < most_ready

-- the line isn't at fault behind these, hands in no job, and doesn't end the feed
pub record IsGoodNext (i : feed.Kept) (ls : List (List ℕ)) (line : List ℕ) : Type 0 where
  pub stands : feed.StandsFor i ls
  pub good : (account_of_lines (ls ++ line ∷ [])).standing ≡ Open
  pub no_job : (n : ℕ) (job : JobFacts)
      → AddsJob n job (counted (account_of_lines ls)) (account_of_lines (ls ++ line ∷ [])) → ⊥

-- the finish of this job comes at this tick behind the items, and its line finds room
pub record IsRightAt (h : Head) (items : List Item) (at number : ℕ) (f : EarlyFinish) : Type 0 where
  pub tick : f.at ≡ at
  pub named : f.finish.number ≡ number
  pub valid : IsValidSession (stored h (items ++ FinishItem f ∷ []))
  pub good : NoneRefused items
  pub lines : length items + 2 ≤ most_lines h.rules.version

-- all was handed in, and where no line is left the mark is that behind it
pub record CanPause (h : Head) (items : List Item) : Type 0 where
  pub limits : is_within_limits h ≡ true
  pub valid : IsValidSession (stored h items)
  pub good : NoneRefused items
  pub few : length items + 1 ≤ h.lines
  pub known : mark_after 0 items ≤ h.mark
  pub reached : h.lines ≤ length items + 1 → h.mark ≤ mark_after 0 items

-- tick lines in place of all that are left of the feed's lines behind so many
abbrev pub tick_lines : Head → ℕ → List (List ℕ)
tick_lines h n = replicate (h.lines - n) (feed_text (TickLine h.mark))

-- the lines of what was handed in, and the tick lines
abbrev pub feed_lines : Head → List Item → List (List ℕ)
feed_lines h items = fed_lines h items ++ tick_lines h (length items + 1)

-- their account
abbrev pub paused_account : Head → List Item → Account
paused_account h items =
    record { lines = h.lines; session = Some (stored h items); mark = h.mark; standing = Open }

-- ---- the run

-- there is room for one job more, ready and in the roster
abbrev pub HasPlace : ReadyServer → roster.Kept → Type 0
HasPlace s k = ready.HasPlace s × HasLine k

-- what a job is, and how many ticks it has had
abbrev pub stance_of : Task → Stance
stance_of t = record { role = t.role; had = t.had }

-- a job may be admitted behind these items
pub record MayAdmit (h : Head) (items : List Item) (job : JobFacts) : Type 0 where
  pub ordered : mark_after 0 items ≤ job.release
  pub few : length (admitted_jobs items) < most_ready
  pub small : length items < 2 ^ 62
  pub valid : IsValid (with_jobs (instance_of (stored h items)) (job ∷ []))

-- what the job of this number is, and how many ticks it has had
abbrev pub IsAt : List Task → ℕ → Stance → Type 0
IsAt tasks n stance = option_map stance_of (slice_get tasks n) ≡ Some stance

-- what each job is, and how many ticks it has had
abbrev pub AreAt : List Task → List Stance → Type 0
AreAt tasks stances = map stance_of tasks ≡ stances

-- ---- what is kept

-- The server serves the run of what was handed in so far, up to where it was handed in last, beside a roster with room
-- for the finish of each job.
pub record IsServing (r : Resuming) (h : Head) (items : List Item) : Type 0 where
  pub handed : r.handed ≡ length items
  pub last : r.last ≡ mark_after 0 items
  pub events : List Event
  pub serves : Serves r.server r.roster (instance_of (stored h items)) r.last events
  pub room : length (admitted_jobs items) ≤ r.roster.finish_room

-- this is kept of a first line, and of what was handed in so far, with the jobs as they are stored
pub record Holds (r : Resuming) (h : Head) (items : List Item) (tasks : List Task) : Type 0 where
  pub head : head_in r.head ≡ h
  pub stances : r.stances.items ≡ map stance_of tasks
  pub fed : IsFed r.intake h items
  pub serving : IsServing r h items

-- these lines were read, of which none is refused, and the last line is still to come
abbrev pub IsReading : Option Resuming → List (List ℕ) → Type 0
IsReading None ls = ls ≡ []
IsReading (Some r) ls = (h : Head) × (items : List Item) × (tasks : List Task) × HasRead h items tasks ls
    × Holds r h items tasks

-- ---- at the last line

-- these lines are a whole snapshot
pub record IsWhole (h : Head) (items : List Item) (tasks : List Task) (ls : List (List ℕ)) : Type 0 where
  pub front : List (List ℕ)
  pub read : HasRead h items tasks front
  pub text : ls ≡ front ++ codes "resume" ∷ []
  pub reads : reading_of ls ≡ Taken h items tasks
  pub all : length tasks ≡ h.jobs
  pub lines : has_lines_for h items ≡ true
  pub settled : is_settled h items tasks ≡ true

-- The intake stands for the lines of that feed, and the server rests where it paused.
pub record Resumes (s : ReadyServer) (k : roster.Kept) (i : feed.Kept) (h : Head) (items : List Item) : Type 0 where
  pub stands : feed.StandsFor i (feed_lines h items)
  pub account : account_of_lines (feed_lines h items) ≡ paused_account h items
  pub going : feed.IsGoing i
  pub rests : Rests s k (instance_of (stored h items)) h.mark

-- these lines are a whole snapshot, and its run can be gone on with
abbrev pub IsReady : Option Resuming → List (List ℕ) → Type 0
IsReady None ls = ⊥
IsReady (Some r) ls =
    (h : Head) × (items : List Item) × (tasks : List Task) × IsWhole h items tasks ls × (head_in r.head ≡ h)
    × Resumes r.server r.roster r.intake h items

-- ---- what callers are told

-- no line so far is refused, and the last is still to come
abbrev pub IsGoing : List (List ℕ) → Type 0
IsGoing ls = (h : Head) × (items : List Item) × (tasks : List Task) × (reading_of ls ≡ Going h items tasks)

-- the answer to the last of these lines
abbrev pub Answers : Result Got SnapFault → Option Resuming → List (List ℕ) → Type 0
Answers (Ok More) kept ls = IsReading kept ls
Answers (Ok Ready) kept ls = IsReady kept ls
Answers (Err (BadSnapshot line)) kept ls = reading_of ls ≡ Refused line
Answers (Err Memory) kept ls = IsGoing ls

-- the answer to a first line
abbrev pub Begins : Result Resuming SnapFault → List ℕ → Type 0
Begins (Ok r) line = IsReading (Some r) (line ∷ [])
Begins (Err (BadSnapshot at)) line = reading_of (line ∷ []) ≡ Refused at
Begins (Err Memory) line = IsGoing (line ∷ [])
