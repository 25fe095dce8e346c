-- The state of a feed that is paused, as a text.
use Rattle.std.specs.Prelude.{◌≡◌, ℕ, List, [], ◌∷◌, ◌++◌, length, map, IsTrue, codes, decimal, None, Some}
use Rattle.dover_model.specs.declared.events.Role.{Role}
use Rattle.dover_model.specs.declared.events.Role.TheVariants.{Coming, Fresh, Waiting, Held, Running, Done, Gone}
use Rattle.dover_model.specs.declared.events.Task.{Task}
use Rattle.dover_model.specs.Common.{IsRatio, factor_numbers, Declaration, AreShort, Session, instance_of, IsDeclarable}
use Rattle.dover_model.specs.Common.{settled_state, rest_of, in_lines, line_of, with_numbers, job_numbers}
use Rattle.dover_model.specs.Common.{version_number, Account, account, is_open, Item, JobItem, RefusedItem, FinishItem}
use Rattle.dover_model.specs.Common.{DoneLine, feed_text}
use Rattle.event_feed.specs.Listing.{HasFewJobs}

-- the feed has declared its ratio, and has at most as many jobs as a snapshot lists; it is neither ended nor faulty,
-- and ends in a line feed
pub record MayPause (bytes : List ℕ) : Type 0 where
  pub declared : HasFewJobs (account bytes).session
  pub going_on : IsTrue (is_open (account bytes))
  pub whole : rest_of bytes ≡ []

-- the word for a role
abbrev pub role_word : Role → List ℕ
role_word Coming = codes "coming"
role_word Fresh = codes "fresh"
role_word Waiting = codes "waiting"
role_word Held = codes "held"
role_word Running = codes "running"
role_word Done = codes "done"
role_word Gone = codes "gone"

-- the line of a job: its number, its role, the ticks that it has had, and what it asks for
abbrev pub state_line : Task → List ℕ
state_line t = line_of (codes "state" ∷ decimal t.number ∷ role_word t.role ∷ map decimal (t.had ∷ job_numbers t.job))

-- the role is one of a job whose feed is paused
abbrev pub IsStored : Role → Type 0
IsStored Coming = ⊥
IsStored Fresh = ⊥
IsStored Waiting = Unit {0}
IsStored Held = Unit {0}
IsStored Running = Unit {0}
IsStored Done = Unit {0}
IsStored Gone = Unit {0}

-- the numbers of the line
abbrev pub state_numbers : Task → List ℕ
state_numbers t = t.number ∷ t.had ∷ job_numbers t.job

-- its role is one of those, and its numbers have numerals
pub record IsState (t : Task) : Type 0 where
  pub role : IsStored t.role
  pub short : AreShort (state_numbers t)

-- what the first line names
pub record Head : Type 0 where
  pub rules : Declaration
  pub lines : ℕ  -- how many the feed has so far
  pub mark : ℕ
  pub jobs : ℕ  -- how many were admitted

-- the numbers of the first line, behind the others those of a factor where there is one
abbrev pub head_numbers : Head → List ℕ
head_numbers h = version_number h.rules.version ∷ h.rules.ratio.p ∷ h.rules.ratio.q ∷ h.lines ∷ h.mark ∷ h.jobs
    ∷ factor_numbers h.rules.ratio.factor

-- the first line
abbrev pub head_line : Head → List ℕ
head_line h = with_numbers (codes "snapshot") (head_numbers h)

-- the ratio is one, a factor is declared from version Three on alone, and the numbers have numerals
pub record IsHead (h : Head) : Type 0 where
  pub ratio : IsRatio h.rules.ratio
  pub declared : IsDeclarable h.rules
  pub short : AreShort (head_numbers h)

-- what the first line names of a feed
abbrev pub head_of_feed : Account → Session → Head
head_of_feed a S = record { rules = S.rules; lines = a.lines; mark = a.mark; jobs = length (instance_of S).jobs }

-- the line of an early finish: that of the feed
abbrev pub done_line : (at number : ℕ) → List ℕ
done_line at number = feed_text (DoneLine at number)

-- the lines of what was handed in, in its order, where the jobs are in these states: that of each job, and that of each
-- early finish; what was refused has none
abbrev pub stored_lines : List Item → List Task → List (List ℕ)
stored_lines [] tasks = []
stored_lines (JobItem j ∷ items) [] = stored_lines items []
stored_lines (JobItem j ∷ items) (t ∷ tasks) = state_line t ∷ stored_lines items tasks
stored_lines (RefusedItem r ∷ items) tasks = stored_lines items tasks
stored_lines (FinishItem f ∷ items) tasks = done_line f.at f.finish.number ∷ stored_lines items tasks

-- the first line; those of what was handed in, with each job in the state that the settled steps lead to; the last line
abbrev pub snapshot_lines : Account → Session → List (List ℕ)
snapshot_lines a S = head_line (head_of_feed a S)
    ∷ stored_lines S.items (settled_state (instance_of S) a.mark).tasks ++ codes "resume" ∷ []

-- the snapshot of a feed that may pause
abbrev pub snapshot : List ℕ → List ℕ
snapshot bytes = elim (account bytes).session [ None ↦ [] | Some S ↦ in_lines (snapshot_lines (account bytes) S) ]
