-- What was read of a snapshot, and the feed for which it stands.
use Rattle.std.specs.Prelude.{◌≡◌, ℕ, ◌+◌, ◌≤◌, List, ◌∷◌, length, map, true, Some, None}
use Rattle.dover_model.specs.declared.events.Task.{Task}
use Rattle.dover_model.specs.Common.{Item, JobItem, RefusedItem, FinishItem, RefusedLine, RefusedJob, RefusedDone}
use Rattle.dover_model.specs.Common.{IsValidSession, IsNumberedFrom, Each, refused_of_item, admitted_jobs, mark_after}
use Rattle.dover_model.specs.Common.{jobs_of, FeedLine, JobLine, DoneLine, feed_text, Account, Open}
use Rattle.event_feed.specs.Reading.{rules_line}
use Rattle.snapshot.specs.Snapshot.{Head, head_line, stored_lines}
use Rattle.snapshot.specs.Reading.{Going, is_within_limits, stored, reading_of}

-- no refused line stands among the items
abbrev pub NoneRefused : List Item → Type 0
NoneRefused items = Each (λ i. refused_of_item i ≡ None) items

-- these lines are a first line within the limits, and those of what was handed in first, which is a valid session of
-- these jobs
pub record HasRead (h : Head) (items : List Item) (tasks : List Task) (ls : List (List ℕ)) : Type 0 where
  pub reads : reading_of ls ≡ Going h items tasks
  pub text : ls ≡ head_line h ∷ stored_lines items tasks
  pub limits : is_within_limits h ≡ true
  pub valid : IsValidSession (stored h items)
  pub good : NoneRefused items
  pub jobs : admitted_jobs items ≡ jobs_of tasks
  pub known : mark_after 0 items ≤ h.mark
  pub numbered : IsNumberedFrom 0 tasks
  pub count : length tasks ≤ h.jobs

-- ---- the shortest feed that hands that in

-- the line of the ratio
abbrev pub ratio_text : Head → List ℕ
ratio_text h = feed_text (rules_line h.rules)

-- a line that is refused
abbrev pub line_of_refused : RefusedLine → FeedLine
line_of_refused (RefusedJob j refusal) = JobLine j
line_of_refused (RefusedDone tick number) = DoneLine tick number

-- the line that hands in an item
abbrev pub line_of_item : Item → FeedLine
line_of_item (JobItem j) = JobLine j
line_of_item (RefusedItem r) = line_of_refused r.line
line_of_item (FinishItem f) = DoneLine f.at f.finish.number

-- the lines of these items
abbrev pub item_lines : List Item → List (List ℕ)
item_lines items = map (λ i. feed_text (line_of_item i)) items

-- the line of the ratio, and those of the items
abbrev pub fed_lines : Head → List Item → List (List ℕ)
fed_lines h items = ratio_text h ∷ item_lines items

-- their account
abbrev pub fed_account : Head → List Item → Account
fed_account h items = record {
  lines = length items + 1;
  session = Some (stored h items);
  mark = mark_after 0 items;
  standing = Open;
}
