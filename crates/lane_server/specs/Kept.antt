-- What is kept of the lines of the input, and for which lines it stands.
use Rattle.std.specs.Prelude.{◌≡◌, ◌≤◌, ◌<◌, ◌-◌, ◌⊎◌, ℕ, suc, List, [], ◌∷◌, ◌++◌, length, map, Bool, true, false}
use Rattle.std.specs.Prelude.{Option, Some, None, Result, Ok, Err, slice_get}
use Rattle.dover_model.specs.declared.events.Version.TheVariants.{Three}
use Rattle.dover_model.specs.Limits.{most_lines}
use Rattle.event_feed.specs.DueLines.{out_text, HasNumerals}
use Rattle.lane_server.specs.Lanes.{lane_count, OfLane, Close, lane_line, Handed, Input, Open, Closed, input_of_lines}
use Rattle.lane_server.specs.Lanes.{lane_lines, in_lane, newly_due, shorts_from}
use Rattle.event_feed.specs.declared.faults.Cause.TheVariants.{Short}
use Rattle.lane_server.specs.Lane.{Stands, IsQuiet, NamesFault}
use Rattle.event_feed.specs.declared.due_line.DueLine.{DueLine}
use Rattle.event_feed.specs.declared.due_line.DueLine.TheVariants.{Refused}
use Rattle.lane_server.specs.declared.lane.Lane.{Lane}
use Rattle.lane_server.specs.declared.lanes.Phase.{Phase}
use Rattle.lane_server.specs.declared.lanes.Phase.TheVariants.{Ready, Giving, Closing}
use Rattle.lane_server.specs.declared.lanes.LaneStep.{LaneStep}
use Rattle.lane_server.specs.declared.lanes.LaneStep.TheVariants as step
use Rattle.lane_server.specs.declared.lanes.LaneFault.{LaneFault}
use Rattle.lane_server.specs.declared.lanes.LaneFault.TheVariants as fault

-- how many lines came, the lanes, and what is under way
pub record Kept : Type 0 where
  pub lines : ℕ
  pub lanes : List Lane
  pub phase : Phase

-- every lane has given all that is due for its lines
abbrev pub AllQuiet : List Lane → List Handed → Type 0
AllQuiet lanes handed = (i : ℕ) (lane : Lane) → slice_get lanes i ≡ Some lane
    → IsQuiet lane (lane_lines handed i)

-- every lane was handed its lines
abbrev pub AllStand : List Lane → List Handed → Type 0
AllStand lanes handed = (i : ℕ) (lane : Lane) → slice_get lanes i ≡ Some lane
    → (rest : List (List ℕ)) × Stands lane (lane_lines handed i) rest

-- this lane has lines left, and every other has given all
pub record OneGives (lanes : List Lane)
    (handed : List Handed) (giving : ℕ) (left : List (List ℕ)) : Type 0 where
  pub within : giving < lane_count
  pub gives : (lane : Lane) → slice_get lanes giving ≡ Some lane
      → Stands lane (lane_lines handed giving) left
  pub others : (i : ℕ) (lane : Lane) → (i ≡ giving → ⊥) → slice_get lanes i ≡ Some lane
      → IsQuiet lane (lane_lines handed i)

-- by what is under way, these lines are left
abbrev pub Leaves : Phase → List Lane → Input → List (List ℕ) → Type 0
Leaves Ready lanes a rest = (a.standing ≡ Open) × (rest ≡ []) × AllQuiet lanes a.handed
Leaves (Giving lane) lanes a rest =
    (left : List (List ℕ)) × (a.standing ≡ Open) × (rest ≡ map (in_lane lane) left)
    × OneGives lanes a.handed lane left
Leaves (Closing next) lanes a rest =
    (a.standing ≡ Closed) × (next ≤ lane_count) × (rest ≡ shorts_from a.handed next (lane_count - next))
    × AllQuiet lanes a.handed

-- These lines were handed in, and these are left to give of what is due for them.
pub record StandsFor (kept : Kept) (ls rest : List (List ℕ))
    : Type 0 where
  pub counted : kept.lines ≡ (input_of_lines ls).lines
  pub count : length kept.lanes ≡ lane_count
  pub left : Leaves kept.phase kept.lanes (input_of_lines ls) rest

-- all that is due was given, and `close` didn't come
abbrev pub IsReady : Kept → Type 0
IsReady kept = kept.phase ≡ Ready

-- `close` came
abbrev pub is_closed : Kept → Bool
is_closed kept = elim kept.phase [ Ready ↦ false | Giving lane ↦ false | Closing next ↦ true ]

-- the input may have one line more
abbrev pub HasRoom : List (List ℕ) → Type 0
HasRoom ls = suc (input_of_lines ls).lines ≤ most_lines Three

-- the line is one of this lane, and what is newly due for it is left to give
pub record IsFed (lane : ℕ) (kept : Kept)
    (ls : List (List ℕ)) (bytes : List ℕ) : Type 0 where
  pub room : HasRoom ls
  pub line : List ℕ
  pub reads : lane_line bytes ≡ Some (OfLane lane line)
  pub stands : StandsFor kept (ls ++ bytes ∷ [])
      (newly_due (input_of_lines ls).handed (record { lane = lane; line = line }))
  pub going : is_closed kept ≡ false

-- the line is `close`, and a short line is left for each lane that has a line and is neither ended nor faulty
pub record IsClosed (kept : Kept) (ls : List (List ℕ))
    (bytes : List ℕ) : Type 0 where
  pub room : HasRoom ls
  pub reads : lane_line bytes ≡ Some Close
  pub stands : StandsFor kept (ls ++ bytes ∷ []) (shorts_from (input_of_lines ls).handed 0 lane_count)
  pub closed : is_closed kept ≡ true

-- the answer to a line behind these
abbrev pub Answers : Result LaneStep LaneFault → Kept → Kept
    → List (List ℕ) → List ℕ → Type 0
Answers (Ok (step.Fed lane)) old new ls bytes = IsFed lane new ls bytes
Answers (Ok step.Closed) old new ls bytes = IsClosed new ls bytes
Answers (Err fault.Lines) old new ls bytes = (most_lines Three < suc (input_of_lines ls).lines) × (new ≡ old)
Answers (Err fault.BadLane) old new ls bytes = HasRoom ls × (lane_line bytes ≡ None) × (new ≡ old)
Answers (Err fault.Memory) old new ls bytes =
    HasRoom ls × ((lane : ℕ) × (line : List ℕ) × (lane_line bytes ≡ Some (OfLane lane line)))

-- it says that the feed is short
abbrev pub SaysShort : DueLine → Type 0
SaysShort (Refused line cause) = cause ≡ Short
SaysShort _ = ⊥

-- The next line is the first of those left, can be written, and names the fault for which it refuses a feed that isn't
-- short. There is none exactly where none is left.
abbrev pub GivesNext : Option (ℕ × DueLine) → Kept → List (List ℕ)
    → List (List ℕ) → Type 0
GivesNext None kept ls rest = (rest ≡ []) × StandsFor kept ls []
GivesNext (Some given) kept ls rest =
    (more : List (List ℕ)) × (rest ≡ in_lane given.0 (out_text given.1) ∷ more)
    × StandsFor kept ls more
    × HasNumerals given.1
    × (NamesFault given.1 (lane_lines (input_of_lines ls).handed given.0) ⊎ SaysShort given.1)
