-- What is kept of the bytes of an input of lanes, and for which bytes it stands.
use Rattle.std.specs.Prelude.{◌≡◌, ◌≤◌, ◌<◌, ◌⊎◌, ℕ, suc, List, [], ◌∷◌, ◌++◌, length, take, true, Option, Some, None}
use Rattle.std.specs.Prelude.{Result, Ok, Err, codes}
use Rattle.dover_model.specs.declared.Memory.{Memory}
use Rattle.dover_model.specs.declared.events.Version.TheVariants.{Three}
use Rattle.dover_model.specs.Common.{most_lines, whole_lines, lines_of, refused_line}
use Rattle.line_text.specs.Cutting as cuts
use Rattle.event_feed.specs.DueLines.{out_text, HasNumerals}
use Rattle.lane_server.specs.Lanes as lanes
use Rattle.lane_server.specs.Lanes.{lane_count, Handed, InputStanding, Open, Closed, Faulty, HasLine, goes_on, input}
use Rattle.lane_server.specs.Lanes.{input_of_lines, lane_lines, in_lane, due_after, shorts_from, fault_word}
use Rattle.lane_server.specs.Lanes.{closing_lines}
use Rattle.lane_server.specs.Lane.{NamesFault}
use Rattle.lane_server.specs.Kept.{Kept, StandsFor, AllStand, IsReady, SaysShort}
use Rattle.event_feed.specs.declared.due_line.DueLine.{DueLine}
use Rattle.lane_server.specs.declared.refusal.InputRefusal.{InputRefusal}
use Rattle.lane_server.specs.declared.refusal.InputRefusal.TheVariants.{Short, TooManyLines, BadLane}
use Rattle.lane_server.specs.declared.lane_input.RefusedInput.{RefusedInput}
use Rattle.lane_server.specs.declared.lane_input.LaneInput.{LaneInput}

-- ---- why the input is refused if no more of it comes

-- the word
abbrev pub word_of : InputRefusal → List ℕ
word_of Short = codes "short"
word_of TooManyLines = fault_word lanes.TooManyLines
word_of BadLane = fault_word lanes.BadLane

-- how the input stands behind so many good lines
abbrev pub standing_of : ℕ → Option InputRefusal → InputStanding
standing_of lines None = Closed
standing_of lines (Some Short) = Open
standing_of lines (Some TooManyLines) = Faulty (suc lines) lanes.TooManyLines
standing_of lines (Some BadLane) = Faulty (suc lines) lanes.BadLane

-- ---- what is kept

-- These lines are left to give, by how the input stands. Where it was closed, the short lines are besides. At a fault
-- each lane was handed its lines.
abbrev pub LeavesAt : InputStanding → Kept → List (List ℕ) → List (List ℕ)
    → Type 0
LeavesAt Open kept ls left = StandsFor kept ls left
LeavesAt Closed kept ls left =
    (left ≡ []) × StandsFor kept ls (shorts_from (input_of_lines ls).handed 0 lane_count)
LeavesAt (Faulty line fault) kept ls left = (left ≡ []) × (kept.lines ≤ most_lines Three)
    × (length kept.lanes ≡ lane_count) × AllStand kept.lanes (input_of_lines ls).handed

-- These lines came, of which the lanes took the good ones, and these are left to give of what is due for them.
pub record Holds (refusal : Option InputRefusal) (kept : Kept)
    (ls left : List (List ℕ)) : Type 0 where
  pub stands : (input_of_lines ls).standing ≡ standing_of kept.lines refusal
  pub leaves : LeavesAt (input_of_lines ls).standing kept ls left

-- These bytes came, and these lines are left to give of what is due for them.
pub record Stands (i : LaneInput) (x : List ℕ)
    (left : List (List ℕ)) : Type 0 where
  pub cut : cuts.StandsFor i.lines x
  pub holds : Holds i.refusal i.lanes (lines_of x) left

-- all was given
pub record Rests (i : LaneInput) (x : List ℕ) : Type 0 where
  pub stands : Stands i x []
  pub ready : goes_on (input x) ≡ true → IsReady i.lanes

-- ---- what the calls do

-- these lines are newly due
abbrev pub Grows : List Handed → List Handed → List (List ℕ) → Type 0
Grows before after left = due_after [] after ≡ due_after [] before ++ left

-- What a line behind these adds to what is due is left to give; or there was no memory for a line of a lane.
abbrev pub Hands : Kept → List (List ℕ) → List ℕ
    → Result (Option InputRefusal) Memory → Type 0
Hands kept ls line (Ok refusal) = (left : List (List ℕ))
    × Grows (input_of_lines ls).handed (input_of_lines (ls ++ line ∷ [])).handed left
    × Holds refusal kept (ls ++ line ∷ []) left
Hands kept ls line (Err e) = HasLine (input_of_lines (ls ++ line ∷ [])).handed

-- What bytes behind x add to what is due is left to give.
abbrev pub HasMore : LaneInput → List ℕ → List ℕ → Type 0
HasMore i x bytes = (left : List (List ℕ))
    × Grows (input x).handed (input (x ++ bytes)).handed left × Stands i (x ++ bytes) left

-- So it is once this is why the input would be refused; or there was no memory for a line of a lane.
abbrev pub Adds : LaneInput → List ℕ → List ℕ
    → Result (Option InputRefusal) Memory → Type 0
Adds i x bytes (Ok refusal) = HasMore (record i { refusal = refusal }) x bytes
Adds i x bytes (Err e) = HasLine (input (x ++ bytes)).handed

-- so many bytes of the piece were taken, or there was no memory for a line of a lane
abbrev pub Takes : LaneInput → List ℕ → List ℕ → Result ℕ Memory → Type 0
Takes i x piece (Ok count) =
    (0 < count) × (count ≤ length piece) × HasMore i x (take count piece)
Takes i x piece (Err e) = HasLine (input (x ++ piece)).handed

-- The next line is the first of those left, can be written, and names the fault for which it refuses a feed that isn't
-- short. There is none exactly where none is left.
abbrev pub GivesDue : Option (ℕ × DueLine) → LaneInput → List ℕ
    → List (List ℕ) → Type 0
GivesDue None i x left = (left ≡ []) × Rests i x
GivesDue (Some given) i x left =
    (more : List (List ℕ)) × (left ≡ in_lane given.0 (out_text given.1) ∷ more) × Stands i x more
    × HasNumerals given.1
    × (NamesFault given.1 (lane_lines (input x).handed given.0) ⊎ SaysShort given.1)

-- the lanes with the short lines that `close` added, or the line that refuses the input
abbrev pub Ends : Result Kept RefusedInput → List ℕ → Type 0
Ends (Ok kept) x = ((input x).standing ≡ Closed)
    × StandsFor kept (lines_of x) (shorts_from (input x).handed 0 lane_count)
Ends (Err refused) x = ((input x).standing ≡ Closed → ⊥)
    × (closing_lines (length (whole_lines x)) (input x) ≡ refused_line refused.line (word_of refused.cause) ∷ [])
