-- Many feeds in one input: what each lane is handed, and what is due for all of them.
use Rattle.std.specs.Prelude.{ℕ, suc, List, [], ◌∷◌, ◌++◌, length, map, drop, Bool, true, false, ◌==◌, nat_lt}
use Rattle.std.specs.Prelude.{if◌then◌else◌, Option, Some, None, codes, decimal, bytes_eq, fold, filter, flat_map}
use Rattle.std.specs.Prelude.{option_and_then}
use Rattle.std.specs.List.{list_all, range_with_len}
use Rattle.dover_model.specs.Common.{refused_line, most_lines, numeral, lines_of, whole_lines, is_too_long, fields_of}
use Rattle.dover_model.specs.Common.{in_lines, line_of, Account, account_of_lines, is_ended, due_lines, short_lines}
use Rattle.dover_model.specs.declared.events.Version.TheVariants.{Three}

-- how many lanes there are
abbrev pub lane_count : ℕ
lane_count = 64

-- ---- the lines of the input

-- a line of a lane's feed, or the end of the session
pub data LaneLine : Type 0 where
  OfLane : (lane : ℕ) → List ℕ → LaneLine
  Close : LaneLine

-- the line of a lane, if there is such a lane
abbrev pub of_lane : List ℕ → ℕ → Option LaneLine
of_lane line lane = if nat_lt lane lane_count then Some (OfLane lane line) else None

-- a lane's number, and behind one space a line of its feed, which may be empty
abbrev pub numbered_line : List (List ℕ) → Option LaneLine
numbered_line [] = None
numbered_line (lane ∷ []) = None
numbered_line (lane ∷ field ∷ fields) = option_and_then (of_lane (line_of (field ∷ fields))) (numeral lane)

-- the line that these bytes spell, if they do
abbrev pub lane_line : List ℕ → Option LaneLine
lane_line bytes = if is_too_long bytes then None else
    (if bytes_eq bytes (codes "close") then Some Close else numbered_line (fields_of bytes))

-- ---- what the input says

-- what is wrong with the input as a whole
pub data InputFault : Type 0 where
  TooManyLines : InputFault
  BadLane : InputFault

-- whether the session goes on
pub data InputStanding : Type 0 where
  Open : InputStanding
  Closed : InputStanding
  Faulty : (line : ℕ) → InputFault → InputStanding

-- a line that a lane is handed
pub record Handed : Type 0 where
  pub lane : ℕ
  pub line : List ℕ

-- what the lines so far say, up to `close` or the first fault of the whole input
pub record Input : Type 0 where
  pub lines : ℕ
  pub handed : List Handed  -- in order
  pub standing : InputStanding

-- a lane has a line
abbrev pub HasLine : List Handed → Type 0
HasLine [] = ⊥
HasLine (h ∷ handed) = Unit {0}

-- the input of no lines
abbrev pub no_input : Input
no_input = record { lines = 0; handed = []; standing = Open }

-- the input with a good line
abbrev pub with_lane_line : Input → LaneLine → Input
with_lane_line a (OfLane lane line) = record a { handed = a.handed ++ record { lane = lane; line = line } ∷ [] }
with_lane_line a Close = record a { standing = Closed }

-- the input with a line that is counted already
abbrev pub read_lane_line : Input → List ℕ → Input
read_lane_line a bytes =
    if nat_lt (most_lines Three) a.lines then record a { standing = Faulty a.lines TooManyLines } else
    elim (lane_line bytes) [ None ↦ record a { standing = Faulty a.lines BadLane } | Some line ↦ with_lane_line a line ]

-- neither closed nor faulty
abbrev pub goes_on_at : InputStanding → Bool
goes_on_at s = elim s [ Open ↦ true | Closed ↦ false | Faulty line fault ↦ false ]

-- so is the input
abbrev pub goes_on : Input → Bool
goes_on a = goes_on_at a.standing

-- the next line; after `close` or a fault, lines are disregarded
abbrev pub next_line : Input → List ℕ → Input
next_line a bytes = if goes_on a then read_lane_line (record a { lines = suc a.lines }) bytes else a

-- what the lines say
abbrev pub input_of_lines : List (List ℕ) → Input
input_of_lines ls = fold next_line no_input ls

-- what the bytes say
abbrev pub input : List ℕ → Input
input bytes = input_of_lines (lines_of bytes)

-- ---- what is due

-- the lines of a lane's feed
abbrev pub lane_lines : List Handed → ℕ → List (List ℕ)
lane_lines handed lane = map (λ h. h.line) (filter (λ h. h.lane == lane) handed)

-- what a lane's feed says
abbrev pub lane_account : List Handed → ℕ → Account
lane_account handed lane = account_of_lines (lane_lines handed lane)

-- a line with its lane in front
abbrev pub in_lane : ℕ → List ℕ → List ℕ
in_lane lane line = line_of (decimal lane ∷ line ∷ [])

-- what is due for a feed's further line, after these, that wasn't due before it
abbrev pub lines_added : List (List ℕ) → List ℕ → List (List ℕ)
lines_added before line =
    drop (length (due_lines (account_of_lines before))) (due_lines (account_of_lines (before ++ line ∷ [])))

-- the same for a lane
abbrev pub newly_due : List Handed → Handed → List (List ℕ)
newly_due before h = map (in_lane h.lane) (lines_added (lane_lines before h.lane) h.line)

-- what is due for these lines, after those before them
abbrev pub due_after : List Handed → List Handed → List (List ℕ)
due_after before [] = []
due_after before (h ∷ handed) = newly_due before h ++ due_after (before ++ h ∷ []) handed

-- the text that is due for these bytes of the input
abbrev pub lane_due : List ℕ → List ℕ
lane_due bytes = in_lines (due_after [] (input bytes).handed)

-- ---- the closing lines

-- a feed that has a line and is neither ended nor faulty is short
abbrev pub feed_short : List (List ℕ) → List (List ℕ)
feed_short [] = []
feed_short (l ∷ ls) = short_lines (length (l ∷ ls)) (account_of_lines (l ∷ ls))

-- the same for a lane
abbrev pub lane_short : List Handed → ℕ → List (List ℕ)
lane_short handed lane = map (in_lane lane) (feed_short (lane_lines handed lane))

-- what `close` adds for the lanes from this one on
unfoldable pub shorts_from : List Handed → ℕ → ℕ → List (List ℕ)
shorts_from handed lane more = flat_map (lane_short handed) (range_with_len lane more)

-- the word for a fault of the whole input
abbrev pub fault_word : InputFault → List ℕ
fault_word TooManyLines = codes "lines"
fault_word BadLane = codes "lane"

-- the last lines, where the input has so many whole lines
abbrev pub closing_lines : ℕ → Input → List (List ℕ)
closing_lines whole a = elim a.standing [
  | Open ↦ refused_line (suc whole) (codes "short") ∷ []
  | Closed ↦ shorts_from a.handed 0 lane_count
  | Faulty line fault ↦ refused_line line (fault_word fault) ∷ []
]

-- what is due at the end of the session
abbrev pub lanes_closed : List ℕ → List ℕ
lanes_closed bytes = lane_due bytes ++ in_lines (closing_lines (length (whole_lines bytes)) (input bytes))

-- the feed has no line, or it is ended without a fault
abbrev pub is_fine : List (List ℕ) → Bool
is_fine [] = true
is_fine (l ∷ ls) = is_ended (account_of_lines (l ∷ ls))

-- each lane that has a line is ended without a fault
unfoldable pub all_ended : List Handed → Bool
all_ended handed = list_all (λ lane. is_fine (lane_lines handed lane)) (range_with_len 0 lane_count)
