-- What is kept of the bytes of a feed.
use Rattle.std.specs.Prelude.{◌≡◌, ◌<◌, ◌≤◌, ℕ, List, [], ◌∷◌, ◌++◌, length, take, Option, Some, None, Result, Ok, Err}
use Rattle.dover_model.specs.declared.Memory.{Memory}
use Rattle.dover_model.specs.Common.{due_lines, account, lines_of}
use Rattle.line_text.specs.Cutting as cutting
use Rattle.event_feed.specs.DueLines.{out_text, HasNumerals}
use Rattle.lane_server.specs.Lane.{IsDeclared, Stands, IsQuiet, NamesFault}
use Rattle.lane_server.specs.declared.feed.Feed.{Feed}
use Rattle.event_feed.specs.declared.due_line.DueLine.{DueLine}

-- The server was handed the lines of these bytes, and these lines are left to give.
pub record FeedStands (feed : Feed) (bytes : List ℕ)
    (left : List (List ℕ)) : Type 0 where
  pub cut : cutting.StandsFor feed.lines bytes
  pub lane : Stands feed.lane (lines_of bytes) left

-- all lines that are due for these bytes were given
pub record FeedRests (feed : Feed) (bytes : List ℕ) : Type 0
  where
    pub cut : cutting.StandsFor feed.lines bytes
    pub lane : IsQuiet feed.lane (lines_of bytes)

-- What these bytes behind x add to what is due is left to give; or there was no memory, behind the ratio line.
abbrev pub Hands : Feed → List ℕ → List ℕ → Result (Unit {0}) Memory → Type 0
Hands feed x bytes (Ok y) = (left : List (List ℕ))
    × (due_lines (account (x ++ bytes)) ≡ due_lines (account x) ++ left)
    × FeedStands feed (x ++ bytes) left
Hands feed x bytes (Err e) = IsDeclared (account (x ++ bytes))

-- so many bytes of the piece behind x were taken; or there was no memory, behind the ratio line
abbrev pub Takes : Feed → List ℕ → List ℕ → Result ℕ Memory → Type 0
Takes feed x piece (Ok n) =
    (0 < n) × (n ≤ length piece) × Hands feed x (take n piece) (Ok tt)
Takes feed x piece (Err e) = IsDeclared (account (x ++ piece))

-- it gives the first of the lines that are left, if one is
abbrev pub FeedGives : Option DueLine → Feed → List ℕ → List (List ℕ) → Type 0
FeedGives None feed x left = (left ≡ []) × FeedRests feed x
FeedGives (Some out) feed x left = (more : List (List ℕ)) × (left ≡ out_text out ∷ more)
    × FeedStands feed x more × HasNumerals out × NamesFault out (lines_of x)
