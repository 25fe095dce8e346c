-- What is kept of a snapshot while it is read, and how far a piece leads.
use Rattle.std.specs.Prelude.{◌≡◌, ◌≤◌, ◌<◌, ℕ, List, [], ◌++◌, length, take, false, Option, Result, Ok, Err}
use Rattle.dover_model.specs.Lines.{lines_of, rest_of, is_too_long}
use Rattle.snapshot.specs.Reading.{Refused, reading_of}
use Rattle.snapshot.specs.Kept.{IsReading, IsReady, IsGoing}
use Rattle.snapshot.specs.Spending.{jobs_read, jobs_kept}
use Rattle.snapshot.specs.declared.resuming.Resuming.{Resuming}
use Rattle.snapshot.specs.declared.reader.Got.{Got}
use Rattle.snapshot.specs.declared.reader.Got.TheVariants.{More, Ready}
use Rattle.snapshot.specs.declared.reader.SnapFault.{SnapFault}
use Rattle.snapshot.specs.declared.reader.SnapFault.TheVariants.{BadSnapshot, Memory}
use Rattle.line_text.specs.Cutting.{StandsFor}
use Rattle.feed_words.specs.declared.resume.opening.Opening.{Opening}

-- No line of these bytes is refused, and the last line of the snapshot is still to come.
pub record OpeningStands (o : Opening) (x : List ℕ) : Type 0 where
  pub cut : StandsFor o.lines x
  pub short : is_too_long (rest_of x) ≡ false
  pub reads : IsReading o.reader (lines_of x)

-- These bytes are a whole snapshot.
abbrev pub IsWholeAt : Opening → List ℕ → Type 0
IsWholeAt o x = (rest_of x ≡ []) × IsReady o.reader (lines_of x)

-- by the answer to the last byte
abbrev pub Takes : Result Got SnapFault → Opening → List ℕ → Type 0
Takes (Ok More) o x = OpeningStands o x
Takes (Ok Ready) o x = IsWholeAt o x
Takes (Err (BadSnapshot at)) o x = reading_of (lines_of x) ≡ Refused at
Takes (Err Memory) o x = IsGoing (lines_of x)

-- by the front of a piece behind x that was taken
abbrev pub TakesFront : Result (ℕ × Got) SnapFault → Opening → List ℕ → List ℕ → Type 0
TakesFront (Ok front) o x bytes =
    (0 < front.0) × (front.0 ≤ length bytes) × Takes (Ok front.1) o (x ++ take front.0 bytes)
TakesFront (Err fault) o x bytes = (n : ℕ) × (n ≤ length bytes) × Takes (Err fault) o (x ++ take n bytes)

-- no more jobs are served again than a front of these bytes behind x has
abbrev pub HasFewOf : Option Resuming → List ℕ → List ℕ → Type 0
HasFewOf kept x bytes =
    (n : ℕ) × (n ≤ length bytes) × (jobs_kept kept ≤ jobs_read (reading_of (lines_of (x ++ take n bytes))))
