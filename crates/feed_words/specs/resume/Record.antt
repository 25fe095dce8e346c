-- What the moves of a call come to that reads a snapshot, and serves the feed of which it is on.
use Rattle.std.specs.Prelude.{◌≡◌, Bool, ℕ, suc, List, [], ◌∷◌, ◌++◌, length, true, false, ◌⊎◌, codes}
use Rattle.dover_model.specs.Common.{in_lines, lines_of, whole_lines, Begins, account, CostsAtMost, refused_line}
use Rattle.event_feed.specs.Answers.{admitted_in}
use Rattle.dover_port.specs.Moves.{Move, ins, outs, has_ended, EachRead, IsProperPrefix}
use Rattle.dover_port.specs.declared.status.Status.{Status}
use Rattle.dover_port.specs.declared.status.Status.TheVariants.{Refused, ReadFault, WriteFault, Memory}
use Rattle.dialogue.specs.Talk as talk
use Rattle.snapshot.specs.Snapshot.{MayPause, snapshot}
use Rattle.snapshot.specs.Reading as reading
use Rattle.snapshot.specs.Reading.{Reading, Begun, Going, Taken, reading_of}
use Rattle.snapshot.specs.Kept.{IsGoing}
use Rattle.snapshot.specs.Spending.{jobs_read}
use Rattle.feed_words.specs.serve.Keeping.{serve_talk}
use Rattle.feed_words.specs.declared.serve.at_end.AtEnd.{AtEnd}

-- ---- what was read

-- no line is refused, and the last line of the snapshot is still to come
abbrev pub is_part : Reading → Bool
is_part Begun = true
is_part (Going h items tasks) = true
is_part (Taken h items tasks) = false
is_part (reading.Refused line) = false

-- so do the lines of these bytes
abbrev pub IsPart : List ℕ → Type 0
IsPart x = is_part (reading_of (lines_of x)) ≡ true

-- The bytes are the snapshot of a feed and what follows it, and of each feed with this snapshot, and what follows, T
-- holds.
pub record Behind (x : List ℕ) (T : List ℕ → List ℕ → Type 0) : Type 0 where
  pub feed : List ℕ
  pub more : List ℕ
  pub may : MayPause feed
  pub read : x ≡ snapshot feed ++ more
  pub each : (F H : List ℕ) → MayPause F → x ≡ snapshot F ++ H → T F H

-- Before a read: the snapshot is still to be read on, and nothing was put; or what serving its feed on allows.
abbrev pub MayRead : AtEnd → List ℕ → List ℕ → Type 0
MayRead at_end got put =
    (IsPart got × (put ≡ [])) ⊎ Behind got (λ F H. talk.MayRead (serve_talk at_end F) H put)

-- the line that refuses a snapshot
abbrev pub refused_text : ℕ → List ℕ
refused_text at = in_lines (refused_line at (codes "snapshot") ∷ [])

-- This line is the first that no snapshot has there, or it is missing where the input ended.
abbrev pub IsRefusedFor : ℕ → List Move → Type 0
IsRefusedFor at moves = ((front : List ℕ) × Begins front (ins moves)
    × (reading_of (lines_of front) ≡ reading.Refused at))
    ⊎ ((has_ended moves ≡ true) × IsPart (ins moves) × (at ≡ suc (length (whole_lines (ins moves)))))

-- ---- by the status, before the snapshot is whole

-- a line of it was refused, and this was written
pub record IsRefusedSnapshot (moves : List Move) : Type 0 where
  pub at : ℕ
  pub cause : IsRefusedFor at moves
  pub text : outs moves ≡ refused_text at

-- a read failed, and nothing was put
pub record IsUnreadSnapshot (moves : List Move) : Type 0 where
  pub unended : has_ended moves ≡ false
  pub part : IsPart (ins moves)
  pub text : outs moves ≡ []

-- a write failed: the line that refuses it wasn't put whole
pub record IsUnwrittenRefusal (moves : List Move) : Type 0 where
  pub at : ℕ
  pub cause : IsRefusedFor at moves
  pub part : IsProperPrefix (outs moves) (refused_text at)

-- there was no memory behind a line of it, none up to which is refused
pub record IsOutOfMemoryBefore (moves : List Move) : Type 0 where
  pub unended : has_ended moves ≡ false
  pub front : List ℕ
  pub begins : Begins front (ins moves)
  pub going : IsGoing (lines_of front)
  pub text : outs moves ≡ []

abbrev pub EndsBefore : Status → List Move → Type 0
EndsBefore Refused moves = IsRefusedSnapshot moves
EndsBefore ReadFault moves = IsUnreadSnapshot moves
EndsBefore WriteFault moves = IsUnwrittenRefusal moves
EndsBefore Memory moves = IsOutOfMemoryBefore moves
EndsBefore _ moves = ⊥

-- ---- the whole call

-- how it ends: before the snapshot is whole, or as serving its feed on does
abbrev pub Ends : AtEnd → Status → List Move → Type 0
Ends at_end status moves = EndsBefore status moves
    ⊎ Behind (ins moves) (λ F H. talk.Ends (serve_talk at_end F) status H (outs moves) (has_ended moves))

-- what the record of a call with this status is
pub record Resumes (at_end : AtEnd) (status : Status) (moves : List Move) : Type 0 where
  pub reads : EachRead (MayRead at_end) moves
  pub ends : Ends at_end status moves

-- The comparisons of a call are few for n jobs: before the snapshot is whole, for those of its lines that were read, or
-- of a front of them; behind it, for those that were admitted in the feed and what follows.
abbrev pub IsFrugalFor : (before after : ℕ) → List ℕ → Type 0
IsFrugalFor before after x =
    ((front : List ℕ) × Begins front x × CostsAtMost (jobs_read (reading_of (lines_of front))) before after)
    ⊎ Behind x (λ F H. CostsAtMost (admitted_in (account (F ++ H))) before after)

-- so they are for the bytes of a call
abbrev pub IsFrugal : (before after : ℕ) → List Move → Type 0
IsFrugal before after moves = IsFrugalFor before after (ins moves)
