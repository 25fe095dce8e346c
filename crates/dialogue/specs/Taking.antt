-- What the calls of a reader of lines come to, and what holds of its reading.
use Rattle.std.specs.Prelude.{◌≡◌, ◌<◌, ◌^◌, ℕ, suc, List, [], ◌∷◌, ◌++◌, true, false, Result, Ok, Err}
use Rattle.dover_model.specs.Common.{Standing, Open, Ended, Faulty, fault_text, is_too_long, lines_of}
use Rattle.dover_model.specs.Feed.{Short}
use Rattle.dover_port.specs.declared.status.Status.{Status}
use Rattle.dover_port.specs.declared.status.Status.TheVariants.{Refused}
use Rattle.event_feed.specs.Kept.{cause_of_fault}
use Rattle.event_feed.specs.declared.faults.FeedFault.{FeedFault}
use Rattle.line_text.specs.Cutting as cutting
use Rattle.dialogue.specs.Reading.{Reading, read_lines}

-- where more is read behind this line, it isn't too long, and it is counted
pub record IsGood {A : Type 0} (lines : A → ℕ) (before : A) (line : List ℕ) (after : A) : Type 0 where
  pub short : is_too_long line ≡ false
  pub few : lines before < 2 ^ 40
  pub counted : lines after ≡ suc (lines before)

-- Behind lines that end the reading, one more changes neither that nor the answer, and none takes back the want of
-- memory; lines that are too long are one and the same; and only so many good lines are read.
pub record IsOrderly {A : Type 0} (r : Reading A) : Type 0 where
  pub opens : r.goes_on r.start ≡ true
  pub stays : (a : A) (line : List ℕ) → r.goes_on a ≡ false → r.goes_on (r.next a line) ≡ false
  pub answered : (a : A) (line : List ℕ) (status : Status) (text : List ℕ) → r.goes_on a ≡ false
      → r.answer a status text → r.answer (r.next a line) status text
  pub lacking : (a : A) (line : List ℕ) → r.lacks a false → r.lacks (r.next a line) false
  pub same : (a : A) (l m : List ℕ) → is_too_long l ≡ true → is_too_long m ≡ true → r.next a l ≡ r.next a m
  pub lines : A → ℕ
  pub none : lines r.start ≡ 0
  pub good : (a : A) (line : List ℕ) → r.goes_on (r.next a line) ≡ true → IsGood lines a line (r.next a line)

-- ---- a reader

-- the line behind these was taken, or there was no memory
abbrev pub TakesLine : {A E : Type 0} → Reading A → (stands : List (List ℕ) → Type 0) → (costs : A → Type 0)
    → List (List ℕ) → List ℕ → Result (Unit {0}) E → Type 0
TakesLine r stands costs ls line (Ok done) = stands (ls ++ line ∷ [])
TakesLine r stands costs ls line (Err error) =
    r.lacks (read_lines r (ls ++ line ∷ [])) false × costs (read_lines r (ls ++ line ∷ []))

-- of these bytes the lines were taken, and the one that has begun is kept
pub record HasTaken (stands : List (List ℕ) → Type 0) (lines : cutting.Cutting) (bytes : List ℕ) : Type 0 where
  pub cut : cutting.StandsFor lines bytes
  pub taken : stands (lines_of bytes)

-- these bytes were taken, or there was no memory
abbrev pub TakesBytes : {A E : Type 0} → Reading A → (taken : List ℕ → Type 0) → (costs : A → Type 0) → List ℕ
    → Result (Unit {0}) E → Type 0
TakesBytes r taken costs bytes (Ok done) = taken bytes
TakesBytes r taken costs bytes (Err error) =
    r.lacks (read_lines r (lines_of bytes)) false × costs (read_lines r (lines_of bytes))

-- ---- a refusal

-- this is why a text that stands so is refused
abbrev pub IsFaultAt : FeedFault → (lines : ℕ) → Standing → Type 0
IsFaultAt fault lines Open = (fault.line ≡ suc lines) × (cause_of_fault fault.cause ≡ Short)
IsFaultAt fault lines Ended = ⊥
IsFaultAt fault lines (Faulty line cause) = (fault.line ≡ line) × (cause_of_fault fault.cause ≡ cause)

-- the line of a fault, and its status
abbrev pub IsRefusal : FeedFault → Status → List ℕ → Type 0
IsRefusal fault status text =
    (status ≡ Refused) × (text ≡ fault_text fault.line (cause_of_fault fault.cause) ++ 10 ∷ [])
