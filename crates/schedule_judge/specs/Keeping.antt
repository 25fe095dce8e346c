-- What is kept of a schedule that comes in pieces, and the last word on it.
use Rattle.std.specs.Prelude.{◌≡◌, ◌<◌, ◌≤◌, ℕ, List, ◌++◌, length, take, true, false}
use Rattle.dover_model.specs.Lines.{rest_of, is_too_long}
use Rattle.line_text.specs.Cutting as cutting
use Rattle.schedule_judge.specs.Account.{Account, account, is_open}
use Rattle.schedule_judge.specs.declared.text.ScheduleText.{ScheduleText}
use Rattle.schedule_judge.specs.declared.reader.ScheduleReader.{ScheduleReader}
use Rattle.schedule_judge.specs.declared.reader.Closed.{Closed}

-- the line that has begun is kept of these bytes
pub record HasCut (text : ScheduleText) (bytes : List ℕ) : Type 0 where
  pub cut : cutting.StandsFor text.lines bytes
  pub short : is_too_long (rest_of bytes) ≡ false

-- this is kept of these bytes
pub record StandsFor (text : ScheduleText) (bytes : List ℕ) : Type 0 where
  pub says : text.intake ≡ account bytes
  pub begun : is_open (account bytes) ≡ true → HasCut text bytes

-- the reader stands for the bytes
abbrev pub Reads : ScheduleReader → List ℕ → Type 0
Reads reader bytes = StandsFor reader.text bytes

-- behind x so many bytes of the piece were taken
abbrev pub TakesFront : ScheduleReader → (x piece : List ℕ) → ℕ → Type 0
TakesFront reader x piece n = (0 < n) × (n ≤ length piece) × Reads reader (x ++ take n piece)

-- the last word on a text of this account
pub record IsClosed (closed : Closed) (a : Account) : Type 0 where
  pub lines : closed.lines ≡ a.lines
  pub standing : closed.standing ≡ a.standing
  pub steps : closed.steps.items ≡ a.schedule.steps
  pub few : length closed.steps.items ≤ 4_000_000
