-- Bytes that come one by one, cut into lines.
use Rattle.std.specs.Prelude.{◌≡◌, ℕ, ◌+◌, ◌≤◌, min, List, [], ◌∷◌, ◌++◌, length, Bool, true, false, ◌==◌}
use Rattle.std.specs.Prelude.{if◌then◌else◌, not}
use Rattle.std.specs.List.{list_all}
use Rattle.line_text.specs.declared.cutting.ByteEffect.{ByteEffect}
use Rattle.line_text.specs.declared.cutting.ByteEffect.TheVariants.{More, Line, TooLong}
use Rattle.dover_model.specs.Lines.{whole_lines, rest_of, lines_of, is_too_long}

-- what is kept of the bytes: the line that goes on or has just ended, how many lines are whole, and what the last byte
-- made of the line
pub record Cutting : Type 0 where
  pub line : List ℕ
  pub count : ℕ
  pub last : ByteEffect

-- the greatest count, at which it stops
abbrev pub most_count : ℕ
most_count = 18_446_744_073_709_551_615

-- so many bytes may be kept of a line
abbrev pub HasRoom : ByteEffect → ℕ → Type 0
HasRoom More used = used ≤ 128
HasRoom Line used = used ≤ 128
HasRoom TooLong used = used ≡ 129

-- the bytes of the line that has begun
abbrev pub begun_line : Cutting → List ℕ
begun_line c = elim c.last [ More ↦ c.line | Line ↦ [] | TooLong ↦ c.line ]

-- whether the line was found to be too long
abbrev pub is_over : ByteEffect → Bool
is_over More = false
is_over Line = false
is_over TooLong = true

-- this is kept of these bytes
pub record StandsFor (c : Cutting) (bytes : List ℕ) : Type 0 where
  pub count : c.count ≡ min (length (whole_lines bytes)) most_count
  pub rest : begun_line c ≡ rest_of bytes
  pub over : is_over c.last ≡ is_too_long (rest_of bytes)

-- what a byte makes of a line of which these bytes came
abbrev pub step_of : List ℕ → ℕ → ByteEffect
step_of rest byte =
    if is_too_long rest then TooLong else
    (if byte == 10 then Line else
    (if is_too_long (rest ++ byte ∷ []) then TooLong else More))

-- the bytes with one more, which is disregarded behind a line that is too long
abbrev pub with_byte : List ℕ → ℕ → List ℕ
with_byte bytes byte = if is_too_long (rest_of bytes) then bytes else bytes ++ byte ∷ []

-- how the whole lines, the rest and the lines of the bytes before and after another byte differ, with this line kept
abbrev pub HasCut : ByteEffect → List ℕ → List ℕ → List ℕ → Type 0
HasCut More line before after = (whole_lines after ≡ whole_lines before) × (rest_of after ≡ line)
    × (lines_of after ≡ lines_of before)
HasCut Line line before after =
    (whole_lines after ≡ whole_lines before ++ line ∷ []) × (rest_of after ≡ [])
    × (lines_of after ≡ lines_of before ++ line ∷ [])
HasCut TooLong line before after =
    (whole_lines after ≡ whole_lines before) × (rest_of after ≡ line) × (lines_of after ≡ lines_of before ++ line ∷ [])

-- what is kept after another byte of a line of which these bytes came, after so many whole lines
abbrev pub goes_on : ℕ → List ℕ → ℕ → Cutting
goes_on count line byte = if byte == 10
    then record { line = line; count = min (count + 1) most_count; last = Line }
    else record {
      line = line ++ byte ∷ [];
      count = count;
      last =
          if is_too_long (line ++ byte ∷ []) then TooLong else More;
    }

-- what is kept after another byte
abbrev pub after_byte : Cutting → ℕ → Cutting
after_byte c byte = elim c.last [ More ↦ goes_on c.count c.line byte | Line ↦ goes_on c.count [] byte | TooLong ↦ c ]

-- the bytes are a line with its line feed, where no line has begun before them
pub record IsWholeLine (c : Cutting) (bytes : List ℕ) : Type 0 where
  pub line : List ℕ
  pub ended : bytes ≡ line ++ 10 ∷ []
  pub one : list_all (λ b. not (b == 10)) line ≡ true
  pub short : length line ≤ 128
  pub fresh : begun_line c ≡ []
