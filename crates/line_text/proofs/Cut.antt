-- What another byte makes of whole lines and the rest.
use Rattle.std.proofs.Common.{◌≡◌, ℕ, ◌+◌, min, List, [], ◌∷◌, ◌++◌, length, length-append, append-nil, refl, sym, ap}
use Rattle.std.proofs.Common.{◌∙◌, subst, Bool, true, false, cond, arith, if◌then◌else◌}
use Rattle.dover_model.specs.Lines.{whole_lines, rest_of, lines_of, is_too_long, cut}
use Rattle.dover_model.proofs.texts.Cuts.{CutText, is_feed, onto, cut_feed, cut_other, cut_append}
use Rattle.dover_model.proofs.lists.Tests.{never}
use Rattle.line_text.specs.declared.cutting.ByteEffect.{ByteEffect}
use Rattle.line_text.specs.declared.cutting.ByteEffect.TheVariants.{More, Line, TooLong}
use Rattle.line_text.specs.Cutting.{Cutting, most_count, is_over, StandsFor, with_byte, HasCut, goes_on, after_byte}

-- bytes before an ended line are its bytes
onto_feed : (bs : List ℕ) → onto bs ([] ∷ [], []) ≡ (bs ∷ [], [])
onto_feed [] = refl
onto_feed (b ∷ bs) = ap (λ (c : CutText). put c) (onto_feed bs) where
  put : CutText → CutText
  put c = onto (b ∷ []) c

-- bytes before a byte of a line that goes on
onto_other : (bs : List ℕ) (byte : ℕ) → onto bs ([], byte ∷ []) ≡ ([], bs ++ byte ∷ [])
onto_other [] byte = refl
onto_other (b ∷ bs) byte = ap (λ (c : CutText). put c) (onto_other bs byte) where
  put : CutText → CutText
  put c = onto (b ∷ []) c

-- a cut text behind whole lines, where these bytes of a line came before it
abbrev behind : List (List ℕ) → List ℕ → CutText → CutText
behind ls rest c = (ls ++ (onto rest c).0, (onto rest c).1)

-- whole lines before a cut text
abbrev before : List (List ℕ) → CutText → CutText
before ls c = (ls ++ c.0, c.1)

-- a line feed ends the line
cut_with_feed : (bytes : List ℕ) (byte : ℕ) → is_feed byte ≡ true
    → cut (bytes ++ byte ∷ []) ≡ (whole_lines bytes ++ rest_of bytes ∷ [], [])
cut_with_feed bytes byte feed = cut_append bytes (byte ∷ [])
    ∙ ap (behind (whole_lines bytes) (rest_of bytes)) (cut_feed byte [] feed)
    ∙ ap (before (whole_lines bytes)) (onto_feed (rest_of bytes))

-- another byte goes on with it
cut_with_other : (bytes : List ℕ) (byte : ℕ) → is_feed byte ≡ false
    → cut (bytes ++ byte ∷ []) ≡ (whole_lines bytes, rest_of bytes ++ byte ∷ [])
cut_with_other bytes byte other = cut_append bytes (byte ∷ [])
    ∙ ap (behind (whole_lines bytes) (rest_of bytes)) (cut_other byte [] other)
    ∙ ap (before (whole_lines bytes)) (onto_other (rest_of bytes) byte)
    ∙ ap (λ ls. let more : CutText = (ls, rest_of bytes ++ byte ∷ []) in more) (append-nil (whole_lines bytes))

-- ---- what is kept

-- the lines of bytes that are cut so, where the rest may still become a line
lines_short : (bytes : List ℕ) (c : CutText) → cut bytes ≡ c → is_too_long c.1 ≡ false → lines_of bytes ≡ c.0
lines_short bytes c e short = ap (λ (k : CutText). k.0 ++ cond (is_too_long k.1) (k.1 ∷ []) []) e
    ∙ ap (λ b. c.0 ++ cond b (c.1 ∷ []) []) short ∙ append-nil c.0

-- and where it is too long
lines_long : (bytes : List ℕ) (c : CutText) → cut bytes ≡ c → is_too_long c.1 ≡ true → lines_of bytes ≡ c.0 ++ c.1 ∷ []
lines_long bytes c e long = ap (λ (k : CutText). k.0 ++ cond (is_too_long k.1) (k.1 ∷ []) []) e
    ∙ ap (λ b. c.0 ++ cond b (c.1 ∷ []) []) long

-- the least of two numbers
min_at : (n m : ℕ) → n ≡ min m most_count → min (n + 1) most_count ≡ min (m + 1) most_count
min_at n m e = omega arith

-- what is kept where the line ends
abbrev ended : ℕ → List ℕ → Cutting
ended count line = record { line = line; count = min (count + 1) most_count; last = Line }

-- what is kept of a line that goes on, or is too long
abbrev going : ℕ → List ℕ → Bool → Cutting
going count line long = record { line = line; count = count; last = if long then TooLong else More }

-- what a byte keeps and cuts, behind bytes whose rest may still become a line
pub record Goes (c : Cutting) (bytes : List ℕ) (byte : ℕ) : Type 0 where
  pub stands : StandsFor c (bytes ++ byte ∷ [])
  pub cut : HasCut c.last c.line bytes (bytes ++ byte ∷ [])

module _ (count : ℕ) (bytes : List ℕ) (byte : ℕ) (counted : count ≡ min (length (whole_lines bytes)) most_count)
    (short : is_too_long (rest_of bytes) ≡ false) where
  -- the lines so far
  lines_before : lines_of bytes ≡ whole_lines bytes
  lines_before = lines_short bytes (cut bytes) refl short

  -- a line feed
  ends : is_feed byte ≡ true → Goes (ended count (rest_of bytes)) bytes byte
  ends feed = let e = cut_with_feed bytes byte feed in
      let whole : whole_lines (bytes ++ byte ∷ []) ≡ whole_lines bytes ++ rest_of bytes ∷ [] =
      ap (λ (k : CutText). k.0) e in
      let rest : rest_of (bytes ++ byte ∷ []) ≡ [] = ap (λ (k : CutText). k.1) e in
      let size : length (whole_lines bytes ++ rest_of bytes ∷ []) ≡ length (whole_lines bytes) + 1 =
      length-append (whole_lines bytes) (rest_of bytes ∷ []) in
      record {
        stands = record {
          count = min_at count (length (whole_lines bytes)) counted
              ∙ ap (λ n. min n most_count) (sym (ap length whole ∙ size));
          rest = sym rest;
          over = ap is_too_long (sym rest);
        };
        cut = (
          whole,
          rest,
          lines_short (bytes ++ byte ∷ []) _ e refl
              ∙ ap (λ ls. ls ++ rest_of bytes ∷ []) (sym lines_before),
        );
      }

  -- another byte
  more : is_feed byte ≡ false
      → Goes (going count (rest_of bytes ++ byte ∷ []) (is_too_long (rest_of bytes ++ byte ∷ []))) bytes byte
  more other = by (is_too_long (rest_of bytes ++ byte ∷ [])) refl where
    e : cut (bytes ++ byte ∷ []) ≡ (whole_lines bytes, rest_of bytes ++ byte ∷ [])
    e = cut_with_other bytes byte other

    whole : whole_lines (bytes ++ byte ∷ []) ≡ whole_lines bytes
    whole = ap (λ (k : CutText). k.0) e

    rest : rest_of (bytes ++ byte ∷ []) ≡ rest_of bytes ++ byte ∷ []
    rest = ap (λ (k : CutText). k.1) e

    still : count ≡ min (length (whole_lines (bytes ++ byte ∷ []))) most_count
    still = counted ∙ ap (λ ls. min (length ls) most_count) (sym whole)

    by : (b : Bool) → is_too_long (rest_of bytes ++ byte ∷ []) ≡ b
        → Goes (going count (rest_of bytes ++ byte ∷ []) b) bytes byte
    by true long = record {
      stands = record { count = still; rest = sym rest; over = sym long ∙ ap is_too_long (sym rest) };
      cut = (
        whole,
        rest,
        lines_long (bytes ++ byte ∷ []) _ e long
            ∙ ap (λ ls. ls ++ (rest_of bytes ++ byte ∷ []) ∷ []) (sym lines_before),
      );
    }
    by false long = record {
      stands = record { count = still; rest = sym rest; over = sym long ∙ ap is_too_long (sym rest) };
      cut = (whole, rest, lines_short (bytes ++ byte ∷ []) _ e long ∙ sym lines_before);
    }

  -- any byte
  goes : Goes (goes_on count (rest_of bytes) byte) bytes byte
  goes = by (is_feed byte) refl where
    by : (b : Bool) → is_feed byte ≡ b
        → Goes (if b
        then ended count (rest_of bytes)
        else going count (rest_of bytes ++ byte ∷ []) (is_too_long (rest_of bytes ++ byte ∷ []))) bytes byte
    by true feed = ends feed
    by false other = more other

-- a line that goes on
from_line : (line : List ℕ) (count : ℕ) (bytes : List ℕ) (byte : ℕ)
    → count ≡ min (length (whole_lines bytes)) most_count → line ≡ rest_of bytes
    → is_too_long (rest_of bytes) ≡ false → Goes (goes_on count line byte) bytes byte
from_line line count bytes byte counted same short =
    subst (λ l. Goes (goes_on count l byte) bytes byte) (sym same) (goes count bytes byte counted short)

-- what is kept after another byte, by what was kept before
kept : (last : ByteEffect) (line : List ℕ) (count : ℕ) (bytes : List ℕ) (byte : ℕ)
    → StandsFor (record { line = line; count = count; last = last }) bytes
    → is_too_long (rest_of bytes) ≡ false
    → Goes (after_byte (record { line = line; count = count; last = last }) byte) bytes byte
kept More line count bytes byte stands short = from_line line count bytes byte stands.count stands.rest short
kept Line line count bytes byte stands short = from_line [] count bytes byte stands.count stands.rest short
kept TooLong line count bytes byte stands short = never (sym (stands.over ∙ short))

-- what is kept of a line that may go on
pub after_byte-Goes : (c : Cutting) (bytes : List ℕ) (byte : ℕ) → StandsFor c bytes
    → is_too_long (rest_of bytes) ≡ false
    → Goes (after_byte c byte) bytes byte
after_byte-Goes c bytes byte stands short = kept c.last c.line c.count bytes byte stands short

-- behind a line that is too long nothing changes
stays : (last : ByteEffect) (line : List ℕ) (count : ℕ) (byte : ℕ) → is_over last ≡ true
    → after_byte (record { line = line; count = count; last = last }) byte ≡ record
    { line = line; count = count; last = last }
stays TooLong line count byte over = refl
stays _ line count byte over = never over

-- what is kept stands for the bytes with one more
pub after_byte-StandsFor : (c : Cutting) (bytes : List ℕ) (byte : ℕ) → StandsFor c bytes
    → StandsFor (after_byte c byte) (with_byte bytes byte)
after_byte-StandsFor c bytes byte stands = by (is_too_long (rest_of bytes)) refl where
  by : (b : Bool) → is_too_long (rest_of bytes) ≡ b
      → StandsFor (after_byte c byte) (if b then bytes else bytes ++ byte ∷ [])
  by true long = subst (λ k. StandsFor k bytes) (sym (stays c.last c.line c.count byte (stands.over ∙ long))) stands
  by false short = (after_byte-Goes c bytes byte stands short).stands
