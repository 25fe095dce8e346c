-- How many bytes a text has, by its lines.
use Rattle.std.proofs.Common.{◌≡◌, ◌≤◌, ◌+◌, ◌*◌, ℕ, suc, List, ◌∷◌, [], length, refl, ap, ◌∙◌, Bool, true, false}
use Rattle.std.proofs.Common.{arith}
use Rattle.dover_model.specs.Lines.{whole_lines, rest_of}
use Rattle.dover_model.proofs.texts.Cuts.{CutText, is_feed, put_before, cut_feed, cut_other}

-- the bytes of lines, each with its line feed
abbrev pub bytes_of : List (List ℕ) → ℕ
bytes_of [] = 0
bytes_of (l ∷ ls) = suc (length l) + bytes_of ls

-- with a byte before all
before_all : (b : ℕ) (ls : List (List ℕ)) (rest : List ℕ)
    → bytes_of (put_before b ls rest).0 + length (put_before b ls rest).1 ≡ suc (bytes_of ls + length rest)
before_all b [] rest = omega arith
before_all b (l ∷ ls) rest = omega arith

-- a text has the bytes of its whole lines and of its rest
pub text_bytes : (x : List ℕ) → length x ≡ bytes_of (whole_lines x) + length (rest_of x)
text_bytes [] = refl
text_bytes (b ∷ x) = by_byte (is_feed b) refl (text_bytes x) where
  by_byte : (c : Bool) → is_feed b ≡ c → length x ≡ bytes_of (whole_lines x) + length (rest_of x)
      → length (b ∷ x) ≡ bytes_of (whole_lines (b ∷ x)) + length (rest_of (b ∷ x))
  by_byte true feed behind =
      let is : bytes_of (whole_lines (b ∷ x)) + length (rest_of (b ∷ x)) ≡ 1 + bytes_of (whole_lines x) + length
      (rest_of x) =
      ap (λ (c : CutText). bytes_of c.0 + length c.1) (cut_feed b x feed) in omega arith
  by_byte false other behind =
      let is : bytes_of (whole_lines (b ∷ x)) + length (rest_of (b ∷ x)) ≡ suc
      (bytes_of (whole_lines x) + length (rest_of x)) =
      ap (λ (c : CutText). bytes_of c.0 + length c.1) (cut_other b x other)
      ∙ before_all b (whole_lines x) (rest_of x) in omega arith

-- no line is longer than a line may be
abbrev pub AreNotTooLong : List (List ℕ) → Type 0
AreNotTooLong [] = Unit {0}
AreNotTooLong (l ∷ ls) = (length l ≤ 128) × AreNotTooLong ls

-- the bytes of such lines
lines_few : (ls : List (List ℕ)) → AreNotTooLong ls → bytes_of ls ≤ 129 * length ls
lines_few [] short = omega arith
lines_few (l ∷ ls) short = omega (arith, short.0, lines_few ls short.1)

-- a text of at most so many lines, none of which is too long, nor is the one that has begun
pub text_few : (x : List ℕ) (most : ℕ) → AreNotTooLong (whole_lines x) → length (whole_lines x) ≤ most
    → length (rest_of x) ≤ 128
    → length x ≤ 129 * most + 128
text_few x most short few rest = omega (arith, text_bytes x, lines_few (whole_lines x) short)
