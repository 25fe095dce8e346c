-- The numbers of a line that is read have numerals.
use Rattle.std.proofs.Common.{◌≡◌, ℕ, ◌<◌, ◌^◌, List, [], ◌∷◌, length, subst, Bool, true, false, cond, Option, Some}
use Rattle.std.proofs.Common.{None, codes, bytes_eq, nat_le, option_and_then, option_map, leb-true}
use Rattle.std.specs.Str.{all_ascii_digits}
use Rattle.std.proofs.lemmas.Str.Parse.{digits_value_short}
use Rattle.dover_model.specs.Common.{number_onto, is_plain, numeral, numerals, AreShort, is_too_long, fields_of}
use Rattle.dover_model.specs.Common.{FeedLine, RatioLine, FactorLine, JobLine, TickLine, DoneLine, EndLine, HasNumerals}
use Rattle.dover_model.specs.Common.{line_of_fields, feed_line}
use Rattle.dover_model.specs.FeedLine.{ratio_line, job_line, tick_line, done_line, end_line, line_of_word}
use Rattle.dover_model.proofs.lists.Members.{some_same}
use Rattle.dover_model.proofs.texts.Numerals.{own, then_true}
use Rattle.dover_model.proofs.lists.Tests.{none_is_some}

-- a numeral's number is short
numeral_short : (bs : List ℕ) (n : ℕ) → numeral bs ≡ Some n → n < 10 ^ 18
numeral_short bs n read =
    let facts = then_true (is_plain bs) (nat_le (length bs) 18) (all_ascii_digits bs) (number_onto 0 bs) n read in
    subst (λ m. m < 10 ^ 18) facts.3 (digits_value_short own bs 18 facts.2 (leb-true _ _ facts.1))

-- so are those of numerals
pub numerals_short : (fields : List (List ℕ)) (ns : List ℕ) → numerals fields ≡ Some ns → AreShort ns
numerals_short [] ns read = subst AreShort (some_same [] ns read) tt
numerals_short (field ∷ fields) ns read =
    by_parts (numeral field) (numerals fields) (numeral_short field) (numerals_short fields) read where
      by_parts : (one : Option ℕ) (more : Option (List ℕ)) → ((n : ℕ) → one ≡ Some n → n < 10 ^ 18)
          → ((ms : List ℕ) → more ≡ Some ms → AreShort ms)
          → option_and_then (λ n. option_map (λ ms. n ∷ ms) more) one ≡ Some ns → AreShort ns
      by_parts None more short shorts e = none_is_some e
      by_parts (Some n) None short shorts e = none_is_some e
      by_parts (Some n) (Some ms) short shorts e =
          subst AreShort (some_same (n ∷ ms) ns e) (short n refl_some, shorts ms refl_more) where
            refl_some : Some n ≡ Some n
            refl_some = cc

            refl_more : Some ms ≡ Some ms
            refl_more = cc

-- of the ratio
ratio_short : (ns : List ℕ) (line : FeedLine) → AreShort ns → ratio_line ns ≡ Some line → HasNumerals line
ratio_short (p ∷ q ∷ []) line short read = subst HasNumerals (some_same (RatioLine p q None) line read) short
ratio_short (p ∷ q ∷ v ∷ []) line short read = subst HasNumerals (some_same (RatioLine p q (Some v)) line read) short
ratio_short (p ∷ q ∷ v ∷ b ∷ c ∷ []) line short read =
    subst HasNumerals (some_same (FactorLine p q v b c) line read) short
ratio_short _ line short read = none_is_some read

-- of a job
job_short : (ns : List ℕ) (line : FeedLine) → AreShort ns → job_line ns ≡ Some line → HasNumerals line
job_short (r ∷ c ∷ d ∷ v ∷ []) line short read =
    subst HasNumerals (some_same (JobLine (record { release = r; work = c; deadline = d; value = v })) line read) short
job_short _ line short read = none_is_some read

-- of a tick
tick_short : (ns : List ℕ) (line : FeedLine) → AreShort ns → tick_line ns ≡ Some line → HasNumerals line
tick_short (t ∷ []) line short read = subst HasNumerals (some_same (TickLine t) line read) short
tick_short _ line short read = none_is_some read

-- of a done line
done_short : (ns : List ℕ) (line : FeedLine) → AreShort ns → done_line ns ≡ Some line → HasNumerals line
done_short (t ∷ n ∷ []) line short read = subst HasNumerals (some_same (DoneLine t n) line read) short
done_short _ line short read = none_is_some read

-- of the end
end_short : (ns : List ℕ) (line : FeedLine) → end_line ns ≡ Some line → HasNumerals line
end_short [] line read = subst HasNumerals (some_same EndLine line read) tt
end_short (n ∷ ns) line read = none_is_some read

-- of a word's line
word_short : (word ns : List ℕ) (line : FeedLine) → AreShort ns → line_of_word word ns ≡ Some line → HasNumerals line
word_short word ns line short read =
    by_word (bytes_eq word (codes "k")) (bytes_eq word (codes "job")) (bytes_eq word (codes "tick"))
    (bytes_eq word (codes "done")) (bytes_eq word (codes "end")) read where
      by_word : (a b c f d : Bool)
          → cond a (ratio_line ns) (cond b (job_line ns) (cond c (tick_line ns)
          (cond f (done_line ns) (cond d (end_line ns) None))))
          ≡ Some line
          → HasNumerals line
      by_word true b c f d e = ratio_short ns line short e
      by_word false true c f d e = job_short ns line short e
      by_word false false true f d e = tick_short ns line short e
      by_word false false false true d e = done_short ns line short e
      by_word false false false false true e = end_short ns line e
      by_word false false false false false e = none_is_some e

-- of a line's fields
fields_short : (fields : List (List ℕ)) (line : FeedLine) → line_of_fields fields ≡ Some line → HasNumerals line
fields_short [] line read = none_is_some read
fields_short (word ∷ fields) line read = by_numbers (numerals fields) (numerals_short fields) read where
  by_numbers : (o : Option (List ℕ)) → ((ns : List ℕ) → o ≡ Some ns → AreShort ns)
      → option_and_then (line_of_word word) o ≡ Some line
      → HasNumerals line
  by_numbers None short e = none_is_some e
  by_numbers (Some ns) short e = word_short word ns line (short ns same) e where
    same : Some ns ≡ Some ns
    same = cc

-- of a line that is read
pub read_HasNumerals : (bytes : List ℕ) (line : FeedLine) → feed_line bytes ≡ Some line → HasNumerals line
read_HasNumerals bytes line read = by_length (is_too_long bytes) read where
  by_length : (b : Bool) → cond b None (line_of_fields (fields_of bytes)) ≡ Some line → HasNumerals line
  by_length true e = none_is_some e
  by_length false e = fields_short (fields_of bytes) line e
