-- A feed's line has one spelling: what is written is read as the same line, and what is read was written so.
use Rattle.std.proofs.Common.{◌≡◌, ℕ, ◌≤◌, List, [], ◌∷◌, length, map, refl, sym, ap, ◌∙◌, Bool, true, false, arith}
use Rattle.std.proofs.Common.{decimal, Option, Some, None, codes, if◌then◌else◌, bytes_eq, option_and_then, le-ltb}
use Rattle.std.proofs.lemmas.Slice.Eq.{bytes_eq-Decides}
use Rattle.dover_model.specs.Common.{numerals, AreShort, fields_of, line_of, with_numbers, is_too_long, FeedLine}
use Rattle.dover_model.specs.Common.{RatioLine, FactorLine, JobLine, TickLine, DoneLine, EndLine, line_of_fields}
use Rattle.dover_model.specs.Common.{HasNumerals, feed_text, feed_line}
use Rattle.dover_model.specs.FeedLine.{line_of_word, ratio_line, job_line, tick_line, done_line, end_line}
use Rattle.dover_model.proofs.texts.Fields.{HasNoSpace, fields_of-line_of, line_of-fields_of, decimals-HasNoSpace}
use Rattle.dover_model.proofs.texts.Fields.{numerals-decimals, decimals-numerals, length-with_numbers}
use Rattle.dover_model.proofs.lists.Tests.{none_is_some}
use Rattle.dover_model.proofs.lists.Members.{some_same}

-- ---- what is written is read as the same line

-- a word and numbers are read as that word and those numbers
read_back : (word ns : List ℕ) → HasNoSpace word → length word ≤ 6 → length ns ≤ 5 → AreShort ns
    → feed_line (with_numbers word ns) ≡ line_of_word word ns
read_back word ns none brief few short =
    let size : length (with_numbers word ns) ≤ 128 = omega (arith, length-with_numbers word ns short) in
    ap (λ b. if b then None else line_of_fields (fields_of (with_numbers word ns)))
    (le-ltb 128 (length (with_numbers word ns)) size)
    ∙ ap line_of_fields (fields_of-line_of word (map decimal ns) none (decimals-HasNoSpace ns short))
    ∙ ap (option_and_then (line_of_word word)) (numerals-decimals ns short)

-- what is written of a line is read as that line
pub feed_line-feed_text : (line : FeedLine) → HasNumerals line → feed_line (feed_text line) ≡ Some line
feed_line-feed_text (RatioLine p q None) short =
    read_back (codes "k") (p ∷ q ∷ []) refl (omega arith) (omega arith) short
feed_line-feed_text (RatioLine p q (Some version)) short =
    read_back (codes "k") (p ∷ q ∷ version ∷ []) refl (omega arith) (omega arith) short
feed_line-feed_text (FactorLine p q version b c) short =
    read_back (codes "k") (p ∷ q ∷ version ∷ b ∷ c ∷ []) refl (omega arith) (omega arith) short
feed_line-feed_text (JobLine j) short =
    read_back (codes "job") (j.release ∷ j.work ∷ j.deadline ∷ j.value ∷ []) refl (omega arith) (omega arith) short
feed_line-feed_text (TickLine t) short = read_back (codes "tick") (t ∷ []) refl (omega arith) (omega arith) short
feed_line-feed_text (DoneLine t n) short =
    read_back (codes "done") (t ∷ n ∷ []) refl (omega arith) (omega arith) short
feed_line-feed_text EndLine short = refl

-- ---- what is read was written so

-- a ratio and perhaps a version
from_ratio : (ns : List ℕ) (line : FeedLine) → ratio_line ns ≡ Some line → feed_text line ≡ with_numbers (codes "k") ns
from_ratio (p ∷ q ∷ []) line read = ap feed_text (sym (some_same _ _ read))
from_ratio (p ∷ q ∷ v ∷ []) line read = ap feed_text (sym (some_same _ _ read))
from_ratio (p ∷ q ∷ v ∷ b ∷ c ∷ []) line read = ap feed_text (sym (some_same _ _ read))
from_ratio _ line read = none_is_some read

-- the numbers of a job
from_job : (ns : List ℕ) (line : FeedLine) → job_line ns ≡ Some line → feed_text line ≡ with_numbers (codes "job") ns
from_job (r ∷ c ∷ d ∷ v ∷ []) line read = ap feed_text (sym (some_same _ _ read))
from_job _ line read = none_is_some read

-- a tick
from_tick : (ns : List ℕ) (line : FeedLine) → tick_line ns ≡ Some line → feed_text line ≡ with_numbers (codes "tick") ns
from_tick (t ∷ []) line read = ap feed_text (sym (some_same _ _ read))
from_tick _ line read = none_is_some read

-- a done line
from_done : (ns : List ℕ) (line : FeedLine) → done_line ns ≡ Some line
    → feed_text line ≡ with_numbers (codes "done") ns
from_done (t ∷ n ∷ []) line read = ap feed_text (sym (some_same _ _ read))
from_done _ line read = none_is_some read

-- no numbers
from_end : (ns : List ℕ) (line : FeedLine) → end_line ns ≡ Some line → feed_text line ≡ with_numbers (codes "end") ns
from_end [] line read = ap feed_text (sym (some_same _ _ read))
from_end (n ∷ ns) line read = none_is_some read

-- where the word is the one tested for, or else the next test decides
by_word : (word tested ns : List ℕ) (line : FeedLine) (here other : Option FeedLine)
    → (here ≡ Some line → feed_text line ≡ with_numbers tested ns)
    → (other ≡ Some line → feed_text line ≡ with_numbers word ns)
    → (if bytes_eq word tested then here else other) ≡ Some line → feed_text line ≡ with_numbers word ns
by_word word tested ns line here other so else_so = by (bytes_eq word tested) refl where
  by : (b : Bool) → bytes_eq word tested ≡ b → (if b then here else other) ≡ Some line
      → feed_text line ≡ with_numbers word ns
  by true same read = so read ∙ ap (λ w. with_numbers w ns) (sym ((bytes_eq-Decides word tested).0 same))
  by false differs read = else_so read

-- a word and its numbers
from_word : (word ns : List ℕ) (line : FeedLine) → line_of_word word ns ≡ Some line
    → feed_text line ≡ with_numbers word ns
from_word word ns line = by_word word (codes "k") ns line _ _ (from_ratio ns line)
    (by_word word (codes "job") ns line _ _ (from_job ns line)
    (by_word word (codes "tick") ns line _ _ (from_tick ns line)
    (by_word word (codes "done") ns line _ _ (from_done ns line)
    (by_word word (codes "end") ns line _ _ (from_end ns line) none_is_some))))

-- the fields of a line
from_fields : (fields : List (List ℕ)) (line : FeedLine) → line_of_fields fields ≡ Some line
    → feed_text line ≡ line_of fields
from_fields [] line read = none_is_some read
from_fields (word ∷ fields) line read = by (numerals fields) refl read where
  by : (o : Option (List ℕ)) → numerals fields ≡ o → option_and_then (line_of_word word) o ≡ Some line
      → feed_text line ≡ line_of (word ∷ fields)
  by None numbers all = none_is_some all
  by (Some ns) numbers all = from_word word ns line all
      ∙ ap (λ fs. line_of (word ∷ fs)) (decimals-numerals fields ns numbers)

-- what is read as a line was written from it
pub feed_text-feed_line : (bytes : List ℕ) (line : FeedLine) → feed_line bytes ≡ Some line → feed_text line ≡ bytes
feed_text-feed_line bytes line = by (is_too_long bytes) where
  by : (b : Bool) → (if b then None else line_of_fields (fields_of bytes)) ≡ Some line → feed_text line ≡ bytes
  by true read = none_is_some read
  by false read = from_fields (fields_of bytes) line read ∙ line_of-fields_of bytes
