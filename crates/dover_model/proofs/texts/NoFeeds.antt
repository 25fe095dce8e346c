-- No line of a trace has a line feed, so a trace is cut into the lines that it was joined from.
use Rattle.std.proofs.Common.{◌≡◌, ℕ, zero, suc, ◌+◌, ◌/◌, ◌%◌, ◌≤◌, ◌<◌, ◌^◌, List, [], ◌∷◌, ◌++◌, map, refl, sym, ap}
use Rattle.std.proofs.Common.{◌∙◌, Bool, true, false, cond, not, ◌&&◌, ◌==◌, arith, decimal, codes, nat_le, Option}
use Rattle.std.proofs.Common.{Some, None, IsTrue, ne_eqb, leb-true, le-leb, lt-ltb}
use Rattle.std.specs.List.{AllByRecursion, list_all}
use Rattle.std.specs.Str.{all_ascii_digits}
use Rattle.std.specs.Char.{is_ascii_digit}
use Rattle.std.specs.Fmt.{digits, digits_onto, digit_glyph}
use Rattle.std.proofs.lemmas.Bool.{and_parts, and_from}
use Rattle.std.proofs.lemmas.List.Folds.{list_all-append}
use Rattle.dover_model.specs.Common.{RefusedLine, RefusedJob, RefusedDone, Version, One, Refusal, BadJob, Release, Run}
use Rattle.dover_model.specs.Common.{Preempt, Take, Complete, Abandon, End, job_numbers, IsRatio, factor_numbers}
use Rattle.dover_model.specs.Common.{is_some_factor, Factor, Declaration, AreShort, line_of, with_numbers, header}
use Rattle.dover_model.specs.Common.{version_number, refusal_word, refused_word, refused_numbers, header_numbers}
use Rattle.dover_model.specs.Common.{TraceLine, Printed, Refuses, text_of_line}
use Rattle.dover_model.proofs.lists.Members.{all_append}
use Rattle.dover_model.proofs.texts.Cuts.{is_feed, HasNoFeed}
use Rattle.dover_model.proofs.valid.JobLimits.{ratio_limits, FactorLimits, factor_limits}

-- ---- parts of a line

-- bytes behind others
pub feedless_append : (a b : List ℕ) → HasNoFeed a → HasNoFeed b → HasNoFeed (a ++ b)
feedless_append a b one other = list_all-append (λ c. not (is_feed c)) a b ∙ and_from _ _ one other

-- bytes behind others, out of both
pub feedless_behind : (a b : List ℕ) → HasNoFeed (a ++ b) → HasNoFeed b
feedless_behind a b none = (and_parts _ _ (sym (list_all-append (λ c. not (is_feed c)) a b) ∙ none)).1

-- fields in a line
pub feedless_line : (field : List ℕ) (fields : List (List ℕ)) → HasNoFeed field → AllByRecursion HasNoFeed fields
    → HasNoFeed (line_of (field ∷ fields))
feedless_line field [] none all = none
feedless_line field (next ∷ fields) none all =
    feedless_append field (32 ∷ line_of (next ∷ fields)) none (feedless_line next fields all.0 all.1)

-- ---- numerals

-- a digit
glyph_digit : (d : ℕ) → d < 10 → is_ascii_digit (digit_glyph false d) ≡ true
glyph_digit d low = ap (λ b. is_ascii_digit (cond b (48 + d) (87 + d))) (lt-ltb d 10 low)
    ∙ and_from (nat_le 48 (48 + d)) (nat_le (48 + d) 57) (le-leb 48 (48 + d) (omega arith))
    (le-leb (48 + d) 57 (omega arith))

-- digits before others
glyphs_digits : (k n : ℕ) (behind : List ℕ) → all_ascii_digits behind ≡ true
    → all_ascii_digits (digits_onto k 10 false n behind) ≡ true
glyphs_digits zero n behind digits = digits
glyphs_digits (suc k) n behind digits =
    by_test (n / 10 == 0) one (glyphs_digits k (n / 10) (digit_glyph false (n % 10) ∷ behind) one) where
      one : all_ascii_digits (digit_glyph false (n % 10) ∷ behind) ≡ true
      one = and_from (is_ascii_digit (digit_glyph false (n % 10))) (all_ascii_digits behind)
          (glyph_digit (n % 10) (omega arith)) digits

      by_test : (b : Bool) → all_ascii_digits (digit_glyph false (n % 10) ∷ behind) ≡ true
          → all_ascii_digits (digits_onto k 10 false (n / 10) (digit_glyph false (n % 10) ∷ behind)) ≡ true
          → all_ascii_digits (cond b (digit_glyph false (n % 10) ∷ behind)
          (digits_onto k 10 false (n / 10) (digit_glyph false (n % 10) ∷ behind))) ≡ true
      by_test true here more = here
      by_test false here more = more

-- every number is written in digits
pub decimal_digits : (n : ℕ) → all_ascii_digits (decimal n) ≡ true
unfolding digits
decimal_digits n = glyphs_digits 64 n [] refl

-- digits have no line feed
pub feedless_digits : (ds : List ℕ) → all_ascii_digits ds ≡ true → HasNoFeed ds
feedless_digits [] digits = refl
feedless_digits (d ∷ ds) digits =
    let both = and_parts (is_ascii_digit d) (all_ascii_digits ds) digits in
    let least : 48 ≤ d = leb-true 48 d (and_parts _ _ both.0).0 in
    ap (λ b. not b && list_all (λ c. not (is_feed c)) ds) (ne_eqb d 10 (λ same. absurd (omega arith)))
    ∙ feedless_digits ds both.1

-- nor have numerals
pub feedless_decimal : (n : ℕ) → HasNoFeed (decimal n)
feedless_decimal n = feedless_digits (decimal n) (decimal_digits n)

-- all of them
pub feedless_decimals : (ns : List ℕ) → AllByRecursion HasNoFeed (map decimal ns)
feedless_decimals [] = tt
feedless_decimals (n ∷ ns) = (feedless_decimal n, feedless_decimals ns)

-- a word and numbers
pub feedless_numbers : (word ns : List ℕ) → HasNoFeed word → HasNoFeed (with_numbers word ns)
feedless_numbers word ns none = feedless_line word (map decimal ns) none (feedless_decimals ns)

-- the word of a refusal
pub feedless_refusal : (refusal : Refusal) → HasNoFeed (refusal_word refusal)
feedless_refusal BadJob = refl
feedless_refusal _ = refl

-- the word of a refused line
feedless_refused : (line : RefusedLine) → HasNoFeed (refused_word line)
feedless_refused (RefusedJob j refusal) = feedless_refusal refusal
feedless_refused (RefusedDone tick number) = refl

-- a line of a trace
pub feedless_text : (line : TraceLine) → HasNoFeed (text_of_line line)
feedless_text (Printed (Release n j)) = feedless_numbers (codes "job") (n ∷ job_numbers j) refl
feedless_text (Printed (Run at n)) = feedless_numbers (codes "run") (at ∷ n ∷ []) refl
feedless_text (Printed (Preempt at stops starts)) = feedless_numbers (codes "preempt") (at ∷ stops ∷ starts ∷ []) refl
feedless_text (Printed (Take at stops starts)) = feedless_numbers (codes "take") (at ∷ stops ∷ starts ∷ []) refl
feedless_text (Printed (Complete at n)) = feedless_numbers (codes "complete") (at ∷ n ∷ []) refl
feedless_text (Printed (Abandon at n)) = feedless_numbers (codes "abandon") (at ∷ n ∷ []) refl
feedless_text (Printed (End value)) = feedless_numbers (codes "end") (value ∷ []) refl
feedless_text (Refuses r) =
    feedless_line (codes "refuse") (map decimal (r.at ∷ refused_numbers r.line) ++ refused_word r.line ∷ []) refl
    (all_append HasNoFeed (map decimal (r.at ∷ refused_numbers r.line)) (refused_word r.line ∷ [])
    (feedless_decimals (r.at ∷ refused_numbers r.line))
    (feedless_refused r.line, tt))

-- lines of a trace
pub feedless_texts : (lines : List TraceLine) → AllByRecursion HasNoFeed (map text_of_line lines)
feedless_texts [] = tt
feedless_texts (line ∷ lines) = (feedless_text line, feedless_texts lines)

-- the numbers of a header have numerals
pub header_short : (rules : Declaration) → IsRatio rules.ratio
    → AreShort (header_numbers rules)
header_short rules ratio =
    let small_p : rules.ratio.p ≤ 1_000_000 = (ratio_limits ratio).small_p in
    let small_q : rules.ratio.q ≤ 1_000 = (ratio_limits ratio).small_q in (
      by_version rules.version,
      (
        omega arith,
        (
          omega arith,
          by_factor rules.ratio.factor (ratio_limits ratio).factor,
        ),
      ),
    ) where
      by_factor : (o : Option Factor) → IsTrue (is_some_factor o) → AreShort (factor_numbers o)
      by_factor None within = tt
      by_factor (Some f) within =
          let limits : FactorLimits f = factor_limits f within in
          let small_b : f.b ≤ 1_000_000 = limits.small_b in
          let small_c : f.c ≤ 1_000 = limits.small_c in
          (omega arith, (omega arith, tt))

      by_version : (v : Version) → version_number v < 10 ^ 18
      by_version One = omega arith
      by_version _ = omega arith

-- the header
pub feedless_header : (rules : Declaration) → HasNoFeed (header rules)
feedless_header rules =
    feedless_numbers (codes "dover") (header_numbers rules) refl
