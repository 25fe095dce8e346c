-- The numbers of a line, one after the other.
use Rattle.std.proofs.Common.{◌≡◌, ℕ, suc, ◌<◌, List, [], ◌∷◌, ◌++◌, length, length-append, refl, sym, ap, ◌∙◌, true}
use Rattle.std.proofs.Common.{false, Option, Some, None, option_map, arith, ◌==◌, option_and_then, is_some}
use Rattle.std.proofs.Common.{append_assoc, append-nil}
use Rattle.std.proofs.lemmas.List.Splits.{length-slice_split}
use Rattle.dover_model.specs.Common.{fields_of, numeral, numerals}
use Rattle.dover_model.proofs.lists.Members.{some_same}
use Rattle.dover_model.proofs.lists.Tests.{never, none_is_some}
use Rattle.line_text.specs.Reading.{fields_left}
use denote.Ref.{Bor}

-- one number more before the rest
pub one_more : (read : List ℕ) (n : ℕ) (o : Option (List ℕ)) → option_map (λ ns. (read ++ n ∷ []) ++ ns) o
    ≡ option_map (λ ns. read ++ ns) (option_map (λ ns. n ∷ ns) o)
one_more read n None = refl
one_more read n (Some ns) = ap Some (append_assoc read (n ∷ []) ns)

-- there are as many numbers as fields
count_numbers : (fields : List (List ℕ)) (ns : List ℕ) → numerals fields ≡ Some ns → length ns ≡ length fields
count_numbers [] ns e = ap length (sym (some_same [] ns e))
count_numbers (field ∷ fields) ns e =
    by_first (numeral field) (numerals fields) (λ ms is. count_numbers fields ms is) e where
      by_first : (first : Option ℕ) (rest : Option (List ℕ))
          → ((ms : List ℕ) → rest ≡ Some ms → length ms ≡ length fields)
          → option_and_then (λ n. option_map (λ ms. n ∷ ms) rest) first ≡ Some ns → length ns ≡ suc (length fields)
      by_first None rest counts read = none_is_some read
      by_first (Some n) None counts read = none_is_some read
      by_first (Some n) (Some ms) counts read =
          ap length (sym (some_same (n ∷ ms) ns read)) ∙ ap suc (counts ms refl)

-- what is left is a number more at least
pub more_left : (left : Option (Bor (List ℕ))) (read ns : List ℕ) → true ≡ is_some left
    → option_map (λ ms. read ++ ms) (numerals (fields_left left)) ≡ Some ns → length read < length ns
more_left None read ns some e = never (sym some)
more_left (Some text) read ns some e = by_numbers (numerals (fields_of text.now)) refl e where
  by_numbers : (o : Option (List ℕ)) → numerals (fields_of text.now) ≡ o
      → option_map (λ ms. read ++ ms) o ≡ Some ns → length read < length ns
  by_numbers None is read_so = none_is_some read_so
  by_numbers (Some ms) is read_so = omega (
    arith,
    ap length (some_same (read ++ ms) ns read_so),
    length-append read ms,
    count_numbers (fields_of text.now) ms is,
    length-slice_split (λ b. b == 32) text.now,
  )

-- nothing is left
pub none_left : (left : Option (Bor (List ℕ))) (read : List ℕ) → false ≡ is_some left
    → option_map (λ ms. read ++ ms) (numerals (fields_left left)) ≡ Some read
none_left None read none = ap Some (append-nil read)
none_left (Some text) read none = never none
