-- The number that a line begins with, found by its digits.
use Rattle.std.proofs.Common.{◌≡◌, ℕ, ◌+◌, ◌-◌, ◌*◌, ◌^◌, ◌<◌, ◌≤◌, List, [], ◌∷◌, ◌++◌, length, length-append}
use Rattle.std.proofs.Common.{append-nil, get_or, take, drop, take-append-drop, length-take-le, refl, sym, ap, ◌∙◌}
use Rattle.std.proofs.Common.{Bool, true, false, not, ◌&&◌, Option, Some, None, arith, leb, leb-true, lt_of_lt_of_le}
use Rattle.std.proofs.Common.{nat_le, option_map, option_and_then, le-leb}
use Rattle.std.proofs.Math.Nat.{pow-le-pow_right}
use Rattle.std.proofs.lemmas.Grind.{pow_more}
use Rattle.std.specs.Bool.{then_some}
use Rattle.std.specs.Char.{is_ascii_digit}
use Rattle.std.specs.Str.{all_ascii_digits}
use Rattle.std.specs.List.{list_all, onto_first}
use Rattle.std.proofs.lemmas.Bool.{and_parts, lt-leb, not-true, and_right}
use Rattle.std.proofs.lemmas.List.{take_more, drop_more}
use Rattle.std.proofs.lemmas.List.Splits.{slice_split-cons_yes, slice_split-cons_no}
use denote.Ref.{Bor}
use Rattle.dover_model.specs.Common.{fields_of, number_onto, is_plain, numeral, numerals}
use Rattle.dover_model.proofs.texts.Fields.{is_space, HasNoSpace, digits_have_no_space}
use Rattle.line_text.specs.Reading.{fields_left, number_of_first}

-- ---- digits

-- a digit stands for a number below ten
pub digit_small : (b : ℕ) → is_ascii_digit b ≡ true → b - 48 ≤ 9
digit_small b digit = let most : b ≤ 57 = leb-true b 57 (and_parts (leb 48 b) (leb b 57) digit).1 in omega arith

-- one digit more
digits_and : (ds : List ℕ) (b : ℕ) → all_ascii_digits ds ≡ true → is_ascii_digit b ≡ true
    → all_ascii_digits (ds ++ b ∷ []) ≡ true
digits_and [] b digits digit = ap (λ t. t && true) digit
digits_and (d ∷ ds) b digits digit = let both = and_parts (is_ascii_digit d) (all_ascii_digits ds) digits in
    ap (λ t. t && all_ascii_digits (ds ++ b ∷ [])) both.0 ∙ digits_and ds b both.1 digit

-- one digit read more
pub digits_more : (text : List ℕ) (i : ℕ) → i < length text → all_ascii_digits (take i text) ≡ true
    → is_ascii_digit (get_or text i 0) ≡ true
    → all_ascii_digits (take (i + 1) text) ≡ true
digits_more text i here digits digit = ap all_ascii_digits (take_more text i 0 here)
    ∙ digits_and (take i text) (get_or text i 0) digits digit

-- a number of at most so many digits
pub at_most : (n i most : ℕ) → n < 10 ^ i → i ≤ most → n < 10 ^ most
at_most n i most small few = lt_of_lt_of_le small (pow-le-pow_right (omega arith) few)

-- a number with a digit more
pub small_more : (n i d : ℕ) → n < 10 ^ i → d ≤ 9 → 10 * n + d < 10 ^ (i + 1)
small_more n i d small digit = rw (pow_more 10 i) (omega arith)

-- the number with a digit behind
number_and : (n : ℕ) (ds : List ℕ) (b : ℕ) → number_onto n (ds ++ b ∷ []) ≡ 10 * number_onto n ds + (b - 48)
number_and n [] b = refl
number_and n (d ∷ ds) b = number_and (10 * n + (d - 48)) ds b

-- the number with a digit read more
pub number_more : (text : List ℕ) (i : ℕ) → i < length text
    → 10 * number_onto 0 (take i text) + (get_or text i 0 - 48) ≡ number_onto 0 (take (i + 1) text)
number_more text i here =
    sym (ap (number_onto 0) (take_more text i 0 here) ∙ number_and 0 (take i text) (get_or text i 0))

-- a byte that is no digit among others
digits_stop : (ds : List ℕ) (b : ℕ) (more : List ℕ) → is_ascii_digit b ≡ false
    → all_ascii_digits (ds ++ b ∷ more) ≡ false
digits_stop [] b more other = ap (λ t. t && all_ascii_digits more) other
digits_stop (d ∷ ds) b more other = ap (λ t. is_ascii_digit d && t) (digits_stop ds b more other)
    ∙ and_right (is_ascii_digit d) false refl

-- ---- numerals

-- other bytes than digits are none
not_digits : (bs : List ℕ) → all_ascii_digits bs ≡ false → numeral bs ≡ None
not_digits bs other = ap (λ t. then_some (is_plain bs && nat_le (length bs) 18 && t) (number_onto 0 bs)) other
    ∙ ap (λ t. then_some t (number_onto 0 bs)) (and_right (is_plain bs && nat_le (length bs) 18) false refl)

-- more than 18 are none
pub too_many : (bs : List ℕ) → 18 < length bs → numeral bs ≡ None
too_many bs many = ap (λ t. then_some (is_plain bs && t && all_ascii_digits bs) (number_onto 0 bs))
    (lt-leb (length bs) 18 many)
    ∙ ap (λ t. then_some (t && all_ascii_digits bs) (number_onto 0 bs)) (and_right (is_plain bs) false refl)

-- digits, at most 18, are one where they are plain
pub few_digits : (ds : List ℕ) → length ds ≤ 18 → all_ascii_digits ds ≡ true
    → numeral ds ≡ then_some (is_plain ds) (number_onto 0 ds)
few_digits ds few digits =
    ap (λ t. then_some (is_plain ds && t && all_ascii_digits ds) (number_onto 0 ds)) (le-leb (length ds) 18 few)
    ∙ ap (λ t. then_some (is_plain ds && true && t) (number_onto 0 ds)) digits ∙ by (is_plain ds) where
      by : (b : Bool) → then_some (b && true && true) (number_onto 0 ds) ≡ then_some b (number_onto 0 ds)
      by true = refl
      by false = refl

-- ---- a whole text

-- digits and another byte somewhere
pub other_in : (text : List ℕ) (i : ℕ) → i < length text → is_ascii_digit (get_or text i 0) ≡ false
    → numeral text ≡ None
other_in text i here other =
    let parts : take i text ++ get_or text i 0 ∷ drop (i + 1) text ≡ text =
    ap (λ bs. take i text ++ bs) (sym (drop_more text i 0 here)) ∙ take-append-drop i text in
    not_digits text (ap all_ascii_digits (sym parts)
    ∙ digits_stop (take i text) (get_or text i 0) (drop (i + 1) text) other)

-- ---- the first field

-- bytes before a line, of which none is a space, are before its first field
fields_behind : (ds line field : List ℕ) (fields : List (List ℕ)) → HasNoSpace ds → fields_of line ≡ field ∷ fields
    → fields_of (ds ++ line) ≡ (ds ++ field) ∷ fields
fields_behind [] line field fields none e = e
fields_behind (d ∷ ds) line field fields none e =
    let both = and_parts (not (is_space d)) (list_all (λ b. not (is_space b)) ds) none in
    slice_split-cons_no is_space d (ds ++ line) (not-true (is_space d) both.0)
    ∙ ap (onto_first d) (fields_behind ds line field fields both.1 e)

-- there is a first field
first_of : (line : List ℕ) → (field : List ℕ) × (fields : List (List ℕ)) × (fields_of line ≡ field ∷ fields)
first_of [] = ([], [], refl)
first_of (b ∷ line) = by (is_space b) refl (first_of line) where
  by : (c : Bool) → is_space b ≡ c → (field : List ℕ) × (fields : List (List ℕ)) × (fields_of line ≡ field ∷ fields)
      → (field : List ℕ) × (fields : List (List ℕ)) × (fields_of (b ∷ line) ≡ field ∷ fields)
  by true space more = ([], fields_of line, slice_split-cons_yes is_space b line space)
  by false other more = (b ∷ more.0, more.1, slice_split-cons_no is_space b line other ∙ ap (onto_first b) more.2)

-- a first field that is no numeral
no_number : (field : List ℕ) (fields : List (List ℕ)) → numeral field ≡ None → number_of_first (field ∷ fields) ≡ None
no_number field fields none = ap (option_map (λ n. let f : ℕ × List (List ℕ) = (n, fields) in f)) none

-- digits to the end
pub digits_end : (line : List ℕ) → all_ascii_digits line ≡ true → fields_of line ≡ line ∷ []
digits_end line digits = ap fields_of (sym (append-nil line))
    ∙ fields_behind line [] [] [] (digits_have_no_space line digits) refl
    ∙ ap (λ f. f ∷ []) (append-nil line)

-- digits to a space
pub digits_space : (line : List ℕ) (i : ℕ) → i < length line → get_or line i 0 ≡ 32
    → all_ascii_digits (take i line) ≡ true
    → fields_of line ≡ take i line ∷ fields_of (drop (i + 1) line)
digits_space line i here space digits =
    let parts : line ≡ take i line ++ 32 ∷ drop (i + 1) line = sym (take-append-drop i line)
    ∙ ap (λ bs. take i line ++ bs) (drop_more line i 0 here) ∙ ap (λ b. take i line ++ b ∷ drop (i + 1) line) space in
    ap fields_of parts
    ∙ fields_behind (take i line) (32 ∷ drop (i + 1) line) [] (fields_of (drop (i + 1) line))
    (digits_have_no_space (take i line) digits) refl
    ∙ ap (λ f. f ∷ fields_of (drop (i + 1) line)) (append-nil (take i line))

-- digits to another byte
pub digits_other : (line : List ℕ) (i : ℕ) → i < length line → is_space (get_or line i 0) ≡ false
    → is_ascii_digit (get_or line i 0) ≡ false
    → all_ascii_digits (take i line) ≡ true → number_of_first (fields_of line) ≡ None
digits_other line i here space other digits =
    let b : ℕ = get_or line i 0 in
    let rest : List ℕ = drop (i + 1) line in
    let first = first_of rest in
    let front : fields_of (b ∷ rest) ≡ (b ∷ first.0) ∷ first.1 = slice_split-cons_no is_space b rest space
    ∙ ap (onto_first b) first.2 in
    let parts : line ≡ take i line ++ b ∷ rest = sym (take-append-drop i line)
    ∙ ap (λ bs. take i line ++ bs) (drop_more line i 0 here) in
    ap (λ bs. number_of_first (fields_of bs)) parts
    ∙ ap number_of_first (fields_behind (take i line) (b ∷ rest) (b ∷ first.0) first.1
    (digits_have_no_space (take i line) digits) front)
    ∙ no_number (take i line ++ b ∷ first.0) first.1
    (not_digits (take i line ++ b ∷ first.0) (digits_stop (take i line) b first.0 other))

-- more digits than a numeral has
pub digits_many : (line : List ℕ) → 18 < length line → all_ascii_digits (take 19 line) ≡ true
    → number_of_first (fields_of line) ≡ None
digits_many line many digits =
    let first = first_of (drop 19 line) in
    let size : length (take 19 line) ≡ 19 = length-take-le 19 line (omega arith) in
    ap (λ bs. number_of_first (fields_of bs)) (sym (take-append-drop 19 line))
    ∙ ap number_of_first (fields_behind (take 19 line) (drop 19 line) first.0 first.1
    (digits_have_no_space (take 19 line) digits) first.2)
    ∙ no_number (take 19 line ++ first.0) first.1
    (too_many (take 19 line ++ first.0) (omega (arith, length-append (take 19 line) first.0)))

-- a first field of digits
pub digits_field : (ds : List ℕ) (fields : List (List ℕ)) → length ds ≤ 18 → all_ascii_digits ds ≡ true
    → number_of_first (ds ∷ fields) ≡ option_map (λ n. (n, fields)) (then_some (is_plain ds) (number_onto 0 ds))
digits_field ds fields few digits =
    ap (option_map (λ n. let f : ℕ × List (List ℕ) = (n, fields) in f)) (few_digits ds few digits)

-- what a first number and the fields behind it give
step : ℕ × List (List ℕ) → Option (List ℕ)
step f = option_map (λ ns. f.0 ∷ ns) (numerals f.1)

-- the numbers of fields, by the first
by_number : (o : Option ℕ) (fields : List (List ℕ))
    → option_and_then (λ n. option_map (λ ns. n ∷ ns) (numerals fields)) o
    ≡ option_and_then step (option_map (λ n. let f : ℕ × List (List ℕ) = (n, fields) in f) o)
unfolding step
by_number None fields = refl
by_number (Some n) fields = refl

-- the numbers of a line, by the first
numbers_by_first : (line : List ℕ) → numerals (fields_of line) ≡ option_and_then step (number_of_first (fields_of line))
numbers_by_first line = let first = first_of line in
    ap numerals first.2 ∙ by_number (numeral first.0) first.1
    ∙ sym (ap (λ fs. option_and_then step (number_of_first fs)) first.2)

-- the numbers of a line, by what was read of the first
pub numbers_read : (line : List ℕ) (r : Option (ℕ × Option (Bor (List ℕ))))
    → option_map (λ f. (f.0, fields_left f.1)) r ≡ number_of_first (fields_of line)
    → numerals (fields_of line) ≡ option_and_then (λ f. option_map (λ ns. f.0 ∷ ns) (numerals (fields_left f.1))) r
unfolding step
numbers_read line None read = numbers_by_first line ∙ ap (option_and_then step) (sym read)
numbers_read line (Some f) read = numbers_by_first line ∙ ap (option_and_then step) (sym read)

-- a number with what is left behind it
abbrev pub seen : ℕ × Option (Bor (List ℕ)) → ℕ × List (List ℕ)
seen f = (f.0, fields_left f.1)

-- a number and the fields left
abbrev behind : Option (Bor (List ℕ)) → ℕ → ℕ × List (List ℕ)
behind rest n = (n, fields_left rest)

-- a first field of digits, with what is left behind it, is read where it is plain
pub digits_read : (line field : List ℕ) (number : ℕ) (rest : Option (Bor (List ℕ))) (plain : Bool)
    (r : Option (ℕ × Option (Bor (List ℕ))))
    → r ≡ then_some plain (number, rest) → plain ≡ is_plain field → fields_of line ≡ field ∷ fields_left rest
    → length field ≤ 18
    → all_ascii_digits field ≡ true → number ≡ number_onto 0 field
    → option_map seen r ≡ number_of_first (fields_of line)
digits_read line field number rest plain r e tested cut few digits counted = ap (option_map seen) e ∙ by plain
    ∙ ap (λ b. then_some b (behind rest number)) tested
    ∙ ap (λ n. then_some (is_plain field) (behind rest n)) counted ∙ sym (by_field (is_plain field))
    ∙ sym (digits_field field (fields_left rest) few digits) ∙ sym (ap number_of_first cut) where
      by : (b : Bool) → option_map seen (then_some b (number, rest)) ≡ then_some b (behind rest number)
      by true = refl
      by false = refl

      by_field : (b : Bool) → option_map (λ n. let f : ℕ × List (List ℕ) = (n, fields_left rest) in f)
          (then_some b (number_onto 0 field))
          ≡ then_some b (behind rest (number_onto 0 field))
      by_field true = refl
      by_field false = refl
