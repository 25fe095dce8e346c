-- A line of fields is cut into these fields, and numbers in it are read as they were written.
use Rattle.std.proofs.Common.{◌≡◌, ℕ, ◌+◌, ◌*◌, ◌≤◌, List, [], ◌∷◌, ◌++◌, length, length-append, map, refl, sym, ap}
use Rattle.std.proofs.Common.{◌∙◌, subst, Bool, true, cond, not, ◌&&◌, arith, decimal, Option, Some, None, ◌==◌}
use Rattle.std.proofs.Common.{option_and_then, option_map, ne_eqb, leb-true}
use Rattle.std.specs.List.{AllByRecursion, list_all, slice_split, onto_first}
use Rattle.std.specs.Str.{all_ascii_digits}
use Rattle.std.specs.Char.{is_ascii_digit}
use Rattle.std.proofs.lemmas.Bool.{and_parts, not-true}
use Rattle.std.proofs.lemmas.Fmt.{digits_decimal, length-decimal-le}
use Rattle.std.proofs.lemmas.List.Splits.{join_with_byte-slice_split}
use Rattle.dover_model.specs.Common.{numeral, numerals, AreShort, fields_of, line_of, with_numbers}
use Rattle.dover_model.proofs.texts.Numerals.{own, numeral-decimal, decimal-numeral}

-- ---- cutting

-- the byte separates fields
abbrev pub is_space : ℕ → Bool
is_space b = b == 32

-- no byte of the field separates fields
abbrev pub HasNoSpace : List ℕ → Type 0
HasNoSpace bs = list_all (λ b. not (is_space b)) bs ≡ true

-- a last field is cut as it is
split_last : (bs : List ℕ) → HasNoSpace bs → slice_split is_space bs ≡ bs ∷ []
split_last [] none = refl
split_last (b ∷ bs) none = let both = and_parts _ _ none in
    ap (λ c. cond c ([] ∷ slice_split is_space bs) (onto_first b (slice_split is_space bs)))
    (not-true (is_space b) both.0)
    ∙ ap (onto_first b) (split_last bs both.1)

-- a field before others is cut from them
split_next : (bs rest : List ℕ) → HasNoSpace bs
    → slice_split is_space (bs ++ 32 ∷ rest) ≡ bs ∷ slice_split is_space rest
split_next [] rest none = refl
split_next (b ∷ bs) rest none = let both = and_parts _ _ none in
    ap (λ c. cond c ([] ∷ slice_split is_space (bs ++ 32 ∷ rest))
    (onto_first b (slice_split is_space (bs ++ 32 ∷ rest))))
    (not-true (is_space b) both.0) ∙ ap (onto_first b) (split_next bs rest both.1)

-- a line of fields is cut into them
pub fields_of-line_of : (field : List ℕ) (fields : List (List ℕ)) → HasNoSpace field → AllByRecursion HasNoSpace fields
    → fields_of (line_of (field ∷ fields)) ≡ field ∷ fields
fields_of-line_of field [] none all = split_last field none
fields_of-line_of field (next ∷ fields) none all = split_next field (line_of (next ∷ fields)) none
    ∙ ap (λ fs. field ∷ fs) (fields_of-line_of next fields all.0 all.1)

-- the fields of a line make up the line
pub line_of-fields_of : (line : List ℕ) → line_of (fields_of line) ≡ line
line_of-fields_of line = join_with_byte-slice_split 32 line

-- ---- numbers

-- digits have no space
pub digits_have_no_space : (ds : List ℕ) → all_ascii_digits ds ≡ true → HasNoSpace ds
digits_have_no_space [] digits = refl
digits_have_no_space (d ∷ ds) digits =
    let both = and_parts (is_ascii_digit d) (all_ascii_digits ds) digits in
    let least : 48 ≤ d = leb-true 48 d (and_parts _ _ both.0).0 in
    ap (λ b. not b && list_all (λ b. not (is_space b)) ds) (ne_eqb d 32 (λ same. absurd (omega arith)))
    ∙ digits_have_no_space ds both.1

-- nor have numerals
pub decimals-HasNoSpace : (ns : List ℕ) → AreShort ns → AllByRecursion HasNoSpace (map decimal ns)
decimals-HasNoSpace [] short = tt
decimals-HasNoSpace (n ∷ ns) short =
    (digits_have_no_space (decimal n) (digits_decimal own n (omega (arith, short.0))), decimals-HasNoSpace ns short.1)

-- numerals are read as the numbers that they were written from
pub numerals-decimals : (ns : List ℕ) → AreShort ns → numerals (map decimal ns) ≡ Some ns
numerals-decimals [] short = refl
numerals-decimals (n ∷ ns) short =
    ap (option_and_then (λ m. option_map (λ ms. m ∷ ms) (numerals (map decimal ns)))) (numeral-decimal n short.0)
    ∙ ap (option_map (λ ms. n ∷ ms)) (numerals-decimals ns short.1)

-- numbers that are read were written so
pub decimals-numerals : (fields : List (List ℕ)) (ns : List ℕ) → numerals fields ≡ Some ns → map decimal ns ≡ fields
decimals-numerals [] ns read =
    ap (map decimal) (let e : Some [] ≡ Some ns = read in let same : [] ≡ ns = cc in sym same)
decimals-numerals (field ∷ fields) ns read =
    by_first (numeral field) (numerals fields) refl refl (decimals-numerals fields) read where
      by_first : (first : Option ℕ) (rest : Option (List ℕ)) → numeral field ≡ first → numerals fields ≡ rest
          → ((ms : List ℕ) → numerals fields ≡ Some ms → map decimal ms ≡ fields)
          → option_and_then (λ m. option_map (λ ms. m ∷ ms) rest) first ≡ Some ns → map decimal ns ≡ field ∷ fields
      by_first None rest first_read rest_read more all = absurd (let e : None ≡ Some ns = all in cc)
      by_first (Some m) None first_read rest_read more all = absurd (let e : None ≡ Some ns = all in cc)
      by_first (Some m) (Some ms) first_read rest_read more all =
          let whole : m ∷ ms ≡ ns = (let e : Some (m ∷ ms) ≡ Some ns = all in cc) in
          subst (λ xs. map decimal xs ≡ field ∷ fields) whole
          (ap (λ f. f ∷ map decimal ms) (decimal-numeral field m first_read)
          ∙ ap (λ fs. field ∷ fs) (more ms rest_read))

-- ---- lengths

-- a word and numbers are no longer than so
pub length-with_numbers : (word : List ℕ) (ns : List ℕ) → AreShort ns
    → length (with_numbers word ns) ≤ length word + 19 * length ns
length-with_numbers word [] short = omega arith
length-with_numbers word (n ∷ ns) short =
    let more : length (with_numbers (decimal n) ns) ≤ length (decimal n) + 19 * length ns =
    length-with_numbers (decimal n) ns short.1 in
    let digits : length (decimal n) ≤ 18 = length-decimal-le 18 n (omega arith) short.0 (omega arith) in
    omega (arith, length-append word (32 ∷ with_numbers (decimal n) ns))
