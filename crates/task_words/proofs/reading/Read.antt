-- What is read of a task text's line.
use Rattle.std.proofs.Common.{◌≡◌, ◌≢◌, ℕ, suc, ◌<◌, List, [], ◌∷◌, ◌++◌, length, take, drop, refl, sym, ap, ◌∙◌, subst}
use Rattle.std.proofs.Common.{Bool, true, false, cond, Option, Some, None, arith, codes, Result, Ok, Err, IfOk}
use Rattle.std.proofs.Common.{bytes_eq, option_and_then, option_map, append-nil, ◌+◌, ◌-◌, ◌≤◌, ◌==◌, set, length-take}
use Rattle.std.proofs.Common.{take_all}
use Rattle.std.proofs.lemmas.List.{take_more_set}
use Rattle.std.proofs.lemmas.List.Splits.{length-slice_split}
use denote.Ref.{Bor}
use Rattle.dover_model.specs.Common.{numeral, numerals, AreShort, fields_of, is_too_long}
use Rattle.dover_model.proofs.lists.Members.{some_same}
use Rattle.dover_model.proofs.texts.ReadShort.{numerals_short}
use Rattle.dover_model.proofs.lists.Tests.{none_is_some}
use Rattle.line_text.specs.Reading.{fields_left, number_of_first}
use Rattle.line_text.proofs.SoMany.{one_more}
use Rattle.line_text.specs.declared.BadLine.{BadLine}
use Rattle.task_words.specs.reading.Lines.{task_of_numbers, ratio_line, task_numbers_line, end_line, line_of_word}
use Rattle.task_words.specs.reading.Lines.{line_of_fields, task_line, HasNumerals, name_of, task_of_fields}
use Rattle.task_words.specs.declared.tasks.name.TaskName.{TaskName}
use Rattle.task_words.specs.declared.reading.lines.TaskLine.{TaskLine}
use Rattle.task_words.specs.declared.reading.lines.TaskLine.TheVariants.{Declared, Factored, Task, End}

-- ---- no line has more than five numbers

many_ratio : (ns : List ℕ) → 5 < length ns → ratio_line ns ≡ None
many_ratio [] many = absurd (omega arith)
many_ratio (a ∷ []) many = refl
many_ratio (a ∷ b ∷ []) many = absurd (omega arith)
many_ratio (a ∷ b ∷ c ∷ []) many = absurd (omega arith)
many_ratio (a ∷ b ∷ c ∷ d ∷ []) many = refl
many_ratio (a ∷ b ∷ c ∷ d ∷ e ∷ []) many = absurd (omega arith)
many_ratio (a ∷ b ∷ c ∷ d ∷ e ∷ f ∷ ns) many = refl

many_end : (ns : List ℕ) → 5 < length ns → end_line ns ≡ None
many_end [] many = absurd (omega arith)
many_end (a ∷ ns) many = refl

many_word : (word ns : List ℕ) → 5 < length ns → line_of_word word ns ≡ None
many_word word ns many = by (bytes_eq word (codes "k")) (bytes_eq word (codes "end")) where
  by : (a c : Bool) → cond a (ratio_line ns) (cond c (end_line ns) None) ≡ None
  by true c = many_ratio ns many
  by false true = many_end ns many
  by false false = refl

-- so fields with no numbers, or more than five, are no such line
pub none_read : (word : List ℕ) (rest : List (List ℕ)) → ((ns : List ℕ) → numerals rest ≡ Some ns → 5 < length ns)
    → option_and_then (line_of_word word) (numerals rest) ≡ None
none_read word rest many = by (numerals rest) refl where
  by : (o : Option (List ℕ)) → numerals rest ≡ o → option_and_then (line_of_word word) o ≡ None
  by None e = refl
  by (Some ns) e = many_word word ns (many ns e)

-- ---- the numbers of a task that is read have numerals

ratio_short : (ns : List ℕ) (line : TaskLine) → ratio_line ns ≡ Some line → HasNumerals line
ratio_short [] line read = none_is_some read
ratio_short (p ∷ []) line read = none_is_some read
ratio_short (p ∷ q ∷ []) line read = subst HasNumerals (some_same (Declared p q None) line read) tt
ratio_short (p ∷ q ∷ v ∷ []) line read = subst HasNumerals (some_same (Declared p q (Some v)) line read) tt
ratio_short (p ∷ q ∷ v ∷ b ∷ []) line read = none_is_some read
ratio_short (p ∷ q ∷ v ∷ b ∷ c ∷ []) line read = subst HasNumerals (some_same (Factored p q v b c) line read) tt
ratio_short (p ∷ q ∷ v ∷ b ∷ c ∷ n ∷ ns) line read = none_is_some read

task_short : (name : TaskName) (ns : List ℕ) (line : TaskLine) → AreShort ns → task_numbers_line name ns ≡ Some line
    → HasNumerals line
task_short name [] line short read = none_is_some read
task_short name (o ∷ []) line short read = none_is_some read
task_short name (o ∷ p ∷ []) line short read = none_is_some read
task_short name (o ∷ p ∷ w ∷ []) line short read = none_is_some read
task_short name (o ∷ p ∷ w ∷ d ∷ []) line short read = none_is_some read
task_short name (o ∷ p ∷ w ∷ d ∷ v ∷ []) line short read =
    subst HasNumerals (some_same (Task (task_of_numbers name o p w d v)) line read) short
task_short name (o ∷ p ∷ w ∷ d ∷ v ∷ n ∷ ns) line short read = none_is_some read

end_short : (ns : List ℕ) (line : TaskLine) → end_line ns ≡ Some line → HasNumerals line
end_short [] line read = subst HasNumerals (some_same End line read) tt
end_short (n ∷ ns) line read = none_is_some read

word_short : (word ns : List ℕ) (line : TaskLine) → line_of_word word ns ≡ Some line → HasNumerals line
word_short word ns line read = by_word (bytes_eq word (codes "k")) (bytes_eq word (codes "end")) read where
  by_word : (a c : Bool) → cond a (ratio_line ns) (cond c (end_line ns) None) ≡ Some line → HasNumerals line
  by_word true c e = ratio_short ns line e
  by_word false true e = end_short ns line e
  by_word false false e = none_is_some e

-- a task by its fields
task_fields_short : (fields : List (List ℕ)) (line : TaskLine) → task_of_fields fields ≡ Some line → HasNumerals line
task_fields_short fields line read =
    by_name (name_of (drop 5 fields)) (numerals (take 5 fields)) (numerals_short (take 5 fields)) read where
      by_name : (name : Option TaskName) (o : Option (List ℕ)) → ((ns : List ℕ) → o ≡ Some ns → AreShort ns)
          → option_and_then (λ n. option_and_then (task_numbers_line n) o) name ≡ Some line → HasNumerals line
      by_name None o short e = none_is_some e
      by_name (Some name) None short e = none_is_some e
      by_name (Some name) (Some ns) short e = task_short name ns line (short ns refl) e

-- another line by its fields
plain_short : (word : List ℕ) (fields : List (List ℕ)) (line : TaskLine)
    → option_and_then (line_of_word word) (numerals fields) ≡ Some line → HasNumerals line
plain_short word fields line read = by (numerals fields) read where
  by : (o : Option (List ℕ)) → option_and_then (line_of_word word) o ≡ Some line → HasNumerals line
  by None e = none_is_some e
  by (Some ns) e = word_short word ns line e

fields_short : (fields : List (List ℕ)) (line : TaskLine) → line_of_fields fields ≡ Some line → HasNumerals line
fields_short [] line read = none_is_some read
fields_short (word ∷ fields) line read = by (bytes_eq word (codes "task")) read where
  by : (b : Bool) → cond b (task_of_fields fields) (option_and_then (line_of_word word) (numerals fields)) ≡ Some line
      → HasNumerals line
  by true e = task_fields_short fields line e
  by false e = plain_short word fields line e

read_numerals : (bytes : List ℕ) (line : TaskLine) → task_line bytes ≡ Some line → HasNumerals line
read_numerals bytes line read = by_length (is_too_long bytes) read where
  by_length : (b : Bool) → cond b None (line_of_fields (fields_of bytes)) ≡ Some line → HasNumerals line
  by_length true e = none_is_some e
  by_length false e = fields_short (fields_of bytes) line e

-- the same of an answer
pub read_short : (line : List ℕ) (r : Result TaskLine BadLine) → IfOk r (λ x. task_line line ≡ Some x)
    → IfOk r (λ x. HasNumerals x)
read_short line (Ok x) read = read_numerals line x read
read_short line (Err e) read = tt

-- ---- a task's fields

-- fewer or more than five numbers are no task's
pub no_task : (name : TaskName) (ns : List ℕ) → length ns ≢ 5 → task_numbers_line name ns ≡ None
no_task name [] other = refl
no_task name (o ∷ []) other = refl
no_task name (o ∷ p ∷ []) other = refl
no_task name (o ∷ p ∷ w ∷ []) other = refl
no_task name (o ∷ p ∷ w ∷ d ∷ []) other = refl
no_task name (o ∷ p ∷ w ∷ d ∷ v ∷ []) other = absurd (other refl)
no_task name (o ∷ p ∷ w ∷ d ∷ v ∷ n ∷ ns) other = refl

-- so fields of which the first five aren't five numbers are none
pub no_numbers : (fields : List (List ℕ)) → ((ns : List ℕ) → numerals (take 5 fields) ≡ Some ns → length ns ≢ 5)
    → task_of_fields fields ≡ None
no_numbers fields other = by (name_of (drop 5 fields)) (numerals (take 5 fields)) refl where
  by : (name : Option TaskName) (o : Option (List ℕ)) → numerals (take 5 fields) ≡ o
      → option_and_then (λ n. option_and_then (task_numbers_line n) o) name ≡ None
  by None o is = refl
  by (Some name) None is = refl
  by (Some name) (Some ns) is = no_task name ns (other ns is)

-- the number of a first field, and what is left behind it
module _ (n m : ℕ) (read : List ℕ) (rest : List (List ℕ)) where
  pub first_left : (fields : List (List ℕ)) → number_of_first fields ≡ Some (n, rest)
      → drop (suc m) fields ≡ drop m rest
  first_left [] e = none_is_some e
  first_left (field ∷ fields) e = by (numeral field) e where
    by : (o : Option ℕ) → option_map {U = ℕ × List (List ℕ)} (λ k. (k, fields)) o ≡ Some (n, rest)
        → drop m fields ≡ drop m rest
    by None is = none_is_some is
    by (Some k) is = ap (λ (p : ℕ × List (List ℕ)). drop m p.1) (some_same (k, fields) (n, rest) is)

  pub first_read : (fields : List (List ℕ)) → number_of_first fields ≡ Some (n, rest)
      → option_map (λ ns. (read ++ n ∷ []) ++ ns) (numerals (take m rest))
      ≡ option_map (λ ns. read ++ ns) (numerals (take (suc m) fields))
  first_read [] e = none_is_some e
  first_read (field ∷ fields) e = by (numeral field) e where
    by : (o : Option ℕ) → option_map {U = ℕ × List (List ℕ)} (λ k. (k, fields)) o ≡ Some (n, rest)
        → option_map (λ ns. (read ++ n ∷ []) ++ ns) (numerals (take m rest))
        ≡ option_map (λ ns. read ++ ns) (option_and_then (λ k. option_map (λ ns. k ∷ ns) (numerals (take m fields))) o)
    by None is = none_is_some is
    by (Some k) is = ap (λ (p : ℕ × List (List ℕ)). option_map (λ ns. (read ++ p.0 ∷ []) ++ ns) (numerals (take m p.1)))
        (sym (some_same (k, fields) (n, rest) is)) ∙ one_more read k (numerals (take m fields))

-- where the first field is no number, so aren't the first ones
pub none_first : (m : ℕ) (read : List ℕ) (fields : List (List ℕ)) → number_of_first fields ≡ None → (ns : List ℕ)
    → option_map (λ more. read ++ more) (numerals (take (suc m) fields)) ≡ Some ns → ns ≡ read
none_first m read [] none ns e = sym (some_same (read ++ []) ns e) ∙ append-nil read
none_first m read (field ∷ fields) none ns e = by (numeral field) none e where
  by : (o : Option ℕ) → option_map {U = ℕ × List (List ℕ)} (λ k. (k, fields)) o ≡ None
      → option_map (λ more. read ++ more)
      (option_and_then (λ k. option_map (λ ms. k ∷ ms) (numerals (take m fields))) o) ≡ Some ns → ns ≡ read
  by None is it = none_is_some it
  by (Some k) is it = none_is_some (sym is)

-- the next field is no number, so the first five aren't
pub none_next : (at : ℕ) (numbers : List ℕ) (left : Option (Bor (List ℕ))) (text : Bor (List ℕ))
    (all : Option (List ℕ)) → at < 5 → length numbers ≡ 5 → left ≡ Some text
    → number_of_first (fields_of text.now) ≡ None
    → option_map (λ ns. take at numbers ++ ns) (numerals (take (5 - at) (fields_left left))) ≡ all → (ns : List ℕ)
    → all ≡ Some ns → length ns ≡ 5 → ⊥
none_next at numbers left text all less places is none read ns all_is five =
    let next : 5 - at ≡ suc (4 - at) = omega (arith, less) in
    let it : option_map (λ more. take at numbers ++ more) (numerals (take (suc (4 - at)) (fields_of text.now)))
    ≡ Some ns =
    ap (λ k. option_map (λ more. take at numbers ++ more) (numerals (take k (fields_of text.now)))) (sym next)
    ∙ ap (λ o. option_map (λ more. take at numbers ++ more) (numerals (take (5 - at) (fields_left o)))) (sym is)
    ∙ read ∙ all_is in
    let same : ns ≡ take at numbers = none_first (4 - at) (take at numbers) (fields_of text.now) none ns it in
    omega (arith, less, places, five, ap length same, length-take at numbers)

-- it is one, and stands behind those before it
pub next_read : (at n : ℕ) (numbers : List ℕ) (left rest : Option (Bor (List ℕ))) (text : Bor (List ℕ))
    (all : Option (List ℕ)) → at < 5 → length numbers ≡ 5 → left ≡ Some text
    → Some (n, fields_left rest) ≡ number_of_first (fields_of text.now)
    → option_map (λ ns. take at numbers ++ ns) (numerals (take (5 - at) (fields_left left))) ≡ all
    → option_map (λ ns. take (at + 1) (set numbers at n) ++ ns) (numerals (take (5 - (at + 1)) (fields_left rest)))
    ≡ all
next_read at n numbers left rest text all less places is first read =
    let next : suc (5 - (at + 1)) ≡ 5 - at = omega (arith, less) in
    ap (λ l. option_map (λ ns. l ++ ns) (numerals (take (5 - (at + 1)) (fields_left rest))))
    (take_more_set numbers at n (omega (arith, less, places)))
    ∙ first_read n (5 - (at + 1)) (take at numbers) (fields_left rest) (fields_of text.now) (sym first)
    ∙ ap (λ k. option_map (λ ns. take at numbers ++ ns) (numerals (take k (fields_of text.now)))) next
    ∙ ap (λ o. option_map (λ ns. take at numbers ++ ns) (numerals (take (5 - at) (fields_left o)))) (sym is)
    ∙ read

-- and the same fields are left behind the first five
pub next_left : (at n : ℕ) (left rest : Option (Bor (List ℕ))) (text : Bor (List ℕ)) (all : List (List ℕ)) → at < 5
    → left ≡ Some text → Some (n, fields_left rest) ≡ number_of_first (fields_of text.now)
    → drop (5 - at) (fields_left left) ≡ all → drop (5 - (at + 1)) (fields_left rest) ≡ all
next_left at n left rest text all less is first behind =
    let next : suc (5 - (at + 1)) ≡ 5 - at = omega (arith, less) in
    sym (first_left n (5 - (at + 1)) [] (fields_left rest) (fields_of text.now) (sym first))
    ∙ ap (λ k. drop k (fields_of text.now)) next ∙ ap (λ o. drop (5 - at) (fields_left o)) (sym is) ∙ behind

-- all five are read
pub all_read : (at : ℕ) (numbers : List ℕ) (left : Option (Bor (List ℕ))) (all : Option (List ℕ)) → 5 ≤ at
    → length numbers ≡ 5
    → option_map (λ ns. take at numbers ++ ns) (numerals (take (5 - at) (fields_left left))) ≡ all
    → all ≡ Some numbers
all_read at numbers left all over places read =
    let none : 5 - at ≡ 0 = omega (arith, over) in
    sym read ∙ ap (λ k. option_map (λ ns. take at numbers ++ ns) (numerals (take k (fields_left left)))) none
    ∙ ap Some (append-nil (take at numbers) ∙ take_all at numbers (omega (arith, over, places)))

-- two fields are no name
pub no_name : (field rest : List ℕ) → name_of (field ∷ fields_of rest) ≡ None
no_name field rest = by (fields_of rest) (omega (arith, length-slice_split (λ b. b == 32) rest)) where
  by : (fields : List (List ℕ)) → 1 ≤ length fields → name_of (field ∷ fields) ≡ None
  by [] some = absurd (omega (arith, some))
  by (next ∷ fields) some = refl
