-- Each number below 10 ^ 18 has one numeral, its decimal digits.
use Rattle.std.proofs.Common.{rules, suc, zero, ◌≡◌, ℕ, ◌<◌, ◌^◌, List, [], ◌∷◌, length, get_or, refl, sym, ap, ◌∙◌}
use Rattle.std.proofs.Common.{subst, Bool, true, ◌&&◌, not, arith, Some, None, nat_le, decimal, eq-eqb, ne_eqb}
use Rattle.std.proofs.Common.{le-leb, leb-true}
use Rattle.std.specs.Bool.{then_some}
use Rattle.std.proofs.lemmas.Bool.{and_from}
use Rattle.std.specs.Str.{all_ascii_digits}
use Rattle.std.proofs.lemmas.Str.Parse.{IsNumeralModel, numerals_by_fold, digits_value_short}
use Rattle.std.proofs.lemmas.Fmt.{digits_decimal, digits_value-decimal, length-decimal-le, decimal-digits_value}
use Rattle.std.proofs.lemmas.Fmt.{decimal_nonempty, decimal_digit, first_decimal}
use Rattle.dover_model.specs.Numerals.{number_onto, is_plain, numeral}
use Rattle.dover_model.proofs.lists.Tests.{never}

-- digits as a model of numerals
pub own : IsNumeralModel (λ ds. all_ascii_digits ds ≡ true) (number_onto 0)
own = numerals_by_fold _ (search rules) number_onto (search rules)

-- three tests that pass
and_true : (a b c : Bool) → a ≡ true → b ≡ true → c ≡ true → (a && b && c) ≡ true
and_true a b c p q r = and_from (a && b) c (and_from a b p q) r

-- what three tests and a value say
pub then_true : (a b c : Bool) (x n : ℕ) → then_some (a && b && c) x ≡ Some n → (a ≡ true) × (b ≡ true) × (c ≡ true)
    × (x ≡ n)
then_true true true true x n h = (refl, refl, refl, cc)
then_true _ _ _ x n h = absurd (let e : None ≡ Some n = h in cc)

-- digits that have no leading zero are plain
plain : (ds : List ℕ) → 0 < length ds → (get_or ds 0 0 ≡ 48 → length ds ≡ 1) → is_plain ds ≡ true
plain [] some lead = absurd (omega arith)
plain (b ∷ []) some lead = refl
plain (b ∷ c ∷ ds) some lead =
    ap not (ne_eqb b 48 (λ zero. absurd (let one : length (b ∷ c ∷ ds) ≡ 1 = lead zero in omega arith)))

-- plain digits have no leading zero
from_plain : (ds : List ℕ) → is_plain ds ≡ true → (0 < length ds) × (get_or ds 0 0 ≡ 48 → length ds ≡ 1)
from_plain [] h = never h
from_plain (b ∷ []) h = (omega arith, λ _. refl)
from_plain (b ∷ c ∷ ds) h =
    (omega arith, λ zero. never (let e : not true ≡ true = subst (λ x. not x ≡ true) (eq-eqb b 48 zero) h in e))

-- a number has a leading zero only where it is zero
leading : (n : ℕ) → n < 10 ^ 18 → get_or (decimal n) 0 0 ≡ 48 → length (decimal n) ≡ 1
leading zero small lead = ap length (decimal_digit 0 (omega arith))
leading (suc n) small lead = absurd
    (let above : 48 < get_or (decimal (suc n)) 0 0 = first_decimal (suc n) (omega arith) (omega arith) in omega arith)

-- a number is read as it was written
pub numeral-decimal : (n : ℕ) → n < 10 ^ 18 → numeral (decimal n) ≡ Some n
numeral-decimal n small =
    ap (λ b. then_some b (number_onto 0 (decimal n)))
    (and_true (is_plain (decimal n)) (nat_le (length (decimal n)) 18) (all_ascii_digits (decimal n))
    (plain (decimal n) (decimal_nonempty n (omega arith)) (leading n small))
    (le-leb _ _ (length-decimal-le 18 n (omega arith) small (omega arith))) (digits_decimal own n (omega arith)))
    ∙ ap Some (digits_value-decimal own n (omega arith))

-- what is read was written so
pub decimal-numeral : (bs : List ℕ) (n : ℕ) → numeral bs ≡ Some n → decimal n ≡ bs
decimal-numeral bs n h =
    let facts = then_true (is_plain bs) (nat_le (length bs) 18) (all_ascii_digits bs) (number_onto 0 bs) n h in
    ap decimal (sym facts.3) ∙ decimal-digits_value own bs facts.2 (from_plain bs facts.0).0 (from_plain bs facts.0).1
    (omega (arith, digits_value_short own bs 18 facts.2 (leb-true _ _ facts.1)))
