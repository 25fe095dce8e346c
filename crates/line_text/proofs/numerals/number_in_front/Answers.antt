use Rattle.std.proofs.Common.{◌≡◌, ℕ, ◌<◌, List, length, take, take_all, true, sym, ap, ◌∙◌, ne_eqb, arith}
use Rattle.std.specs.Str.{all_ascii_digits}
use Rattle.std.proofs.lemmas.List.{take_rest, length-take-le}
use Rattle.dover_model.specs.Numerals.{number_onto}
use Rattle.line_text.proofs.FirstNumber.{digits_many, digits_end, digits_space, digits_other, digits_read}
use Rattle.line_text.proofs.numerals.number_in_front.Goals as goal

pub returns-in_default-clause-read : goal.returns-in_default-clause-read
returns-in_default-clause-read c = sym (digits_many c.args.line.now c.in_default.ensures.room c.in_default.ensures.many)

pub returns-then-digits-line-clause-read : goal.returns-then-digits-line-clause-read
returns-then-digits-line-clause-read c =
    let line : List ℕ = c.args.line.now in
    let whole : take c.in-Some.digits line ≡ line =
    take_all c.in-Some.digits line (omega (arith, c.if-digits-line.true)) in
    let digits : all_ascii_digits line ≡ true = ap all_ascii_digits (sym whole) ∙ c.in-Some.ensures.digits in
    digits_read line line c.in-Some.number _ c.is_plain.result c.then_some.result c.then_some.ensures c.is_plain.ensures
    (digits_end line digits)
    (omega (arith, c.if-digits-line.true, c.in-Some.ensures.few)) digits
    (c.in-Some.ensures.number ∙ ap (number_onto 0) whole)

pub returns-then-line-digits-ne32-clause-read : goal.returns-then-line-digits-ne32-clause-read
returns-then-line-digits-ne32-clause-read c =
    let here : c.in-Some.digits < length c.args.line.now =
    omega (arith, c.in-Some.ensures.within, c.if-digits-line.false) in
    sym (digits_other c.args.line.now c.in-Some.digits here
    (ne_eqb _ 32 c.if-line-digits-ne32.true) (c.in-Some.ensures.all here) c.in-Some.ensures.digits)

pub returns-clause-read : goal.returns-clause-read
returns-clause-read c =
    let line : List ℕ = c.args.line.now in
    let here : c.in-Some.digits < length line = omega (arith, c.in-Some.ensures.within, c.if-digits-line.false) in
    digits_read line (take c.in-Some.digits line) c.in-Some.number _ c.is_plain-2.result c.then_some-2.result
    c.then_some-2.ensures
    c.is_plain-2.ensures
    (rw take_rest (digits_space line c.in-Some.digits here c.if-line-digits-ne32.false c.in-Some.ensures.digits))
    (omega (arith, c.in-Some.ensures.few, length-take-le c.in-Some.digits line c.in-Some.ensures.within))
    c.in-Some.ensures.digits
    c.in-Some.ensures.number
