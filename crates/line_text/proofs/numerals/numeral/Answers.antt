use Rattle.std.proofs.Common.{◌≡◌, ℕ, List, take, take_all, Some, true, sym, ap, ◌∙◌, arith}
use Rattle.std.specs.Bool.{then_some}
use Rattle.std.specs.Str.{all_ascii_digits}
use Rattle.dover_model.specs.Numerals.{number_onto}
use Rattle.line_text.proofs.FirstNumber.{other_in, too_many, few_digits}
use Rattle.line_text.proofs.numerals.numeral.Goals as goal

pub returns-in_default-clause-is : goal.returns-in_default-clause-is
returns-in_default-clause-is c = sym (too_many c.args.text.now c.in_default.ensures.room)

pub returns-then-digits-text-clause-is : goal.returns-then-digits-text-clause-is
returns-then-digits-text-clause-is c =
    sym (other_in c.args.text.now c.in-Some.digits c.if-digits-text.true (c.in-Some.ensures.all c.if-digits-text.true))

pub returns-clause-is : goal.returns-clause-is
returns-clause-is c =
    let text : List ℕ = c.args.text.now in
    let whole : take c.in-Some.digits text ≡ text =
    take_all c.in-Some.digits text (omega (arith, c.if-digits-text.false)) in
    let digits : all_ascii_digits text ≡ true = ap all_ascii_digits (sym whole) ∙ c.in-Some.ensures.digits in
    sym (few_digits text (omega (arith, c.if-digits-text.false, c.in-Some.ensures.few)) digits
    ∙ ap (λ b. then_some b (number_onto 0 text)) (sym c.is_plain.ensures ∙ c.if-not-is_plain.false)
    ∙ ap (λ bs. Some (number_onto 0 bs)) (sym whole) ∙ ap (λ (n : ℕ). Some n) (sym c.in-Some.ensures.number))
