use Rattle.std.proofs.Common.{◌≡◌, ℕ, List, ◌+◌, ◌-◌, ◌*◌, ◌^◌, ◌<◌, get_or, take, true, ap, sym, ◌∙◌, subst, arith}
use Rattle.std.specs.Char.{is_ascii_digit}
use Rattle.std.specs.Str.{all_ascii_digits}
use Rattle.line_text.proofs.FirstNumber.{at_most, small_more, digit_small, digits_more, number_more}
use Rattle.line_text.proofs.numerals.leading_digits.Goals as goal

pub returns-then-digit-gt9-clause-short : goal.returns-then-digit-gt9-clause-short
returns-then-digit-gt9-clause-short c =
    at_most c.loop-at.number c.loop-at.at 18 c.loop-at.invariant.small c.loop-at.invariant.few

pub returns-clause-short : goal.returns-clause-short
returns-clause-short c = at_most c.loop-at.number c.loop-at.at 18 c.loop-at.invariant.small c.loop-at.invariant.few

pub returns-then-at-eq-MOST_DIGITS-clause-many : goal.returns-then-at-eq-MOST_DIGITS-clause-many
returns-then-at-eq-MOST_DIGITS-clause-many c =
    let text : List ℕ = c.args.text.now in
    let digit : is_ascii_digit (get_or text c.loop-at.at 0) ≡ true =
    (c.above_zero-digit.ensures.digit (omega (arith, c.if-digit-gt9.false))).0 in
    subst (λ n. all_ascii_digits (take (n + 1) text) ≡ true) c.if-at-eq-MOST_DIGITS.true
    (digits_more text c.loop-at.at c.loop-at-test.true c.loop-at.invariant.digits digit)

pub overflow_mul-number : goal.overflow_mul-number
overflow_mul-number c =
    let low : c.loop-at.number < 10 ^ 18 =
    at_most c.loop-at.number c.loop-at.at 18 c.loop-at.invariant.small c.loop-at.invariant.few in omega arith

pub overflow_add-number : goal.overflow_add-number
overflow_add-number c =
    let low : c.loop-at.number < 10 ^ 18 =
    at_most c.loop-at.number c.loop-at.at 18 c.loop-at.invariant.small c.loop-at.invariant.few in
    omega (arith, c.if-digit-gt9.false)

pub loop-at-preserved : goal.loop-at-preserved
loop-at-preserved c =
    let byte : ℕ = get_or c.args.text.now c.loop-at.at 0 in
    let digit : is_ascii_digit byte ≡ true =
    (c.above_zero-digit.ensures.digit (omega (arith, c.if-digit-gt9.false))).0 in
    let stands : c.above_zero-digit.result ≡ byte - 48 =
    (c.above_zero-digit.ensures.digit (omega (arith, c.if-digit-gt9.false))).1 in
    let added : 10 * c.loop-at.number + c.above_zero-digit.result ≡ 10 * c.loop-at.number + (byte - 48) =
    ap (λ d. 10 * c.loop-at.number + d) stands in
    record {
      digits = digits_more c.args.text.now c.loop-at.at c.loop-at-test.true c.loop-at.invariant.digits digit;
      number = added ∙ ap (λ n. 10 * n + (byte - 48)) c.loop-at.invariant.number
          ∙ number_more c.args.text.now c.loop-at.at c.loop-at-test.true;
      small = subst (λ n. n < 10 ^ (c.loop-at.at + 1)) (sym added)
          (small_more c.loop-at.number c.loop-at.at (byte - 48) c.loop-at.invariant.small (digit_small byte digit));
      few = omega arith;
    }
