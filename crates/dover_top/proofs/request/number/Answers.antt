use Rattle.std.proofs.Common.{◌≡◌, sym, ap, ◌∙◌, arith}
use Rattle.dover_model.specs.Numerals.{numeral}
use Rattle.dover_model.proofs.texts.Numerals.{decimal-numeral}
use Rattle.dover_top.proofs.Numbers.{none_spelled, one_spelled}
use Rattle.dover_top.proofs.request.number.Goals.{then-number-least-via-then-number-least}
use Rattle.dover_top.proofs.request.number.Goals.{then-number-least-via-else-number-least+then-number-most}
use Rattle.dover_top.proofs.request.number.Goals as goal

pub returns-in_err-number-clause-none : goal.returns-in_err-number-clause-none
returns-in_err-number-clause-none c = λ _ n least most spells. none_spelled _ n (omega (arith, most, c.requires))
    (ap numeral (sym c.as_bytes.ensures.value) ∙ sym c.in_err-number.ensures.is) spells

pub returns-then-number-least-clause-none : goal.returns-then-number-least-clause-none
returns-then-number-least-clause-none c = λ _ n least most spells.
    let same : c.in_ok-number.number ≡ n = one_spelled _ _ n (omega (arith, most, c.requires))
    (ap numeral (sym c.as_bytes.ensures.value) ∙ sym c.in_ok-number.ensures.is) spells in
    absurd (elim c.then-number-least.branch [
      | then-number-least-via-then-number-least w ↦ omega (arith, same, least, w.if-number-least.true)
      | then-number-least-via-else-number-least+then-number-most w ↦ omega (arith, same, most, w.if-number-most.true)
    ])

pub returns-clause-some : goal.returns-clause-some
returns-clause-some c = (
  sym (decimal-numeral _ _ (ap numeral (sym c.as_bytes.ensures.value) ∙ sym c.in_ok-number.ensures.is)),
  omega arith,
  omega arith,
)
