use Rattle.std.proofs.Common.{◌∷◌, [], arith, codes}
use Rattle.dover_model.specs.Lines.{with_numbers}
use Rattle.dover_model.proofs.texts.Fields.{length-with_numbers}
use Rattle.dialogue.proofs.lines.Sizes.{feed_size}
use Rattle.dialogue.proofs.lines.due_lines.plain_header.Goals as goal

pub returns-clause-fits : goal.returns-clause-fits
returns-clause-fits c =
    let size = length-with_numbers (codes "dover") (c.args.number ∷ c.from.result ∷ c.from-2.result ∷ [])
    (omega (arith, c.requires.small), (omega (arith, c.from.ensures), (omega (arith, c.from-2.ensures), tt))) in
    rw (c.put_with_numbers.ensures, c.requires.empty)
    (omega (
      arith,
      size,
      feed_size (with_numbers (codes "dover") (c.args.number ∷ c.from.result ∷ c.from-2.result ∷ [])),
    ))
