use Rattle.std.proofs.Common.{◌≤◌, ◌<◌, ◌^◌, ℕ, List, [], ◌∷◌, ◌++◌, length, length-append, codes, ap, ◌∙◌, arith}
use Rattle.dover_model.specs.Lines.{with_numbers}
use Rattle.dover_model.proofs.texts.Fields.{length-with_numbers}
use Rattle.line_text.specs.Writing.{numbers_behind}
use Rattle.dialogue.proofs.lines.Refusals.{whole_line}
use Rattle.dialogue.proofs.lines.due_lines.release_spelled.Goals as goal

pub returns-clause-text : goal.returns-clause-text
returns-clause-text c =
    let front : ℕ → List ℕ = λ n. with_numbers (codes "job") (n ∷ []) in
    c.put_with_numbers.ensures ∙ ap (λ n. front n ++ c.put_spelled.new.self) c.from.ensures
    ∙ ap (λ bs. front c.args.number ++ bs)
    (c.put_spelled.ensures.is ∙ ap (λ bs. numbers_behind c.args.spelled.now ++ bs) c.requires)
    ∙ whole_line (codes "job") (c.args.number ∷ []) c.args.spelled.now (10 ∷ [])

pub returns-clause-fits : goal.returns-clause-fits
returns-clause-fits c =
    let front : List ℕ = with_numbers (codes "job") (c.from.result ∷ []) in
    let short : c.from.result < 10 ^ 18 = omega (arith, c.from.ensures, c.ranges) in
    let word : length front ≤ 22 = length-with_numbers (codes "job") (c.from.result ∷ []) (short, tt) in
    omega (
      arith,
      word,
      ap (λ (bs : List ℕ). length bs) c.put_with_numbers.ensures,
      length-append front c.put_spelled.new.self,
      c.put_spelled.ensures.size,
      ap (λ (bs : List ℕ). length bs) c.requires,
    )
