use Rattle.std.proofs.Common.{◌≤◌, ℕ, List, [], ◌∷◌, ◌++◌, length, length-append, codes, ap, sym, subst, ◌∙◌, arith}
use Rattle.dover_model.specs.Common.{with_numbers, refusal_word}
use Rattle.dover_model.proofs.texts.Fields.{length-with_numbers}
use Rattle.line_text.specs.Writing.{numbers_behind}
use Rattle.dialogue.proofs.lines.Refusals.{refused_line}
use Rattle.dialogue.proofs.lines.Sizes.{word_size}
use Rattle.dialogue.proofs.lines.due_lines.refuse_spelled.Goals as goal

pub returns-clause-text : goal.returns-clause-text
returns-clause-text c =
    let word : List ℕ = refusal_word c.args.cause in
    let front : List ℕ = with_numbers (codes "refuse") (c.args.at ∷ []) in
    c.put_with_numbers.ensures
    ∙ ap (λ bs. front ++ bs) (c.put_spelled.ensures.is
    ∙ ap (λ bs. numbers_behind c.args.spelled.now ++ bs) (c.put_word-2.ensures
    ∙ ap (λ bs. 32 ∷ bs) (c.put_word.ensures ∙ ap (λ bs. bs ++ c.args.line.now) c.refusal_word.ensures
    ∙ ap (λ bs. word ++ bs) c.requires.empty)))
    ∙ refused_line (codes "refuse") (c.args.at ∷ []) c.args.spelled.now word (10 ∷ [])

pub returns-clause-fits : goal.returns-clause-fits
returns-clause-fits c =
    let front : List ℕ = with_numbers (codes "refuse") (c.args.at ∷ []) in
    let first : length front ≤ 25 = length-with_numbers (codes "refuse") (c.args.at ∷ []) (c.requires.short.0, tt) in
    let word : length c.refusal_word.result.now ≤ 5 =
    subst (λ (w : List ℕ). length w ≤ 5) (sym c.refusal_word.ensures) (word_size c.args.cause) in
    omega (
      arith,
      first,
      word,
      ap (λ (bs : List ℕ). length bs) c.put_with_numbers.ensures,
      length-append front c.put_spelled.new.self,
      c.put_spelled.ensures.size,
      ap (λ (bs : List ℕ). length bs) c.put_word-2.ensures,
      ap (λ (bs : List ℕ). length bs) c.put_word.ensures,
      length-append c.refusal_word.result.now c.args.line.now,
      ap (λ (bs : List ℕ). length bs) c.requires.empty,
    )
