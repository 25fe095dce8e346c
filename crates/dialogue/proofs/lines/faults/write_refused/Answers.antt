use Rattle.std.proofs.Common.{List, ℕ, [], ◌∷◌, ◌++◌, length, codes, ap, ◌∙◌, arith}
use Rattle.dover_model.specs.Lines.{with_numbers}
use Rattle.dialogue.proofs.lines.Refusals.{refused_line}
use Rattle.dialogue.proofs.lines.faults.write_refused.Goals as goal

pub put_word-requires : goal.put_word-requires
put_word-requires c = omega (arith, c.requires.short, ap (λ (bs : List ℕ). length bs) c.requires.empty)

pub returns-clause-text : goal.returns-clause-text
returns-clause-text c =
    let numbers : List ℕ = c.args.number ∷ [] in
    c.put_with_wide.ensures.is
    ∙ ap (λ bs. with_numbers (codes "refused") numbers ++ bs) (c.put_word-2.ensures
    ∙ ap (λ bs. 32 ∷ bs) (c.put_word.ensures ∙ ap (λ bs. c.args.word.now ++ bs) c.requires.empty))
    ∙ refused_line (codes "refused") numbers [] c.args.word.now (10 ∷ [])
