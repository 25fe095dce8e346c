use Rattle.std.proofs.Common.{[], ◌∷◌, ◌++◌, append_assoc, codes, decimal, ap, ◌∙◌, arith}
use Rattle.dover_model.specs.Lines.{with_numbers}
use Rattle.trace_words.proofs.judge.lines.wrong_front.Goals as goal

pub put_word-requires : goal.put_word-requires
put_word-requires c = rw c.empty-line.ensures (omega arith)

pub put_with_wide-requires : goal.put_with_wide-requires
put_with_wide-requires c = rw (c.put_word.ensures, c.empty-line.ensures) (omega arith)

pub returns : goal.returns
returns c = c.put_with_wide.ensures.is
    ∙ ap (λ bs. with_numbers (codes "wrong") (c.args.number ∷ []) ++ bs)
    (c.put_word.ensures ∙ ap (λ bs. codes " expected " ++ bs) c.empty-line.ensures)
    ∙ append_assoc (codes "wrong") (32 ∷ decimal c.args.number) (codes " expected ")
