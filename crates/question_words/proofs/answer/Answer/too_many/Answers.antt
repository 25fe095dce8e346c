use Rattle.std.proofs.Common.{◌++◌, ap, ◌∙◌, codes}
use Rattle.question_words.proofs.answer.Answer.too_many.Goals as goal

pub returns-clause-text : goal.returns-clause-text
returns-clause-text c = c.refused.ensures.text (codes "refused size")
    (c.put_word.ensures ∙ ap (λ bs. codes "refused size" ++ bs) c.new-head.ensures)
