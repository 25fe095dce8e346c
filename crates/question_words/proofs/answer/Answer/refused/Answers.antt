use Rattle.std.proofs.Common.{[], ◌∷◌, ◌++◌, ap, ◌∙◌}
use Rattle.dover_model.specs.Lines.{in_lines}
use Rattle.question_words.specs.Texts.{piece_lines}
use Rattle.question_words.proofs.answer.Answer.refused.Goals as goal

pub returns-clause-text : goal.returns-clause-text
returns-clause-text c = λ line is.
    ap (λ head. head ++ in_lines (piece_lines c.new.result.items)) is
    ∙ ap (λ pieces. (line ++ 10 ∷ []) ++ in_lines (piece_lines pieces)) c.new.ensures.items
