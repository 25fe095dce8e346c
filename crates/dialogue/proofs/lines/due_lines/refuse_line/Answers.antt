use Rattle.std.proofs.Common.{ℕ, List, [], ◌∷◌, ◌++◌, codes, ap, ◌∙◌, arith}
use Rattle.dover_model.specs.Common.{with_numbers, refused_text, refusal_word}
use Rattle.line_text.specs.Writing.{numbers_behind}
use Rattle.line_text.specs.traces.Form.{refused_job}
use Rattle.dialogue.proofs.lines.Refusals.{refused_line}
use Rattle.dialogue.proofs.lines.Sizes.{refuse_size, feed_size}
use Rattle.dialogue.proofs.lines.due_lines.refuse_line.Goals as goal

pub returns-clause-text : goal.returns-clause-text
returns-clause-text c =
    let word : List ℕ = refusal_word c.args.cause in
    let first : List ℕ = c.args.at ∷ c.args.release ∷ [] in
    let others : List ℕ = c.args.work ∷ c.args.deadline ∷ c.args.value ∷ [] in
    c.put_with_numbers.ensures
    ∙ ap (λ bs. with_numbers (codes "refuse") first ++ bs) (c.put_numbers.ensures.is
    ∙ ap (λ bs. numbers_behind others ++ bs) (c.put_word-2.ensures
    ∙ ap (λ bs. 32 ∷ bs) (c.put_word.ensures ∙ ap (λ bs. bs ++ c.args.line.now) c.refusal_word.ensures
    ∙ ap (λ bs. word ++ bs) c.requires.empty)))
    ∙ refused_line (codes "refuse") first others word (10 ∷ [])

pub returns-clause-fits : goal.returns-clause-fits
returns-clause-fits c =
    let text = refused_text
    (refused_job c.args.at c.args.release c.args.work c.args.deadline c.args.value c.args.cause) in
    rw (returns-clause-text c) (omega (
      arith,
      refuse_size c.args.at c.args.release c.args.work c.args.deadline c.args.value c.args.cause c.requires.short,
      feed_size text,
    ))
