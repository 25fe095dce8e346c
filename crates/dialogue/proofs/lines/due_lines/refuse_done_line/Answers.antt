use Rattle.std.proofs.Common.{ℕ, List, [], ◌∷◌, ◌++◌, codes, ap, ◌∙◌, arith}
use Rattle.dover_model.specs.Common.{with_numbers, refused_text}
use Rattle.line_text.specs.traces.Form.{refused_done}
use Rattle.dialogue.proofs.lines.Refusals.{refused_line}
use Rattle.dialogue.proofs.lines.Sizes.{refuse_done_size, feed_size}
use Rattle.dialogue.proofs.lines.due_lines.refuse_done_line.Goals as goal

pub returns-clause-text : goal.returns-clause-text
returns-clause-text c =
    let numbers : List ℕ = c.args.at ∷ c.args.tick ∷ c.args.number ∷ [] in
    c.put_with_numbers.ensures
    ∙ ap (λ bs. with_numbers (codes "refuse") numbers ++ bs) (c.put_word.ensures
    ∙ ap (λ bs. codes " done" ++ bs) c.requires.empty)
    ∙ refused_line (codes "refuse") numbers [] (codes "done") (10 ∷ [])

pub returns-clause-fits : goal.returns-clause-fits
returns-clause-fits c =
    rw (returns-clause-text c) (omega (
      arith,
      refuse_done_size c.args.at c.args.tick c.args.number c.requires.short,
      feed_size (refused_text (refused_done c.args.at c.args.tick c.args.number)),
    ))
