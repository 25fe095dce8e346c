use Rattle.std.proofs.Common.{ℕ, List, ◌∷◌, sym, ap, ◌∙◌}
use Rattle.line_text.specs.Reading.{fields_left}
use Rattle.line_text.specs.traces.Reading.{is_done_left}
use Rattle.line_text.proofs.traces.Spelled.{no_done_left, some_field}
use Rattle.line_text.proofs.traces.reading.is_done_left.Goals as goal

pub returns-in-Some-rest : goal.returns-in-Some-rest
returns-in-Some-rest c =
    let word : List ℕ = c.cut_field.result.0.now in
    sym (ap (λ o. is_done_left (fields_left o)) c.in-Some.is ∙ ap is_done_left c.cut_field.ensures.fields
    ∙ ap (λ o. is_done_left (word ∷ fields_left o)) c.in-Some-rest.is
    ∙ no_done_left word _ (some_field c.in-Some-rest.field-0.now))
