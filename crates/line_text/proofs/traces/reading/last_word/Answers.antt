use Rattle.std.proofs.Common.{ℕ, List, ◌∷◌, sym, ap, ◌∙◌}
use Rattle.line_text.specs.Reading.{fields_left}
use Rattle.line_text.specs.traces.Reading.{last_word}
use Rattle.line_text.proofs.traces.Spelled.{no_last_word, some_field}
use Rattle.line_text.proofs.traces.reading.last_word.Goals as goal

pub returns-in-Some : goal.returns-in-Some
returns-in-Some c =
    let word : List ℕ = c.cut_field.result.0.now in
    sym (ap (λ o. last_word (fields_left o)) c.in_ok-fields.was ∙ ap last_word c.cut_field.ensures.fields
    ∙ ap (λ o. last_word (word ∷ fields_left o)) c.in-Some.is ∙ no_last_word word _ (some_field c.in-Some.field-0.now))
