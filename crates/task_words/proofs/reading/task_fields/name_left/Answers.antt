use Rattle.std.proofs.Common.{◌∷◌, ◌∙◌, sym, ap}
use Rattle.line_text.specs.Reading.{fields_left}
use Rattle.task_words.specs.reading.Lines.{name_of}
use Rattle.task_words.proofs.reading.Read.{no_name}
use Rattle.task_words.proofs.reading.task_fields.name_left.Goals as goal

pub returns-in_default-Some : goal.returns-in_default-Some
returns-in_default-Some c = sym (ap (λ o. name_of (fields_left o)) c.in-Some.is ∙ ap name_of c.cut_field.ensures.fields
    ∙ ap (λ o. name_of (c.cut_field.result.0.now ∷ fields_left o)) c.in_default-Some.is-1
    ∙ no_name c.cut_field.result.0.now c.in_default-Some.field-0-1.now)
