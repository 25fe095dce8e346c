use Rattle.std.proofs.Common.{sym}
use Rattle.line_text.specs.Reading.{fields_left}
use Rattle.task_words.proofs.reading.Read.{no_numbers}
use Rattle.task_words.proofs.reading.task_fields.task_of_fields.Goals as goal

pub returns-in_default : goal.returns-in_default
returns-in_default c = sym (no_numbers (fields_left c.args.fields) c.in_default.ensures.none)
