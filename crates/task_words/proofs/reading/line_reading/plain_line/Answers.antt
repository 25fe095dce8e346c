use Rattle.std.proofs.Common.{sym}
use Rattle.task_words.proofs.reading.Read.{none_read}
use Rattle.line_text.specs.Reading.{fields_left}
use Rattle.task_words.proofs.reading.line_reading.plain_line.Goals as goal

pub returns-in_default : goal.returns-in_default
returns-in_default c = sym (none_read c.args.word.now (fields_left c.args.rest) c.in_default.ensures.none)
