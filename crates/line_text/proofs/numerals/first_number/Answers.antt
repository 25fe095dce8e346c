use Rattle.line_text.proofs.FirstNumber.{numbers_read}
use Rattle.line_text.proofs.numerals.first_number.Goals as goal

pub returns-clause-numbers : goal.returns-clause-numbers
returns-clause-numbers c = numbers_read c.args.line.now c.number_in_front.result c.number_in_front.ensures.read
