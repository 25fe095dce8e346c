use Rattle.std.proofs.Common.{◌∙◌}
use Rattle.question_words.proofs.asking.AskingLineReader.take_line.Goals as goal

pub take_line-requires : goal.take_line-requires
take_line-requires g c = (c.requires.1, c.requires.2.reads, c.requires.2.reads.goes_on ∙ c.requires.3)
