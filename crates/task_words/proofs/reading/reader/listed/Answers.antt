use Rattle.task_words.proofs.reading.Taking.{none_ended}
use Rattle.task_words.proofs.reading.reader.listed.Goals as goal

pub unreachable-requires : goal.unreachable-requires
unreachable-requires c = none_ended c.args.intake c.in-None.is c.requires.0 c.requires.1 c.requires.2
