use Rattle.task_words.proofs.sure.Small.{small_there}
use Rattle.task_words.proofs.sure.sets.copies_of.Goals as goal

pub most_crossing-requires : goal.most_crossing-requires
most_crossing-requires c = (small_there c.args.tasks.now c.requires.small c.args.next c.requires.next).apart
