use Rattle.task_words.proofs.reading.Ending.{short_is}
use Rattle.task_words.proofs.reading.reader.short_fault.Goals as goal

pub returns : goal.returns
returns c = λ until x stands. short_is until c.args.text.now x stands
