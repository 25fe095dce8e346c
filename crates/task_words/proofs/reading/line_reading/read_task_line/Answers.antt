use Rattle.task_words.proofs.reading.Read.{read_short}
use Rattle.task_words.proofs.reading.line_reading.read_task_line.Goals as goal

pub returns-clause-short : goal.returns-clause-short
returns-clause-short c = read_short c.args.line.now c.read.result c.read.ensures.ok
