use Rattle.task_words.proofs.reading.Ending.{going_stands}
use Rattle.task_words.proofs.reading.Fronts.{few_taken, front_open}
use Rattle.task_words.proofs.reading.reader.TaskReader.take.Goals as goal

pub returns-in_default-clause-few : goal.returns-in_default-clause-few
returns-in_default-clause-few c = few_taken c.args.self.now.text.lines c.args.piece.now c.front-count.result
    c.front-count.ensures.within c.front-count.ensures.whole

pub returns-in_default-clause-fronts : goal.returns-in_default-clause-fronts
returns-in_default-clause-fronts c = λ until x at opened k less.
    front_open until c.args.self.now.text x c.args.piece.now c.front-count.result
    (going_stands until c.args.self.now.progress c.args.self.now.text x at opened) c.front-count.ensures.within
    c.front-count.ensures.whole k less
