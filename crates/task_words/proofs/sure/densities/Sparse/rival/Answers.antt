use Rattle.task_words.proofs.sure.Rivals.{rival_first, rival_second}
use Rattle.task_words.proofs.sure.densities.Sparse.rival.Goals as goal

pub returns-then-number-self : goal.returns-then-number-self
returns-then-number-self c = λ streams are less. rival_second streams c.args.self are c.args.number less
    c.if-number-self.true

pub returns : goal.returns
returns c = λ streams are less. rival_first streams c.args.self are c.args.number less c.if-number-self.false
