use Rattle.std.proofs.Common.{◌∙◌, ap, map, get_or, false, arith, take_all}
use Rattle.question_words.specs.Loss.{row_of}
use Rattle.question_words.proofs.loss.rows.Goals as goal

pub returns : goal.returns
returns c = c.loop-x.invariant ∙ ap (map (row_of c.args.jobs.now (λ n. get_or c.args.done.now n false)))
    (take_all c.loop-x.x-index c.args.stretches.now (omega arith))
