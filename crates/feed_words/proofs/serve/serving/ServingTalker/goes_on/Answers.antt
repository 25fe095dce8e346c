use Rattle.std.proofs.Common.{◌++◌, []}
use Rattle.dover_model.specs.Lines.{lines_of}
use Rattle.feed_words.proofs.serve.serving.ServingTalker.goes_on.Goals as goal

pub returns : goal.returns
returns g c = λ a x at.
    (rw c.lane.ensures at (c.goes_on.ensures (lines_of (a.feed ++ x)) [])) at.rests.lane.stands
