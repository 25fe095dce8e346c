use Rattle.std.proofs.Common.{◌++◌, []}
use Rattle.dover_model.specs.Lines.{lines_of}
use Rattle.feed_words.specs.declared.serve.at_end.AtEnd.TheVariants.{Refuse}
use Rattle.feed_words.proofs.serve.Talking.{taken}
use Rattle.feed_words.proofs.serve.serving.ServingTalker.take.Goals as goal

pub returns : goal.returns
returns g c = record {
  takes = λ a x at goes.
      taken a c.take.new.self c.args._meter.now x Refuse c.args.piece.now c.take.result
      (c.take.ensures.takes (a.feed ++ x) at.rests goes)
      (c.take.ensures.paid (a.feed ++ x) a.start _ at.rests at.paid)
      (c.laws.ensures.few c.args.self.now.feed.lane (lines_of (a.feed ++ x)) [] a.start _ at.rests.lane.stands at.paid);
}
