use Rattle.std.proofs.Common.{◌++◌, [], sym, subst}
use Rattle.dover_model.specs.Lines.{lines_of}
use Rattle.lane_server.specs.Lane.{Stands}
use Rattle.feed_words.proofs.serve.serving.ServingTalker.answer.Goals as goal

pub returns-clause-answers : goal.returns-clause-answers
returns-clause-answers g c = λ a x at over. c.tell_end-told.ensures.answers a x c.args._ended
    (subst (λ l. Stands l (lines_of (a.feed ++ x)) []) (sym c.lane.ensures) at.rests.lane.stands) over

pub returns-clause-spent : goal.returns-clause-spent
returns-clause-spent g c = λ a x at.
    c.laws.ensures.few c.args.self.feed.lane (lines_of (a.feed ++ x)) [] a.start c.args._meter.now
    at.rests.lane.stands at.paid
