use Rattle.std.proofs.Common.{◌++◌, [], Err, take, arith}
use Rattle.dover_model.specs.Lines.{lines_of}
use Rattle.dover_model.proofs.lists.Tests.{never}
use Rattle.feed_words.specs.declared.serve.at_end.AtEnd.TheVariants.{Pause}
use Rattle.feed_words.proofs.serve.Talking.{taken, taken_listed, lacks_room, wanted}
use Rattle.feed_words.proofs.serve.pausing.PausingTalker.take.Goals as goal

pub take-requires-clause-rests : goal.take-requires-clause-rests
take-requires-clause-rests g c =
    let (a, x, at, goes) = c.requires.stands in (a.feed ++ x, at.ready.rests, goes)

pub returns-in-Ok-make_room : goal.returns-in-Ok-make_room
returns-in-Ok-make_room g c = record {
  takes = λ a x at goes.
      let rests = at.ready.rests in
      taken_listed a c.take.new.self c.args._meter.now x c.args.piece.now c.in-Ok.count
      (c.in-Ok.ensures.takes (a.feed ++ x) rests goes) c.args.self.now.roster c.make_room.new.self
      (c.in-Ok.ensures.paid (a.feed ++ x) a.start _ rests at.ready.paid)
      (c.laws.ensures.few c.args.self.now.serving.feed.lane (lines_of (a.feed ++ x)) [] a.start _ rests.lane.stands
      at.ready.paid) (at.lists goes) c.in-Ok-make_room.ensures.same (
        omega (
          arith,
          c.in-Ok-make_room.ensures.room.0,
          (rw c.lane.ensures at c.most_jobs.ensures.many)
              (lines_of ((a.feed ++ x) ++ take c.in-Ok.count c.args.piece.now)) _
              (c.in-Ok.ensures.takes (a.feed ++ x) rests goes).2.2.lane,
        ),
        omega (
          arith,
          c.in-Ok-make_room.ensures.room.1,
          (rw c.lane.ensures at c.most_jobs.ensures.many)
              (lines_of ((a.feed ++ x) ++ take c.in-Ok.count c.args.piece.now)) _
              (c.in-Ok.ensures.takes (a.feed ++ x) rests goes).2.2.lane,
        ),
      );
}

pub returns-in-Err : goal.returns-in-Err
returns-in-Err g c = record {
  takes = λ a x at goes.
      let rests = at.ready.rests in
      taken a c.take.new.self c.args._meter.now x Pause c.args.piece.now (Err c.in-Err.error)
      (c.in-Err.ensures.takes (a.feed ++ x) rests goes) tt
      (c.laws.ensures.few c.args.self.now.serving.feed.lane (lines_of (a.feed ++ x)) [] a.start _ rests.lane.stands
      at.ready.paid);
}

pub returns-in-Err-make_room : goal.returns-in-Err-make_room
returns-in-Err-make_room g c = record {
  takes = λ a x at goes.
      let rests = at.ready.rests in
      lacks_room a c.take.new.self c.args._meter.now x c.args.piece.now c.in-Ok.count
      (c.in-Ok.ensures.takes (a.feed ++ x) rests goes) c.in-Err-make_room.error
      (c.laws.ensures.few c.args.self.now.serving.feed.lane (lines_of (a.feed ++ x)) [] a.start _ rests.lane.stands
      at.ready.paid) ((rw c.lane.ensures at c.most_jobs.ensures.declared)
      (lines_of ((a.feed ++ x) ++ take c.in-Ok.count c.args.piece.now)) _
      (c.in-Ok.ensures.takes (a.feed ++ x) rests goes).2.2.lane
      (wanted c.most_jobs.result c.args.self.now.roster.room c.args.self.now.roster.finish_room
      (λ few more. never (c.in-Err-make_room.ensures.enough few more))));
}
