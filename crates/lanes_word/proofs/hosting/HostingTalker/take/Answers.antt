use Rattle.lane_server.proofs.Sharing.{few_on}
use Rattle.lanes_word.proofs.Talking.{takes}
use Rattle.lanes_word.proofs.hosting.HostingTalker.take.Goals as goal

pub take-requires-clause-rests : goal.take-requires-clause-rests
take-requires-clause-rests g c = (c.requires.stands.1, c.requires.stands.2.rests, c.requires.stands.3)

pub returns : goal.returns
returns g c = record {
  takes = λ a x at on. takes a c.take.new.self c.args._meter.now x c.args.piece.now
      c.take.result (c.take.ensures.takes x at.rests on) (c.take.ensures.paid a _ at.paid)
      (few_on x c.args.piece.now a _ (c.laws.ensures.few c.args.self.now.input x _ a _ at.rests.stands at.paid));
}
