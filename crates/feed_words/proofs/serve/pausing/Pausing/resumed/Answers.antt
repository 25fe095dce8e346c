use Rattle.feed_words.proofs.serve.Snapped.{listed_on}
use Rattle.feed_words.proofs.serve.pausing.Pausing.resumed.Goals as goal

pub returns : goal.returns
returns g c = λ a now may it spent.
    listed_on a now may c.args.server c.args.roster c.args.intake c.args.mark it c.resumed.result c.resumed.ensures
    c.behind.result c.behind.ensures.lane (c.behind.ensures.rests a.feed may.whole may.going_on) spent
