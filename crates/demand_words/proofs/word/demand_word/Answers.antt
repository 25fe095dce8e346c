use Rattle.std.proofs.Common.{refl}
use Rattle.dover_port.proofs.Made.{since_weaker}
use Rattle.demand_words.proofs.word.demand_word.Goals as goal

pub converse-requires : goal.converse-requires
converse-requires g c = (c.args.comparisons.now, record { reads = c.new.ensures; counts = refl })

pub returns-clause-talks : goal.returns-clause-talks
returns-clause-talks g c = since_weaker _ _ _ _ (c.converse.ensures.talks c.args.comparisons.now
    (record { reads = c.new.ensures; counts = refl })) (λ moves it. it.0)

pub returns-clause-ends : goal.returns-clause-ends
returns-clause-ends g c = c.converse.ensures.ends c.args.comparisons.now
    (record { reads = c.new.ensures; counts = refl })

pub returns-clause-count : goal.returns-clause-count
returns-clause-count g c = since_weaker _ _ _ _ (c.converse.ensures.talks c.args.comparisons.now
    (record { reads = c.new.ensures; counts = refl })) (λ moves it. it.1)
