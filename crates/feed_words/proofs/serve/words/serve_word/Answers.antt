use Rattle.dover_port.proofs.Made.{since_weaker}
use Rattle.feed_words.specs.serve.Keeping.{whole_call}
use Rattle.feed_words.proofs.serve.words.serve_word.Goals as goal

pub converse-requires : goal.converse-requires
converse-requires g c = (whole_call c.args.comparisons.now, (c.new.ensures c.args.comparisons.now))

pub returns-clause-talks : goal.returns-clause-talks
returns-clause-talks g c = since_weaker _ _ _ _
    (c.converse.ensures.talks (whole_call c.args.comparisons.now) (c.new.ensures c.args.comparisons.now))
    (λ moves it. it.0)

pub returns-clause-count : goal.returns-clause-count
returns-clause-count g c = since_weaker _ _ _ _
    (c.converse.ensures.talks (whole_call c.args.comparisons.now) (c.new.ensures c.args.comparisons.now))
    (λ moves it. it.1)

pub returns-clause-ends : goal.returns-clause-ends
returns-clause-ends g c = c.converse.ensures.ends (whole_call c.args.comparisons.now)
    (c.new.ensures c.args.comparisons.now)
