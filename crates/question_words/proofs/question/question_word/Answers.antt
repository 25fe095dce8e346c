use Rattle.std.proofs.Common.{refl}
use Rattle.dover_port.proofs.Made.{since_weaker}
use Rattle.question_words.proofs.question.question_word.Goals as goal

pub converse_in_lines-requires : goal.converse_in_lines-requires
converse_in_lines-requires g c = (
  record { question = c.args.question; before = c.args.comparisons.now },
  record { asks = refl; reads = c.new.ensures; counts = refl },
)

pub returns-clause-talks : goal.returns-clause-talks
returns-clause-talks g c = since_weaker _ _ _ _ (c.converse_in_lines.ensures.talks
    (record { question = c.args.question; before = c.args.comparisons.now })
    (record { asks = refl; reads = c.new.ensures; counts = refl }))
    (λ moves it. it.0)

pub returns-clause-ends : goal.returns-clause-ends
returns-clause-ends g c = c.converse_in_lines.ensures.ends
    (record { question = c.args.question; before = c.args.comparisons.now })
    (record { asks = refl; reads = c.new.ensures; counts = refl })

pub returns-clause-count : goal.returns-clause-count
returns-clause-count g c = since_weaker _ _ _ _ (c.converse_in_lines.ensures.talks
    (record { question = c.args.question; before = c.args.comparisons.now })
    (record { asks = refl; reads = c.new.ensures; counts = refl }))
    (λ moves it. it.1)
