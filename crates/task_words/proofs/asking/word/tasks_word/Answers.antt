use Rattle.std.proofs.Common.{refl}
use Rattle.dover_port.proofs.Made.{since_weaker}
use Rattle.task_words.proofs.asking.Talking.{begun}
use Rattle.task_words.proofs.asking.word.tasks_word.Goals as goal

pub converse-requires : goal.converse-requires
converse-requires g c = (
  record { question = c.args.question; before = c.args.comparisons.now },
  record {
    asks = refl;
    known = c.requires;
    reads = begun c.args.question c.until_of.result c.new.result c.until_of.ensures c.new.ensures;
    counts = refl;
  },
)

pub returns-clause-talks : goal.returns-clause-talks
returns-clause-talks g c = since_weaker _ _ _ _ (c.converse.ensures.talks
    (record { question = c.args.question; before = c.args.comparisons.now })
    (record {
      asks = refl;
      known = c.requires;
      reads = begun c.args.question c.until_of.result c.new.result c.until_of.ensures c.new.ensures;
      counts = refl;
    }))
    (λ moves it. it.0)

pub returns-clause-ends : goal.returns-clause-ends
returns-clause-ends g c = c.converse.ensures.ends
    (record { question = c.args.question; before = c.args.comparisons.now })
    (record {
      asks = refl;
      known = c.requires;
      reads = begun c.args.question c.until_of.result c.new.result c.until_of.ensures c.new.ensures;
      counts = refl;
    })

pub returns-clause-count : goal.returns-clause-count
returns-clause-count g c = since_weaker _ _ _ _ (c.converse.ensures.talks
    (record { question = c.args.question; before = c.args.comparisons.now })
    (record {
      asks = refl;
      known = c.requires;
      reads = begun c.args.question c.until_of.result c.new.result c.until_of.ensures c.new.ensures;
      counts = refl;
    }))
    (λ moves it. it.1)
