use Rattle.std.proofs.Common.{refl}
use Rattle.dover_port.proofs.Made.{since_weaker}
use Rattle.feed_words.specs.resume.Talk.{Asked}
use Rattle.feed_words.proofs.resume.Records.{resumes, can_end}
use Rattle.feed_words.proofs.resume.resume.resume_word.Goals as goal

pub converse-requires : goal.converse-requires
converse-requires g c = (
  record { at_end = c.args.at_end; start = c.args.comparisons.now },
  (refl, (c.new.ensures.stands, c.new.ensures.count c.args.comparisons.now)),
)

pub returns-clause-resumes : goal.returns-clause-resumes
returns-clause-resumes g c =
    let asked : Asked = record { at_end = c.args.at_end; start = c.args.comparisons.now } in
    since_weaker _ _ _ _ (c.converse.ensures.talks asked
    (refl, (c.new.ensures.stands, c.new.ensures.count c.args.comparisons.now)))
    (λ moves it. resumes asked c.converse.result moves it.0)

pub returns-clause-count : goal.returns-clause-count
returns-clause-count g c =
    let asked : Asked = record { at_end = c.args.at_end; start = c.args.comparisons.now } in
    since_weaker _ _ _ _ (c.converse.ensures.talks asked
    (refl, (c.new.ensures.stands, c.new.ensures.count c.args.comparisons.now)))
    (λ moves it. it.1)

pub returns-clause-ends : goal.returns-clause-ends
returns-clause-ends g c =
    let asked : Asked = record { at_end = c.args.at_end; start = c.args.comparisons.now } in
    can_end asked c.converse.result (c.converse.ensures.ends asked
    (refl, (c.new.ensures.stands, c.new.ensures.count c.args.comparisons.now)))
