use Rattle.std.proofs.Common.{◌∙◌}
use Rattle.question_words.proofs.replaying.replayed.Goals as goal

pub told_by-requires-clause-run : goal.told_by-requires-clause-run
told_by-requires-clause-run g c = c.deref.ensures.value ∙ c.in_ok-run.ensures.run

pub returns-clause-count : goal.returns-clause-count
returns-clause-count g c = c.record.ensures.count
