use Rattle.std.proofs.Common.{◌∙◌, sym, ap, rules, tests}
use Rattle.std.proofs.lemmas.List.{nil_from_length}
use Rattle.dover_model.specs.Run.{completed_value}
use Rattle.question_words.proofs.Handed.{plain_is, bare_valid, plain_observed}
use Rattle.question_words.proofs.observing.observe.Goals as goal

pub completed-requires : goal.completed-requires
completed-requires g c = rw c.deref.ensures.value (bare_valid c.args.listed c.requires.valid)

pub returns-then-is_empty-clause-value : goal.returns-then-is_empty-clause-value
returns-then-is_empty-clause-value g c = rw c.deref.ensures.value at c.in_ok-value.ensures.value
    ∙ ap completed_value (sym (plain_is c.args.listed (nil_from_length _ (search (rules, tests)))))

pub returns-then-is_empty-clause-jobs : goal.returns-then-is_empty-clause-jobs
returns-then-is_empty-clause-jobs g c =
    plain_observed c.args.listed c.requires.valid (nil_from_length _ (search (rules, tests)))

pub returns-then-is_empty-clause-count : goal.returns-then-is_empty-clause-count
returns-then-is_empty-clause-count g c = rw c.deref.ensures.value at c.completed.ensures.count

pub returns-clause-value : goal.returns-clause-value
returns-clause-value g c = c.in_ok-completion.ensures.value

pub returns-clause-jobs : goal.returns-clause-jobs
returns-clause-jobs g c = c.in_ok-completion.ensures.jobs

pub returns-clause-count : goal.returns-clause-count
returns-clause-count g c = c.replayed.ensures.count
