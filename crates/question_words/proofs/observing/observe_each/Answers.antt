use Rattle.std.proofs.Common.{◌∙◌, sym, ap, rules, tests}
use Rattle.std.proofs.lemmas.List.{nil_from_length}
use Rattle.dover_model.specs.Run.{completed_value}
use Rattle.question_words.specs.Loss.{is_completed}
use Rattle.question_words.proofs.Handed.{plain_is, bare_valid, plain_observed}
use Rattle.question_words.proofs.observing.observe_each.Goals as goal

pub completed_jobs-requires : goal.completed_jobs-requires
completed_jobs-requires g c = bare_valid c.args.listed c.requires.valid

pub returns-then-is_empty-clause-value : goal.returns-then-is_empty-clause-value
returns-then-is_empty-clause-value g c = c.in_ok-completion.ensures.value
    ∙ ap completed_value (sym (plain_is c.args.listed (nil_from_length _ (search (rules, tests)))))

pub returns-then-is_empty-clause-done : goal.returns-then-is_empty-clause-done
returns-then-is_empty-clause-done g c = λ n. c.in_ok-completion.ensures.done n
    ∙ ap (λ J. is_completed J n) (sym (plain_is c.args.listed (nil_from_length _ (search (rules, tests)))))

pub returns-then-is_empty-clause-jobs : goal.returns-then-is_empty-clause-jobs
returns-then-is_empty-clause-jobs g c =
    plain_observed c.args.listed c.requires.valid (nil_from_length _ (search (rules, tests)))

pub returns-then-is_empty-clause-count : goal.returns-then-is_empty-clause-count
returns-then-is_empty-clause-count g c = c.completed_jobs.ensures.count

pub returns-clause-value : goal.returns-clause-value
returns-clause-value g c = c.replayed.ensures.value

pub returns-clause-done : goal.returns-clause-done
returns-clause-done g c = c.replayed.ensures.done

pub returns-clause-jobs : goal.returns-clause-jobs
returns-clause-jobs g c = c.replayed.ensures.jobs

pub returns-clause-count : goal.returns-clause-count
returns-clause-count g c = c.replayed.ensures.count
