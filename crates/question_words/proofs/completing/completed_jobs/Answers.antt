use Rattle.std.proofs.Common.{◌∙◌, ap, length, subst}
use Rattle.dover_model.specs.Common.{jobs_under, completed_value, CostsAtMost}
use Rattle.question_words.specs.Loss.{is_completed}
use Rattle.question_words.proofs.completing.completed_jobs.Goals as goal

pub run_list-requires-clause-unseen : goal.run_list-requires-clause-unseen
run_list-requires-clause-unseen g c = c.in_ok-completion.ensures

pub returns-clause-done : goal.returns-clause-done
returns-clause-done g c = λ n. c.in_ok-run_list.ensures.seen.done c.if-completion.false n
    ∙ ap (λ js. is_completed (jobs_under c.args.listed.now.version c.args.listed.now.ratio js) n)
    c.as_slice-jobs.ensures.value

pub returns-in_err-run_list-clause-count : goal.returns-in_err-run_list-clause-count
returns-in_err-run_list-clause-count g c =
    subst (λ js. CostsAtMost (length js) c.args.comparisons.now c.run_list.new.comparisons)
    c.as_slice-jobs.ensures.value
    c.run_list.ensures.count

pub returns-clause-value : goal.returns-clause-value
returns-clause-value g c = c.in_ok-run_list.ensures.seen.value
    ∙ ap (λ js. completed_value (jobs_under c.args.listed.now.version c.args.listed.now.ratio js))
    c.as_slice-jobs.ensures.value

pub returns-clause-count : goal.returns-clause-count
returns-clause-count g c =
    subst (λ js. CostsAtMost (length js) c.args.comparisons.now c.run_list.new.comparisons)
    c.as_slice-jobs.ensures.value
    c.run_list.ensures.count
