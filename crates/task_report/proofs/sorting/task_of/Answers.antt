use Rattle.std.proofs.Common.{◌∙◌, not, rules, tests}
use Rattle.std.proofs.lemmas.Iterator.{YieldsList-from_slice}
use Rattle.std.proofs.lemmas.Iterator.Consumers.{count_from_yields_List}
use Rattle.std.proofs.lemmas.Iterator.Search.{YieldsList-from_take_while}
use Rattle.std.proofs.lemmas.List.Folds.{length-prefix_len}
use Rattle.task_report.specs.Tallies.{has_numbers, is_unrolled}
use Rattle.task_report.proofs.Chosen.{first_chosen, last_chosen}
use Rattle.task_report.proofs.sorting.task_of.Goals as goal

pub returns-then-at-tasks : goal.returns-then-at-tasks
returns-then-at-tasks c = first_chosen _ _ _ _
    (count_from_yields_List c.take_while.result _ c.count-at.ensures.ran
    (YieldsList-from_take_while _ (λ task. not (is_unrolled task c.args.job.now))
    (YieldsList-from_slice c.args.tasks.now (cc)) c.take_while.ensures.closure c.take_while.ensures.done
    (λ x b q k. search (rules, tests)))
    ∙ length-prefix_len (λ task. not (is_unrolled task c.args.job.now)) c.args.tasks.now)
    c.if-at-tasks.true

pub returns : goal.returns
returns c = last_chosen _ _ _ _ c.count-at.result
    (count_from_yields_List c.take_while.result _ c.count-at.ensures.ran
    (YieldsList-from_take_while _ (λ task. not (is_unrolled task c.args.job.now))
    (YieldsList-from_slice c.args.tasks.now (cc)) c.take_while.ensures.closure c.take_while.ensures.done
    (λ x b q k. search (rules, tests)))
    ∙ length-prefix_len (λ task. not (is_unrolled task c.args.job.now)) c.args.tasks.now)
    c.if-at-tasks.false
    (count_from_yields_List c.take_while-2.result _ c.count.ensures.ran
    (YieldsList-from_take_while _ (λ task. not (has_numbers task c.args.job.now))
    (YieldsList-from_slice c.args.tasks.now (cc)) c.take_while-2.ensures.closure c.take_while-2.ensures.done
    (λ x b q k. search (rules, tests)))
    ∙ length-prefix_len (λ task. not (has_numbers task c.args.job.now)) c.args.tasks.now)
