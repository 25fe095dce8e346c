use Rattle.std.proofs.Common.{◌≤◌, ◌++◌, ◌∷◌, ◌∙◌, refl, List, [], length, sym, ap, subst, codes, arith}
use Rattle.dover_model.specs.Common.{IsInOrder, JobFacts, most_jobs, total_value, most_total, in_lines, observed}
use Rattle.dover_model.specs.declared.events.Version.TheVariants.{Two}
use Rattle.dover_model.proofs.lists.Tests.{never}
use Rattle.dover_port.specs.declared.status.Status.TheVariants.{Done}
use Rattle.dialogue.specs.Talk.{IsFinal}
use Rattle.event_feed.specs.Listing.{listed_instance}
use Rattle.policy_lab.specs.Standard.{earliest_deadline, greatest_density}
use Rattle.question_words.specs.Compare.{SaysCompare}
use Rattle.question_words.specs.Texts.{policy_line, policy_lines, text_of}
use Rattle.question_words.proofs.Comparing.{value_short, compared, row_told}
use Rattle.question_words.proofs.Counts.{no_cost, one_of_two, two_runs}
use Rattle.question_words.proofs.Observations.{observed_in_order, observed_total, observed_count}
use Rattle.question_words.proofs.compare.answer.Goals as goal

pub completed_by_four-requires-clause-listable : goal.completed_by_four-requires-clause-listable
completed_by_four-requires-clause-listable g c = c.if-not-is_listable.ensures.0 refl

pub observe-requires-clause-listable : goal.observe-requires-clause-listable
observe-requires-clause-listable g c = c.if-not-is_listable.ensures.0 refl

pub run_policy-requires-clause-in_order : goal.run_policy-requires-clause-in_order
run_policy-requires-clause-in_order g c = subst IsInOrder (sym (c.deref.ensures.value ∙ c.in_ok-dover.ensures.jobs))
    (observed_in_order (listed_instance c.args.listed) c.requires.valid)

pub run_policy-requires-clause-count : goal.run_policy-requires-clause-count
run_policy-requires-clause-count g c =
    subst (λ (js : List JobFacts). length js ≤ most_jobs Two) (sym (c.deref.ensures.value ∙ c.in_ok-dover.ensures.jobs))
    (subst (λ n. n ≤ most_jobs Two) (sym (observed_count (listed_instance c.args.listed) c.requires.valid))
    (c.if-not-is_listable.ensures.0 refl).count)

pub run_policy-requires-clause-total : goal.run_policy-requires-clause-total
run_policy-requires-clause-total g c =
    subst (λ js. total_value js ≤ most_total Two) (sym (c.deref.ensures.value ∙ c.in_ok-dover.ensures.jobs))
    (subst (λ n. n ≤ most_total Two) (sym (observed_total (listed_instance c.args.listed) c.requires.valid))
    (c.if-not-is_listable.ensures.0 refl).total)

pub run_policy-requires-2-clause-in_order : goal.run_policy-requires-2-clause-in_order
run_policy-requires-2-clause-in_order g c = subst IsInOrder (sym (c.deref-2.ensures.value ∙ c.in_ok-dover.ensures.jobs))
    (observed_in_order (listed_instance c.args.listed) c.requires.valid)

pub run_policy-requires-2-clause-count : goal.run_policy-requires-2-clause-count
run_policy-requires-2-clause-count g c =
    subst (λ (js : List JobFacts). length js ≤ most_jobs Two)
    (sym (c.deref-2.ensures.value ∙ c.in_ok-dover.ensures.jobs))
    (subst (λ n. n ≤ most_jobs Two) (sym (observed_count (listed_instance c.args.listed) c.requires.valid))
    (c.if-not-is_listable.ensures.0 refl).count)

pub run_policy-requires-2-clause-total : goal.run_policy-requires-2-clause-total
run_policy-requires-2-clause-total g c =
    subst (λ js. total_value js ≤ most_total Two) (sym (c.deref-2.ensures.value ∙ c.in_ok-dover.ensures.jobs))
    (subst (λ n. n ≤ most_total Two) (sym (observed_total (listed_instance c.args.listed) c.requires.valid))
    (c.if-not-is_listable.ensures.0 refl).total)

pub put_last_bound-requires-clause-value : goal.put_last_bound-requires-clause-value
put_last_bound-requires-clause-value g c = value_short (listed_instance c.args.listed) c.requires.valid
    (c.if-not-is_listable.ensures.0 refl) _ c.in_ok-dover.ensures.value

pub returns-clause-says : goal.returns-clause-says
returns-clause-says g c =
    let J = listed_instance c.args.listed in
    let edf = c.row.result in
    let dense = c.row-2.result in
    let items = c.in_ok-push-2.ensures.items ∙ ap (λ rows. rows ++ dense ∷ [])
    (c.in_ok-push.ensures.items ∙ ap (λ rows. rows ++ edf ∷ []) c.new-policies.ensures.items) in
    subst (λ rows. SaysCompare J Done (c.put_with_wide-2.new.self ++ (in_lines (policy_lines rows)
    ++ c.put_last_bound.new.head))) (sym items)
    (compared J c.requires.valid c.in_ok-dover.dover c.in_ok-four.four edf dense c.in_ok-dover.ensures.value
    c.in_ok-four.ensures.value
    (ap policy_line c.row.ensures
    ∙ row_told earliest_deadline J.rules (codes "edf") c.deref.result.now (observed J).jobs
    (c.deref.ensures.value ∙ c.in_ok-dover.ensures.jobs) _ _ _ (c.in_ok-edf.ensures.value J.rules)
    c.in_ok-edf.ensures.completed c.in_ok-edf.ensures.stops)
    (ap policy_line c.row-2.ensures
    ∙ row_told greatest_density J.rules (codes "dense") c.deref-2.result.now (observed J).jobs
    (c.deref-2.ensures.value ∙ c.in_ok-dover.ensures.jobs) _ _ _ (c.in_ok-dense.ensures.value J.rules)
    c.in_ok-dense.ensures.completed c.in_ok-dense.ensures.stops)
    (c.if-not-is_listable.ensures.0 refl) _ _ _ _ _ c.new-head.ensures c.new-last.ensures c.put_with_wide.ensures.is
    c.put_with_wide-2.ensures.is c.put_last_bound.ensures)

pub put_last_bound-requires-clause-fits : goal.put_last_bound-requires-clause-fits
put_last_bound-requires-clause-fits g c = omega (arith, ap length c.new-last.ensures)

pub put_with_wide-requires : goal.put_with_wide-requires
put_with_wide-requires g c = omega (arith, ap length c.new-head.ensures)

pub put_with_wide-requires-2 : goal.put_with_wide-requires-2
put_with_wide-requires-2 g c = omega (arith, c.put_with_wide.ensures.size, ap length c.new-head.ensures)

pub returns-in_err-four-clause-count : goal.returns-in_err-four-clause-count
returns-in_err-four-clause-count g c = one_of_two _ _ _ c.completed_by_four.ensures.count

pub returns-in_err-dover-clause-count : goal.returns-in_err-dover-clause-count
returns-in_err-dover-clause-count g c =
    two_runs _ _ _ _ c.completed_by_four.ensures.count c.observe.ensures.count

pub returns-in_err-edf-clause-count : goal.returns-in_err-edf-clause-count
returns-in_err-edf-clause-count g c =
    two_runs _ _ _ _ c.completed_by_four.ensures.count c.observe.ensures.count

pub returns-in_err-dense-clause-count : goal.returns-in_err-dense-clause-count
returns-in_err-dense-clause-count g c =
    two_runs _ _ _ _ c.completed_by_four.ensures.count c.observe.ensures.count

pub returns-in_err-push-clause-count : goal.returns-in_err-push-clause-count
returns-in_err-push-clause-count g c =
    two_runs _ _ _ _ c.completed_by_four.ensures.count c.observe.ensures.count

pub returns-in_err-push-2-clause-count : goal.returns-in_err-push-2-clause-count
returns-in_err-push-2-clause-count g c =
    two_runs _ _ _ _ c.completed_by_four.ensures.count c.observe.ensures.count

pub returns-clause-count : goal.returns-clause-count
returns-clause-count g c =
    two_runs _ _ _ _ c.completed_by_four.ensures.count c.observe.ensures.count

pub returns-then-not-is_listable-clause-count : goal.returns-then-not-is_listable-clause-count
returns-then-not-is_listable-clause-count g c = no_cost 2 _ _

pub returns-then-not-is_listable-clause-says : goal.returns-then-not-is_listable-clause-says
returns-then-not-is_listable-clause-says g c =
    subst (λ status. SaysCompare (listed_instance c.args.listed) status (text_of c.too_many.result))
    (sym c.too_many.ensures.status)
    (λ listable. never (sym c.if-not-is_listable.true ∙ c.is_listable.ensures.1 listable), c.too_many.ensures.text)

pub returns-then-not-is_listable-clause-ends : goal.returns-then-not-is_listable-clause-ends
returns-then-not-is_listable-clause-ends g c = subst IsFinal (sym c.too_many.ensures.status) tt

pub returns-clause-ends : goal.returns-clause-ends
returns-clause-ends g c = tt
