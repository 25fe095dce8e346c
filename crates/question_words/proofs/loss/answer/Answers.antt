use Rattle.std.proofs.Common.{◌≤◌, ◌∙◌, refl, List, ap, subst, length, sym, codes, get_or, false, arith}
use Rattle.dover_model.specs.Common.{bound, IsInOrder, IsJob, JobFacts, last_deadline, last_tick_in, most_jobs, Each}
use Rattle.dover_model.specs.Common.{ran}
use Rattle.dover_model.specs.declared.events.Version.TheVariants.{Two}
use Rattle.dover_model.proofs.runs.Honest.{observed_honest}
use Rattle.dialogue.specs.Talk.{IsFinal}
use Rattle.dover_model.proofs.lists.Tests.{never}
use Rattle.event_feed.specs.Listing.{listed_instance}
use Rattle.clairvoyant.specs.overload.Stretches.{IsWorth}
use Rattle.question_words.specs.Loss.{SaysLoss}
use Rattle.question_words.specs.Texts.{stretch_lines, text_of}
use Rattle.question_words.proofs.Comparing.{value_short}
use Rattle.question_words.proofs.Lines.{four_written}
use Rattle.question_words.proofs.Losing.{rows_said, lost}
use Rattle.question_words.proofs.Observations.{observed_jobs, observed_in_order, observed_count, observed_due}
use Rattle.question_words.proofs.loss.answer.Goals as goal

pub observe_each-requires-clause-listable : goal.observe_each-requires-clause-listable
observe_each-requires-clause-listable g c = c.if-not-is_listable.ensures.0 refl

pub cost_of-requires-clause-in_order : goal.cost_of-requires-clause-in_order
cost_of-requires-clause-in_order g c = subst IsInOrder (sym (c.deref.ensures.value ∙ c.in_ok-completed.ensures.jobs))
    (observed_in_order (listed_instance c.args.listed) c.requires.valid)

pub cost_of-requires-clause-count : goal.cost_of-requires-clause-count
cost_of-requires-clause-count g c =
    subst (λ (js : List JobFacts). length js ≤ most_jobs Two)
    (sym (c.deref.ensures.value ∙ c.in_ok-completed.ensures.jobs))
    (subst (λ n. n ≤ most_jobs Two) (sym (observed_count (listed_instance c.args.listed) c.requires.valid))
    (c.if-not-is_listable.ensures.0 refl).count)

pub cost_of-requires-clause-due : goal.cost_of-requires-clause-due
cost_of-requires-clause-due g c = subst (λ (js : List JobFacts). last_deadline js ≤ last_tick_in Two)
    (sym (c.deref.ensures.value ∙ c.in_ok-completed.ensures.jobs))
    (omega (
      arith,
      observed_due (listed_instance c.args.listed) c.requires.valid,
      (c.if-not-is_listable.ensures.0 refl).due,
    ))

-- what the run completes is what its schedule is worth
pub cost_of-requires-clause-value : goal.cost_of-requires-clause-value
cost_of-requires-clause-value g c =
    let J = listed_instance c.args.listed in
    subst (λ js. IsWorth js c.in_ok-completed.completed.value)
    (sym (c.deref.ensures.value ∙ c.in_ok-completed.ensures.jobs))
    (J.rules, ran J, observed_honest J c.requires.valid ∙ sym c.in_ok-completed.ensures.value)

pub put_bound-requires-clause-value : goal.put_bound-requires-clause-value
put_bound-requires-clause-value g c = value_short (listed_instance c.args.listed) c.requires.valid
    (c.if-not-is_listable.ensures.0 refl) _ c.in_ok-completed.ensures.value

pub rows-requires-clause-in_order : goal.rows-requires-clause-in_order
rows-requires-clause-in_order g c = subst IsInOrder (sym (c.deref-2.ensures.value ∙ c.in_ok-completed.ensures.jobs))
    (observed_in_order (listed_instance c.args.listed) c.requires.valid)

pub rows-requires-clause-count : goal.rows-requires-clause-count
rows-requires-clause-count g c =
    subst (λ (js : List JobFacts). length js ≤ most_jobs Two)
    (sym (c.deref-2.ensures.value ∙ c.in_ok-completed.ensures.jobs))
    (subst (λ n. n ≤ most_jobs Two) (sym (observed_count (listed_instance c.args.listed) c.requires.valid))
    (c.if-not-is_listable.ensures.0 refl).count)

pub rows-requires-clause-each : goal.rows-requires-clause-each
rows-requires-clause-each g c = subst (Each IsJob) (sym (c.deref-2.ensures.value ∙ c.in_ok-completed.ensures.jobs))
    (observed_jobs (listed_instance c.args.listed) c.requires.valid)

pub returns-clause-says : goal.returns-clause-says
returns-clause-says g c =
    let J = listed_instance c.args.listed in
    let costed = c.in_ok-costed.costed in
    let rows = c.in_ok-rows.rows.items in
    lost J c.requires.valid costed (c.if-not-is_listable.ensures.0 refl) c.deref.result.now
    (c.deref.ensures.value ∙ c.in_ok-completed.ensures.jobs)
    c.in_ok-costed.ensures
    c.in_ok-completed.completed.value (bound J.rules.ratio c.in_ok-completed.completed.value)
    c.in_ok-completed.ensures.value refl rows
    (rows_said J c.requires.valid costed c.deref-2.result.now
    (c.deref-2.ensures.value ∙ c.in_ok-completed.ensures.jobs) c.deref-3.result.now
    c.deref-3.ensures.value (λ n. get_or c.deref-4.result.now n false)
    (λ n low. ap (λ flags. get_or flags n false) c.deref-4.ensures.value ∙ c.in_ok-completed.ensures.done n)
    rows c.in_ok-rows.ensures) _
    (four_written (codes "total") (codes "value") (codes "ceiling") (codes "bound") costed.total
    c.in_ok-completed.completed.value costed.cap (bound J.rules.ratio c.in_ok-completed.completed.value)
    (stretch_lines rows) c.new-head.result c.put_bound.new.head c.put_with_wide.new.self c.put_with_wide-2.new.self
    c.put_with_wide-3.new.self c.new-head.ensures c.put_bound.ensures.is c.put_with_wide.ensures.is
    c.put_with_wide-2.ensures.is c.put_with_wide-3.ensures.is)

pub put_bound-requires-clause-fits : goal.put_bound-requires-clause-fits
put_bound-requires-clause-fits g c = omega (arith, ap length c.new-head.ensures)

pub put_with_wide-requires : goal.put_with_wide-requires
put_with_wide-requires g c = omega (arith, c.put_bound.ensures.size, ap length c.new-head.ensures)

pub put_with_wide-requires-2 : goal.put_with_wide-requires-2
put_with_wide-requires-2 g c = omega (
  arith,
  c.put_bound.ensures.size,
  c.put_with_wide.ensures.size,
  ap length c.new-head.ensures,
)

pub put_with_wide-requires-3 : goal.put_with_wide-requires-3
put_with_wide-requires-3 g c = omega (
  arith,
  c.put_bound.ensures.size,
  c.put_with_wide.ensures.size,
  c.put_with_wide-2.ensures.size,
  ap length c.new-head.ensures,
)

pub returns-clause-count : goal.returns-clause-count
returns-clause-count g c = c.observe_each.ensures.count

pub returns-then-not-is_listable-clause-says : goal.returns-then-not-is_listable-clause-says
returns-then-not-is_listable-clause-says g c =
    subst (λ status. SaysLoss (listed_instance c.args.listed) status (text_of c.too_many.result))
    (sym c.too_many.ensures.status)
    (λ listable. never (sym c.if-not-is_listable.true ∙ c.is_listable.ensures.1 listable), c.too_many.ensures.text)

pub returns-then-not-is_listable-clause-ends : goal.returns-then-not-is_listable-clause-ends
returns-then-not-is_listable-clause-ends g c = subst IsFinal (sym c.too_many.ensures.status) tt

pub returns-clause-ends : goal.returns-clause-ends
returns-clause-ends g c = tt

pub returns-in_err-rows-clause-count : goal.returns-in_err-rows-clause-count
returns-in_err-rows-clause-count g c = c.observe_each.ensures.count

pub returns-in_err-costed-clause-count : goal.returns-in_err-costed-clause-count
returns-in_err-costed-clause-count g c = c.observe_each.ensures.count
