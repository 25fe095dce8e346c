use Rattle.std.proofs.Common.{◌≤◌, ◌+◌, ◌∙◌, length, sym, ap, subst, arith}
use Rattle.dover_model.specs.declared.events.Version.TheVariants.{Two}
use Rattle.dover_model.specs.Common.{last_deadline, last_tick_in, most_jobs, IsInOrder, total_value, is_inside}
use Rattle.clairvoyant.specs.overload.Stretches.{Caps, IsWorth, most_sought, sets_of}
use Rattle.clairvoyant.proofs.feasible.Dues.{filter_due}
use Rattle.clairvoyant.proofs.overload.Near.{found_inside, filter_few, filter_in_order}
use Rattle.dover_model.proofs.valid.ValidParts.{order_parts, order_from}
use Rattle.clairvoyant.proofs.overload.costing.stretch.Goals as goal

pub total_value-total-requires : goal.total_value-total-requires
total_value-total-requires c = subst (λ js. length js ≤ most_jobs Two) (sym
    (found_inside _ _ _ c.requires.each _ _ _ c.deref.ensures.value c.in_ok-inside.ensures c.near.ensures))
    (omega (arith, filter_few (is_inside c.args.ticks.from c.args.ticks.until) c.args.jobs.now, c.requires.count))

pub cap-requires-clause-in_order : goal.cap-requires-clause-in_order
cap-requires-clause-in_order c = subst IsInOrder (sym (found_inside _ _ _ c.requires.each _ _ _ c.deref-2.ensures.value
    c.in_ok-inside.ensures c.near.ensures))
    (order_from (filter_in_order (is_inside c.args.ticks.from c.args.ticks.until) c.args.jobs.now
    (order_parts c.requires.in_order)))

pub cap-requires-clause-count : goal.cap-requires-clause-count
cap-requires-clause-count c = subst (λ js. length js ≤ most_jobs Two) (sym
    (found_inside _ _ _ c.requires.each _ _ _ c.deref-2.ensures.value c.in_ok-inside.ensures c.near.ensures))
    (omega (arith, filter_few (is_inside c.args.ticks.from c.args.ticks.until) c.args.jobs.now, c.requires.count))

pub returns-clause-stretch : goal.returns-clause-stretch
returns-clause-stretch c = record {
  some = c.requires.some;
  overfull = c.requires.overfull;
  total = c.total_value-total.ensures.is ∙ ap total_value (found_inside _ _ _ c.requires.each _ _ _
      c.deref.ensures.value c.in_ok-inside.ensures c.near.ensures);
  cap = subst (λ js. Caps js c.in_ok-cap.cap) (found_inside _ _ _ c.requires.each _ _ _ c.deref-2.ensures.value
      c.in_ok-inside.ensures c.near.ensures)
      c.in_ok-cap.ensures.cap;
  less = c.in_ok-cap.ensures.less;
}

pub returns-clause-reached : goal.returns-clause-reached
returns-clause-reached c = subst
    (λ js. sets_of (length js) ≤ c.args.sets.now → length js ≤ most_sought → IsWorth js c.in_ok-cap.cap)
    (found_inside _ _ _ c.requires.each _ _ _ c.deref-2.ensures.value c.in_ok-inside.ensures c.near.ensures)
    c.in_ok-cap.ensures.reached

pub returns-clause-spent : goal.returns-clause-spent
returns-clause-spent c = subst (λ js. c.args.sets.now ≤ c.cap.new.sets + sets_of (length js))
    (found_inside _ _ _ c.requires.each _ _ _ c.deref-2.ensures.value c.in_ok-inside.ensures c.near.ensures)
    c.cap.ensures.spent

pub cap-requires-clause-due : goal.cap-requires-clause-due
cap-requires-clause-due c = subst (λ js. last_deadline js ≤ last_tick_in Two) (sym
    (found_inside _ _ _ c.requires.each _ _ _ c.deref-2.ensures.value c.in_ok-inside.ensures c.near.ensures))
    (omega (arith, filter_due (is_inside c.args.ticks.from c.args.ticks.until) c.args.jobs.now, c.requires.due))
