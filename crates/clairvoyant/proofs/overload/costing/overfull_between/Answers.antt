use Rattle.std.proofs.Common.{◌≤◌, List, length, sym, subst, arith}
use Rattle.dover_model.specs.declared.events.Version.TheVariants.{Two}
use Rattle.dover_model.specs.Common.{last_deadline, last_tick_in, most_jobs, IsInOrder, JobFacts, is_inside}
use Rattle.dover_model.proofs.valid.ValidParts.{order_parts, order_from}
use Rattle.clairvoyant.specs.feasible.Feasibility.{CanMeet, IsAnswer, ShowsWindow}
use Rattle.clairvoyant.specs.declared.feasible.answer.Feasible.{Feasible}
use Rattle.clairvoyant.proofs.feasible.Dues.{filter_due}
use Rattle.clairvoyant.proofs.overload.Filling.{first_shown}
use Rattle.clairvoyant.proofs.overload.Near.{found_inside, filter_few, filter_in_order}
use Rattle.clairvoyant.proofs.overload.NoneMet.{window_shown}
use Rattle.clairvoyant.proofs.overload.costing.overfull_between.Goals as goal

pub judge_feasible-requires-clause-in_order : goal.judge_feasible-requires-clause-in_order
judge_feasible-requires-clause-in_order c = subst IsInOrder (sym (found_inside _ _ _ c.requires.each _ _ _
    c.deref.ensures.value c.in_ok-between.ensures c.near.ensures))
    (order_from (filter_in_order (is_inside c.args.from c.args.until) c.args.jobs.now
    (order_parts c.requires.in_order)))

pub judge_feasible-requires-clause-count : goal.judge_feasible-requires-clause-count
judge_feasible-requires-clause-count c = subst (λ (js : List JobFacts). length js ≤ most_jobs Two)
    (sym (found_inside _ _ _ c.requires.each _ _ _ c.deref.ensures.value c.in_ok-between.ensures c.near.ensures))
    (omega (arith, filter_few (is_inside c.args.from c.args.until) c.args.jobs.now, c.requires.count))

pub returns-in-All : goal.returns-in-All
returns-in-All c = subst CanMeet
    (found_inside _ _ _ c.requires.each _ _ _ c.deref.ensures.value c.in_ok-between.ensures c.near.ensures)
    ((subst (λ (given : Feasible). IsAnswer c.deref.result.now given) c.in-All.is c.in_ok-judge_feasible.ensures).meets)

pub returns : goal.returns
returns c = first_shown c.args.jobs.now c.requires.each c.args.from c.args.until c.in-Window.a c.in-Window.b
    c.in-Window.work
    (subst (λ js. ShowsWindow js c.in-Window.a c.in-Window.b c.in-Window.work)
    (found_inside _ _ _ c.requires.each _ _ _ c.deref.ensures.value c.in_ok-between.ensures c.near.ensures)
    (window_shown _ _ _ _ _ c.in-Window.is c.in_ok-judge_feasible.ensures))

pub judge_feasible-requires-clause-due : goal.judge_feasible-requires-clause-due
judge_feasible-requires-clause-due c = subst (λ js. last_deadline js ≤ last_tick_in Two)
    (sym (found_inside _ _ _ c.requires.each _ _ _ c.deref.ensures.value c.in_ok-between.ensures c.near.ensures))
    (omega (arith, filter_due (is_inside c.args.from c.args.until) c.args.jobs.now, c.requires.due))
