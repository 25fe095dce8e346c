use Rattle.std.proofs.Common.{◌+◌, ◌*◌, ◌≤◌, sym, ap, subst, arith, filter}
use Rattle.dover_model.specs.State.{is_held}
use Rattle.waiting_pool.specs.Pools.{orders_of}
use Rattle.ready_jobs.specs.Course.{Course}
use Rattle.ready_jobs.specs.Spending.{wait_again}
use Rattle.dover_model.proofs.lists.Tests.{none_is_some}
use Rattle.ready_jobs.proofs.Courses.{kept_on}
use Rattle.ready_jobs.proofs.Costing.{both_at_most}
use Rattle.ready_jobs.proofs.ready.Ready.step.Goals as goal

pub returns-in-Some-clause-paid : goal.returns-in-Some-clause-paid
returns-in-Some-clause-paid g c start paid = c.take.ensures.paid start (c.due_before.ensures.paid start paid)

pub returns-in-Some-clause-once : goal.returns-in-Some-clause-once
returns-in-Some-clause-once g c d fits =
    let e = c.in-Some.due.event in
    subst (λ hs. c.take.new.comparisons ≤ c.args.comparisons.now
    + orders_of c.args.self.now.rules.version * d * (6 + wait_again e hs))
    c.due_before.ensures.held
    (both_at_most _ _ _ _ _ _ (c.due_before.ensures.once d fits)
    (subst (λ v. c.take.new.comparisons ≤ c.due_before.new.comparisons
    + orders_of v * d * (4 + wait_again e (filter is_held c.due_before.new.self.ready)))
    (ap (λ (q : Course). q.rules.version) c.due_before.ensures.kept)
    (c.take.ensures.once d (omega (arith, fits, c.due_before.ensures.fewer)))))

pub returns-in-None-clause-paid : goal.returns-in-None-clause-paid
returns-in-None-clause-paid g c = c.due_before.ensures.paid

pub returns-in-None-clause-freely : goal.returns-in-None-clause-freely
returns-in-None-clause-freely g c same = c.due_before.ensures.freely

pub returns-in-None-clause-once : goal.returns-in-None-clause-once
returns-in-None-clause-once g c d fits = omega (arith, c.due_before.ensures.once d fits)

pub returns-in-Some-clause-freely : goal.returns-in-Some-clause-freely
returns-in-Some-clause-freely g c none = none_is_some (sym none)

pub returns-in-Some-clause-kept : goal.returns-in-Some-clause-kept
returns-in-Some-clause-kept g c =
    kept_on c.args.self.now c.due_before.new.self c.take.new.self c.due_before.ensures.kept c.take.ensures.kept
