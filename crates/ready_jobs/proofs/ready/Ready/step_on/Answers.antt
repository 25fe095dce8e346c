use Rattle.std.proofs.Common.{◌+◌, ◌*◌, ◌≤◌, ◌<◌, length, sym, ap, ◌∙◌, subst, arith, filter}
use Rattle.dover_model.specs.State.{is_held}
use Rattle.waiting_pool.specs.Pools.{orders_of}
use Rattle.dover_model.specs.declared.events.Event.TheVariants.{End}
use Rattle.ready_jobs.specs.Course.{Course, Takes}
use Rattle.ready_jobs.specs.Spending.{wait_again}
use Rattle.ready_jobs.proofs.Costing.{no_cost, both_at_most}
use Rattle.ready_jobs.proofs.Courses.{some_jobs, kept_on}
use Rattle.ready_jobs.proofs.ChangedCourses.{over_takes}
use Rattle.ready_jobs.proofs.ready.Ready.step_on.Goals as goal

pub returns-then-is_empty-clause-taken : goal.returns-then-is_empty-clause-taken
returns-then-is_empty-clause-taken g c =
    let now = c.args.self.now in
    subst (λ n. Takes now (End n) now) (sym (ap (λ (d : Course). d.done) c.self.view_is))
    (over_takes now (sym (ap (λ (d : Course). d.ready) c.self.view_is) ∙ c.is_empty.ensures.0 c.if-is_empty.true))

pub returns-clause-taken : goal.returns-clause-taken
returns-clause-taken g c = record {
  there = c.due_next-due.new.self;
  comes = c.due_next-due.ensures.comes;
  passes = c.take.ensures.after;
  clock = ap (λ (d : Course). d.clock) c.take.ensures.kept;
}

pub returns-clause-paid : goal.returns-clause-paid
returns-clause-paid g c start paid = c.take.ensures.paid start (c.due_next-due.ensures.paid start paid)

pub returns-clause-once : goal.returns-clause-once
returns-clause-once g c d fits =
    let e = c.due_next-due.result.event in
    subst (λ hs. c.take.new.comparisons ≤ c.args.comparisons.now
    + orders_of c.args.self.now.rules.version * d * (6 + wait_again e hs))
    c.due_next-due.ensures.held
    (both_at_most _ _ _ _ _ _ (c.due_next-due.ensures.once d fits)
    (subst (λ v. c.take.new.comparisons ≤ c.due_next-due.new.comparisons
    + orders_of v * d * (4 + wait_again e (filter is_held c.due_next-due.new.self.ready)))
    (ap (λ (q : Course). q.rules.version) c.due_next-due.ensures.kept)
    (c.take.ensures.once d (omega (arith, fits, c.due_next-due.ensures.fewer)))))

pub due_next-due-requires : goal.due_next-due-requires
due_next-due-requires g c = record {
  some = subst (λ (d : Course). 0 < length d.ready) c.self.view_is
      (some_jobs _ c.is_empty.result c.if-is_empty.false c.is_empty.ensures.1);
}

pub returns-clause-kept : goal.returns-clause-kept
returns-clause-kept g c =
    kept_on c.args.self.now c.due_next-due.new.self c.take.new.self c.due_next-due.ensures.kept c.take.ensures.kept

pub returns-then-is_empty-clause-once : goal.returns-then-is_empty-clause-once
returns-then-is_empty-clause-once g c d fits = no_cost _ _
