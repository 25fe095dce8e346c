use Rattle.std.proofs.Common.{◌≡◌, ◌+◌, ◌*◌, ◌≤◌, refl, subst}
use Rattle.dover_model.specs.declared.events.Event.TheVariants.{Run}
use Rattle.dover_model.specs.Common.{Prints, cost_of}
use Rattle.dover_model.specs.Step.{pressed_after}
use Rattle.waiting_pool.specs.Pools.{orders_of}
use Rattle.ready_jobs.specs.Parts.{ready_of, state_of}
use Rattle.ready_jobs.specs.Spending.{wait_again}
use Rattle.ready_jobs.specs.declared.actions.Action.TheVariants as actions
use Rattle.ready_jobs.proofs.Applied.{leaves_fewer}
use Rattle.ready_jobs.proofs.Costing.{no_cost, one_at_most}
use Rattle.ready_jobs.proofs.Doing.{does_print, does_next, does_leaves}
use Rattle.ready_jobs.proofs.parts.Parts.apply.Goals as goal

pub resume_next-requires-clause-next : goal.resume_next-requires-clause-next
resume_next-requires-clause-next g c =
    let p = c.args.self.now in (p.clock, does_next _ _ _ c.in-Resume.is _ _ refl c.requires.does.1)

pub start_next-requires-clause-next : goal.start_next-requires-clause-next
start_next-requires-clause-next g c =
    let p = c.args.self.now in (p.clock, does_next _ _ _ c.in-Start.is _ _ refl c.requires.does.1)

pub begin_next-requires-clause-next : goal.begin_next-requires-clause-next
begin_next-requires-clause-next g c =
    let p = c.args.self.now in (p.clock, does_next _ _ _ c.in-Begin.is _ _ refl c.requires.does.1)

pub preempt_next-requires-clause-next : goal.preempt_next-requires-clause-next
preempt_next-requires-clause-next g c =
    let p = c.args.self.now in (p.clock, does_next _ _ _ c.in-Preempt.is _ _ refl c.requires.does.1)

pub take_next-requires-clause-next : goal.take_next-requires-clause-next
take_next-requires-clause-next g c =
    let p = c.args.self.now in (p.clock, does_next _ _ _ c.in-Take.is _ _ refl c.requires.does.1)

pub complete_next-requires-clause-next : goal.complete_next-requires-clause-next
complete_next-requires-clause-next g c =
    let p = c.args.self.now in (p.clock, does_next _ _ _ c.in-Complete.is _ _ refl c.requires.does.1)

pub abandon_next-requires-clause-next : goal.abandon_next-requires-clause-next
abandon_next-requires-clause-next g c =
    let p = c.args.self.now in (p.clock, does_next _ _ _ c.in-Abandon.is _ _ refl c.requires.does.1)

pub returns-in-Resume-clause-fewer : goal.returns-in-Resume-clause-fewer
returns-in-Resume-clause-fewer g c = leaves_fewer _ _ _ _ (c.resume_next.ensures.leaves 0)

pub returns-in-Start-clause-fewer : goal.returns-in-Start-clause-fewer
returns-in-Start-clause-fewer g c = leaves_fewer _ _ _ _ (c.start_next.ensures.leaves 0)

pub returns-in-Begin-clause-fewer : goal.returns-in-Begin-clause-fewer
returns-in-Begin-clause-fewer g c = leaves_fewer _ _ _ _ (c.begin_next.ensures.leaves 0)

pub returns-in-Preempt-clause-fewer : goal.returns-in-Preempt-clause-fewer
returns-in-Preempt-clause-fewer g c = leaves_fewer _ _ _ _ (c.preempt_next.ensures.leaves 0)

pub returns-in-Take-clause-fewer : goal.returns-in-Take-clause-fewer
returns-in-Take-clause-fewer g c = leaves_fewer _ _ _ _ (c.take_next.ensures.leaves 0)

pub returns-in-Complete-clause-fewer : goal.returns-in-Complete-clause-fewer
returns-in-Complete-clause-fewer g c = leaves_fewer _ _ _ _ (c.complete_next.ensures.leaves 0)

pub returns-in-Abandon-clause-fewer : goal.returns-in-Abandon-clause-fewer
returns-in-Abandon-clause-fewer g c = leaves_fewer _ _ _ _ (c.abandon_next.ensures.leaves 0)

pub returns-in-Start-clause-cost : goal.returns-in-Start-clause-cost
returns-in-Start-clause-cost g c e d does fits =
    let p = c.args.self.now in
    subst (λ x. c.start_next.new.comparisons
    ≤ c.args.comparisons.now + cost_of (orders_of p.version) d (state_of p) (Prints x))
    (does_print p c.args.action (actions.Start c.in-Start.number) c.in-Start.is (Run p.clock c.in-Start.number) e refl
    does)
    (c.start_next.ensures.cost p.clock d fits)

pub returns-in-Take-clause-cost : goal.returns-in-Take-clause-cost
returns-in-Take-clause-cost g c e d does fits =
    let p = c.args.self.now in
    subst (λ x. c.take_next.new.comparisons
    ≤ c.args.comparisons.now + cost_of (orders_of p.version) d (state_of p) (Prints x))
    (does_print _ _ _ c.in-Take.is _ _ refl does)
    (c.take_next.ensures.cost p.clock d fits)

pub returns-in-Abandon-clause-cost : goal.returns-in-Abandon-clause-cost
returns-in-Abandon-clause-cost g c e d does fits =
    let p = c.args.self.now in
    subst (λ x. c.abandon_next.new.comparisons
    ≤ c.args.comparisons.now + cost_of (orders_of p.version) d (state_of p) (Prints x))
    (does_print _ _ _ c.in-Abandon.is _ _ refl does)
    (c.abandon_next.ensures.cost p.clock d fits)

pub returns-in-Start-clause-once : goal.returns-in-Start-clause-once
returns-in-Start-clause-once g c e d does fits =
    one_at_most _ _ _ _ _ (c.start_next.ensures.once d fits)

pub returns-in-Take-clause-once : goal.returns-in-Take-clause-once
returns-in-Take-clause-once g c e d does fits =
    let p = c.args.self.now in
    subst (λ x. c.take_next.new.comparisons
    ≤ c.args.comparisons.now + orders_of p.version * d * (4 + wait_again x p.held))
    (does_print _ _ _ c.in-Take.is _ _ refl does) (c.take_next.ensures.once d fits)

pub returns-in-Abandon-clause-once : goal.returns-in-Abandon-clause-once
returns-in-Abandon-clause-once g c e d does fits =
    one_at_most _ _ _ _ _ (c.abandon_next.ensures.once d fits)

pub resume_next-requires-clause-once : goal.resume_next-requires-clause-once
resume_next-requires-clause-once g c = c.requires.once

pub start_next-requires-clause-once : goal.start_next-requires-clause-once
start_next-requires-clause-once g c = c.requires.once

pub begin_next-requires-clause-once : goal.begin_next-requires-clause-once
begin_next-requires-clause-once g c = c.requires.once

pub preempt_next-requires-clause-once : goal.preempt_next-requires-clause-once
preempt_next-requires-clause-once g c = c.requires.once

pub take_next-requires-clause-once : goal.take_next-requires-clause-once
take_next-requires-clause-once g c = c.requires.once

pub complete_next-requires-clause-once : goal.complete_next-requires-clause-once
complete_next-requires-clause-once g c = c.requires.once

pub abandon_next-requires-clause-once : goal.abandon_next-requires-clause-once
abandon_next-requires-clause-once g c = c.requires.once

pub returns-in-Resume-clause-leaves : goal.returns-in-Resume-clause-leaves
returns-in-Resume-clause-leaves g c e does =
    does_leaves _ _ _ c.in-Resume.is _ _ refl does _ _ (c.resume_next.ensures.leaves c.args.self.now.clock)

pub returns-in-Start-clause-leaves : goal.returns-in-Start-clause-leaves
returns-in-Start-clause-leaves g c e does =
    does_leaves _ _ _ c.in-Start.is _ _ refl does _ _ (c.start_next.ensures.leaves c.args.self.now.clock)

pub returns-in-Begin-clause-leaves : goal.returns-in-Begin-clause-leaves
returns-in-Begin-clause-leaves g c e does =
    does_leaves _ _ _ c.in-Begin.is _ _ refl does _ _ (c.begin_next.ensures.leaves c.args.self.now.clock)

pub returns-in-Preempt-clause-leaves : goal.returns-in-Preempt-clause-leaves
returns-in-Preempt-clause-leaves g c e does =
    does_leaves _ _ _ c.in-Preempt.is _ _ refl does _ _ (c.preempt_next.ensures.leaves c.args.self.now.clock)

pub returns-in-Take-clause-leaves : goal.returns-in-Take-clause-leaves
returns-in-Take-clause-leaves g c e does =
    does_leaves _ _ _ c.in-Take.is _ _ refl does _ _ (c.take_next.ensures.leaves c.args.self.now.clock)

pub returns-in-Complete-clause-leaves : goal.returns-in-Complete-clause-leaves
returns-in-Complete-clause-leaves g c e does =
    does_leaves _ _ _ c.in-Complete.is _ _ refl does _ _ (c.complete_next.ensures.leaves c.args.self.now.clock)

pub returns-in-Abandon-clause-leaves : goal.returns-in-Abandon-clause-leaves
returns-in-Abandon-clause-leaves g c e does =
    does_leaves _ _ _ c.in-Abandon.is _ _ refl does _ _ (c.abandon_next.ensures.leaves c.args.self.now.clock)

pub returns-in-Resume-clause-cost : goal.returns-in-Resume-clause-cost
returns-in-Resume-clause-cost g c e d does fits = no_cost _ _

pub returns-in-Resume-clause-once : goal.returns-in-Resume-clause-once
returns-in-Resume-clause-once g c e d does fits = no_cost _ _

pub returns-in-Begin-clause-cost : goal.returns-in-Begin-clause-cost
returns-in-Begin-clause-cost g c e d does fits = no_cost _ _

pub returns-in-Begin-clause-once : goal.returns-in-Begin-clause-once
returns-in-Begin-clause-once g c e d does fits = no_cost _ _

pub returns-in-Preempt-clause-cost : goal.returns-in-Preempt-clause-cost
returns-in-Preempt-clause-cost g c e d does fits = no_cost _ _

pub returns-in-Preempt-clause-once : goal.returns-in-Preempt-clause-once
returns-in-Preempt-clause-once g c e d does fits = no_cost _ _

pub returns-in-Complete-clause-cost : goal.returns-in-Complete-clause-cost
returns-in-Complete-clause-cost g c e d does fits = no_cost _ _

pub returns-in-Complete-clause-once : goal.returns-in-Complete-clause-once
returns-in-Complete-clause-once g c e d does fits = no_cost _ _

pub returns-in-Complete-clause-pressed : goal.returns-in-Complete-clause-pressed
returns-in-Complete-clause-pressed g c e does =
    let p = c.args.self.now in
    let q = c.complete_next.new.self in
    subst (λ x. q.pressed ≡ pressed_after x p.pressed (ready_of q))
    (does_print _ _ _ c.in-Complete.is _ _ refl does) (c.complete_next.ensures.pressed p.clock)
