use Rattle.std.proofs.Common.{Some, sym, ap, ◌∙◌, subst}
use Rattle.dover_model.specs.declared.events.Event.TheVariants.{Take}
use Rattle.ready_jobs.specs.Changed.{Leaves, printed}
use Rattle.ready_jobs.specs.Parts.{ready_of}
use Rattle.waiting_pool.specs.Pools.{orders_of}
use Rattle.waiting_pool.specs.Slots.{seen}
use Rattle.ready_jobs.proofs.Applied.{taken_leaves, taken_named, some_runs, some_late}
use Rattle.dover_model.specs.Orders.{starts_before}
use Rattle.dover_model.proofs.lists.FirstOfTasks.{first_member}
use Rattle.ready_jobs.proofs.Costing.{no_cost, take_costs}
use Rattle.ready_jobs.proofs.parts.Parts.take_next.Goals as goal

pub returns-in-Some-first_late-clause-leaves : goal.returns-in-Some-first_late-clause-leaves
returns-in-Some-first_late-clause-leaves g c at =
    let p = c.args.self.now in
    let late = ap seen c.in-Some-first_late.is ∙ ap Some (sym c.task-x.ensures) in
    subst (λ q. Leaves (printed (Take at c.args.stops c.args.starts)) (ready_of p) (ready_of q) 0)
    (sym c.take.ensures.kept)
    (taken_leaves p c.laws.ensures.roles c.requires.once c.args.stops c.args.starts c.requires.next
    c.in-Some.r c.task-x.result c.take.new.self.waiting
    (sym c.running.ensures.is ∙ c.in-Some.is) (sym c.first_late.ensures.seen ∙ late)
    c.take.ensures.rest at)

pub returns-in-Some-first_late-clause-cost : goal.returns-in-Some-first_late-clause-cost
returns-in-Some-first_late-clause-cost g c at d fits =
    let p = c.args.self.now in
    let x = c.task-x.result in
    let late = ap seen c.in-Some-first_late.is ∙ ap Some (sym c.task-x.ensures) in
    take_costs p c.laws.ensures.roles (orders_of p.version) d _ _ at c.requires.once c.args.stops c.args.starts
    c.in-Some.r x
    (sym c.running.ensures.is ∙ c.in-Some.is)
    (first_member (starts_before p.version) p.waiting x (c.first_late.ensures.is x late))
    (taken_named _ c.laws.ensures.roles c.requires.once _ _ c.requires.next _ (sym c.first_late.ensures.seen ∙ late))
    (c.take.ensures.count d fits)

pub returns-in-Some-first_late-clause-once : goal.returns-in-Some-first_late-clause-once
returns-in-Some-first_late-clause-once g c = c.take.ensures.count

pub returns-in_default-first_late-clause-leaves : goal.returns-in_default-first_late-clause-leaves
returns-in_default-first_late-clause-leaves g c at = absurd
    (some_late c.args.self.now c.laws.ensures.roles c.requires.once c.args.stops c.args.starts c.requires.next
    (sym c.first_late.ensures.seen ∙ ap seen c.in_default-first_late.is))

pub take-requires-clause-running : goal.take-requires-clause-running
take-requires-clause-running g c = sym c.running.ensures.is ∙ c.in-Some.is

pub take-requires-clause-sound : goal.take-requires-clause-sound
take-requires-clause-sound g c = c.requires.sound

pub returns-in_default-first_late-clause-cost : goal.returns-in_default-first_late-clause-cost
returns-in_default-first_late-clause-cost g c at d fits = no_cost _ _

pub returns-in_default-clause-cost : goal.returns-in_default-clause-cost
returns-in_default-clause-cost g c at d fits = no_cost _ _

pub returns-in_default-first_late-clause-once : goal.returns-in_default-first_late-clause-once
returns-in_default-first_late-clause-once g c d fits = no_cost _ _

pub returns-in_default-clause-once : goal.returns-in_default-clause-once
returns-in_default-clause-once g c d fits = no_cost _ _

pub returns-in_default-clause-leaves : goal.returns-in_default-clause-leaves
returns-in_default-clause-leaves g c at = absurd
    (some_runs c.args.self.now c.laws.ensures.roles c.requires.once c.args.stops c.args.starts c.requires.next
    (sym c.running.ensures.is ∙ c.in_default.is))
