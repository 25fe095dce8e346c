use Rattle.std.proofs.Common.{inl, refl, arith, sym, subst}
use Rattle.dover_model.specs.declared.events.Event.TheVariants.{Abandon}
use Rattle.ready_jobs.specs.Changed.{Leaves, printed}
use Rattle.waiting_pool.specs.Pools.{orders_of}
use Rattle.ready_jobs.specs.Parts.{ready_of}
use Rattle.ready_jobs.proofs.Applied.{gone_leaves, gone_named}
use Rattle.ready_jobs.proofs.Costing.{abandon_costs, fewer_wait}
use Rattle.ready_jobs.proofs.parts.Parts.abandon_next.Goals as goal

pub returns-clause-leaves : goal.returns-clause-leaves
returns-clause-leaves g c at =
    let p = c.args.self.now in
    subst (λ q. Leaves (printed (Abandon at c.args.number)) (ready_of p) (ready_of q) 0)
    (sym c.abandon.ensures.kept)
    (gone_leaves p c.laws.ensures.roles c.requires.once c.args.number c.requires.sound c.requires.next
    c.abandon.new.self.waiting c.abandon.ensures.rest at)

pub returns-clause-cost : goal.returns-clause-cost
returns-clause-cost g c at d fits =
    let p = c.args.self.now in
    let it = gone_named p c.laws.ensures.roles c.requires.once c.args.number c.requires.sound c.requires.next in
    abandon_costs p c.laws.ensures.roles (orders_of p.version) d _ _ at c.args.number it.0
    ((c.abandon.ensures.rest it.0 it.1).back it.0 (inl refl)) it.2
    (c.abandon.ensures.count d (let few = fewer_wait p in omega (arith, fits, few)))

pub returns-clause-once : goal.returns-clause-once
returns-clause-once g c d fits =
    c.abandon.ensures.count d (let few = fewer_wait c.args.self.now in omega (arith, fits, few))
