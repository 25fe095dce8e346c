use Rattle.std.proofs.Common.{inl, refl, arith, sym, ap, ◌∙◌, subst, option_map}
use Rattle.dover_model.specs.declared.events.Event.TheVariants.{Run}
use Rattle.dover_model.specs.declared.events.Role.TheVariants.{Running}
use Rattle.dover_model.specs.Common.{first, with_role}
use Rattle.ready_jobs.specs.Changed.{Leaves, printed}
use Rattle.waiting_pool.specs.Pools.{orders_of}
use Rattle.ready_jobs.specs.Parts.{ready_of, first_by}
use Rattle.ready_jobs.proofs.Applied.{run_free, waiting_runs}
use Rattle.ready_jobs.proofs.Costing.{run_costs, fewer_wait}
use Rattle.ready_jobs.proofs.Seeing.{waiting_list}
use Rattle.ready_jobs.proofs.parts.Parts.start_next.Goals as goal

pub start-requires-clause-free : goal.start-requires-clause-free
start-requires-clause-free g c =
    run_free c.args.self.now c.laws.ensures.roles c.requires.once c.args.number c.requires.next

pub returns-clause-leaves : goal.returns-clause-leaves
returns-clause-leaves g c at =
    let p = c.args.self.now in
    let q = c.start.new.self in
    let it = c.requires.finds in
    let first_is = ap (first (first_by p)) (sym (waiting_list p c.laws.ensures.roles)) ∙ it.1 in
    let runs = c.start.ensures.runs ∙ ap (option_map (λ o. with_role o Running)) first_is in
    subst (λ q. Leaves (printed (Run at c.args.number)) (ready_of p) (ready_of q) 0)
    (sym (c.start.ensures.kept ∙ ap (λ o. record p { running = o; waiting = q.waiting }) runs))
    (waiting_runs p c.laws.ensures.roles c.requires.once c.args.number c.requires.next it.0 q.waiting it.2
    (c.start.ensures.rest it.0 first_is) at)

pub returns-clause-cost : goal.returns-clause-cost
returns-clause-cost g c at d fits =
    let p = c.args.self.now in
    let it = c.requires.finds in
    let first_is = ap (first (first_by p)) (sym (waiting_list p c.laws.ensures.roles)) ∙ it.1 in
    run_costs p c.laws.ensures.roles (orders_of p.version) d _ _ at c.args.number it.0
    ((c.start.ensures.rest it.0 first_is).back it.0 (inl refl)) it.2
    (c.start.ensures.count d (let few = fewer_wait p in omega (arith, fits, few)))

pub returns-clause-once : goal.returns-clause-once
returns-clause-once g c d fits =
    c.start.ensures.count d (let few = fewer_wait c.args.self.now in omega (arith, fits, few))
