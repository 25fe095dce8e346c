use Rattle.std.proofs.Common.{sym, ◌∙◌, subst}
use Rattle.dover_model.specs.declared.events.Event.TheVariants.{Preempt}
use Rattle.ready_jobs.specs.Changed.{Leaves, printed}
use Rattle.ready_jobs.specs.Parts.{ready_of}
use Rattle.ready_jobs.proofs.Applied.{preempted_leaves, some_fresh}
use Rattle.ready_jobs.proofs.parts.Parts.preempt_next.Goals as goal

pub returns-in-Some-fresh-clause-leaves : goal.returns-in-Some-fresh-clause-leaves
returns-in-Some-fresh-clause-leaves c at =
    let p = c.args.self.now in
    subst (λ q. Leaves (printed (Preempt at c.args.stops c.args.starts)) (ready_of p) (ready_of q) 0)
    (sym c.preempt.ensures)
    (preempted_leaves p c.laws.ensures.roles c.requires.once c.args.stops c.args.starts c.requires.next
    c.in-Some.r c.in-Some-fresh.f
    (sym c.running.ensures.is ∙ c.in-Some.is) (sym c.fresh.ensures.is ∙ c.in-Some-fresh.is) at)

pub returns-in_default-fresh-clause-leaves : goal.returns-in_default-fresh-clause-leaves
returns-in_default-fresh-clause-leaves c at = absurd
    (some_fresh c.args.self.now c.laws.ensures.roles c.requires.once c.args.stops c.args.starts c.requires.next
    (sym c.fresh.ensures.is ∙ c.in_default-fresh.is))
