use Rattle.std.proofs.Common.{sym, ◌∙◌, subst}
use Rattle.dover_model.specs.declared.events.Event.TheVariants.{Complete}
use Rattle.ready_jobs.specs.Changed.{Leaves, printed}
use Rattle.ready_jobs.specs.Parts.{ready_of}
use Rattle.ready_jobs.proofs.Applied.{done_leaves, some_done}
use Rattle.ready_jobs.proofs.parts.Parts.complete_next.Goals as goal

pub returns-clause-leaves : goal.returns-clause-leaves
returns-clause-leaves c at =
    let p = c.args.self.now in
    subst (λ n. Leaves (printed (Complete at c.args.number)) (ready_of p) (ready_of c.complete.new.self) n)
    (sym c.value.ensures.is)
    (subst (λ q. Leaves (printed (Complete at c.args.number)) (ready_of p) (ready_of q) c.in-Some.r.job.value)
    (sym c.complete.ensures)
    (done_leaves p c.laws.ensures.roles c.requires.once c.args.number c.requires.next c.in-Some.r
    (sym c.running.ensures.is ∙ c.in-Some.is) at))

pub unreachable-requires : goal.unreachable-requires
unreachable-requires c = some_done c.args.self.now c.laws.ensures.roles c.requires.once c.args.number c.requires.next
    (sym c.running.ensures.is ∙ c.in-None.is)
