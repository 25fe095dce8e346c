use Rattle.std.proofs.Common.{sym, ◌∙◌, subst}
use Rattle.dover_model.specs.declared.events.Event.TheVariants.{Run}
use Rattle.ready_jobs.specs.Changed.{Leaves, printed}
use Rattle.ready_jobs.specs.Parts.{ready_of}
use Rattle.ready_jobs.proofs.Applied.{run_free, held_runs}
use Rattle.ready_jobs.proofs.parts.Parts.resume_next.Goals as goal

pub resume-requires : goal.resume-requires
resume-requires c =
    run_free c.args.self.now c.laws.ensures.roles c.requires.once c.args.number c.requires.next

pub returns-clause-leaves : goal.returns-clause-leaves
returns-clause-leaves c at =
    let p = c.args.self.now in
    let it = c.requires.finds in
    subst (λ q. Leaves (printed (Run at c.args.number)) (ready_of p) (ready_of q) 0) (sym c.resume.ensures)
    (held_runs p c.laws.ensures.roles c.requires.once c.args.number c.requires.next it.0
    (sym c.first_held.ensures.is ∙ c.first_held.ensures.seen ∙ it.1) it.2 at)
