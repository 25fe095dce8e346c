use Rattle.std.proofs.Common.{sym, ◌∙◌, subst}
use Rattle.dover_model.specs.declared.events.Event.TheVariants.{Run}
use Rattle.dover_model.proofs.lists.Tests.{none_is_some}
use Rattle.ready_jobs.specs.Changed.{Leaves, printed}
use Rattle.ready_jobs.specs.Parts.{ready_of}
use Rattle.ready_jobs.proofs.Applied.{run_free, fresh_runs}
use Rattle.ready_jobs.proofs.parts.Parts.begin_next.Goals as goal

pub begin-requires : goal.begin-requires
begin-requires c =
    run_free c.args.self.now c.laws.ensures.roles c.requires.once c.args.number c.requires.next

pub returns-clause-leaves : goal.returns-clause-leaves
returns-clause-leaves c at =
    let p = c.args.self.now in
    let it = c.requires.finds in
    subst (λ q. Leaves (printed (Run at c.args.number)) (ready_of p) (ready_of q) 0) (sym c.begin.ensures)
    (fresh_runs p c.laws.ensures.roles c.requires.once c.args.number c.requires.next
    (λ t is number. none_is_some (sym it.0 ∙ is)) (λ t is number. none_is_some (sym it.1 ∙ is)) at)
