use Rattle.std.proofs.Common.{◌+◌, ◌<◌, sym, subst, vec_capacity, option_to_list}
use Rattle.dover_model.specs.Sound.{Each}
use Rattle.ready_jobs.specs.Parts.{Parted, AreParts}
use Rattle.ready_jobs.specs.Kept.{parted_of}
use Rattle.ready_jobs.proofs.Keeping.{ticked_kept}
use Rattle.ready_jobs.proofs.parts.Parts.tick.Goals as goal

pub invariant_of-self : goal.invariant_of-self
invariant_of-self c =
    let inside = c.self.inside in
    subst (λ o. AreParts (record (parted_of inside) { clock = inside.clock + c.args.ticks; running = o }) inside.rooms
    inside.pool (vec_capacity inside.held))
    (sym c.later_running.ensures)
    (ticked_kept (parted_of inside) inside.rooms inside.pool (vec_capacity inside.held) c.self.invariant c.args.ticks)

pub later_running-requires : goal.later_running-requires
later_running-requires c =
    subst (λ (q : Parted). Each (λ t. t.had + c.args.ticks < 18_446_744_073_709_551_616) (option_to_list q.running))
    (sym c.self.view_is) c.requires.had
