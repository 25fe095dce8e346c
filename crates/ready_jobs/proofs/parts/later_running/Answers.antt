use Rattle.std.proofs.Common.{◌+◌, ◌<◌, inl, refl, subst, option_to_list}
use Rattle.dover_model.specs.declared.events.Task.{Task}
use Rattle.dover_model.specs.Sound.{Each}
use Rattle.ready_jobs.proofs.parts.later_running.Goals as goal

pub later-requires : goal.later-requires
later-requires c =
    subst (λ o. Each (λ (t : Task). t.had + c.args.ticks < 18_446_744_073_709_551_616) (option_to_list o)) c.in-Some.is
    c.requires c.in-Some.t (inl refl)
