use Rattle.std.proofs.Common.{sym, ap, ◌∙◌}
use Rattle.dover_model.specs.State.{running}
use Rattle.ready_jobs.specs.Parts.{Parted, state_of}
use Rattle.ready_jobs.specs.Kept.{parted_of}
use Rattle.ready_jobs.proofs.Seeing.{seen_running}
use Rattle.ready_jobs.proofs.parts.Parts.running.Goals as goal

pub returns-clause-seen : goal.returns-clause-seen
returns-clause-seen c = sym (seen_running (parted_of c.self.inside) c.self.invariant.roles)
    ∙ ap (λ (q : Parted). running (state_of q)) c.self.view_is
