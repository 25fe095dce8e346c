use Rattle.std.proofs.Common.{sym, ap, ◌∙◌, find}
use Rattle.dover_model.specs.State.{is_fresh}
use Rattle.ready_jobs.specs.Parts.{Parted, ready_of}
use Rattle.ready_jobs.specs.Kept.{parted_of}
use Rattle.ready_jobs.proofs.Seeing.{seen_fresh}
use Rattle.ready_jobs.proofs.parts.Parts.fresh.Goals as goal

pub returns-clause-seen : goal.returns-clause-seen
returns-clause-seen c = sym (seen_fresh (parted_of c.self.inside) c.self.invariant.roles)
    ∙ ap (λ (q : Parted). find is_fresh (ready_of q)) c.self.view_is
