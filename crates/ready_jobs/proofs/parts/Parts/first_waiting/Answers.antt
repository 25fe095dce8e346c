use Rattle.std.proofs.Common.{sym, ap, ◌∙◌, subst}
use Rattle.dover_model.specs.Common.{first, view}
use Rattle.ready_jobs.specs.Parts.{Parted, AreSound, state_of, first_by}
use Rattle.ready_jobs.specs.Kept.{parted_of}
use Rattle.ready_jobs.proofs.Seeing.{waiting_list}
use Rattle.ready_jobs.proofs.parts.Parts.first_waiting.Goals as goal

pub first_waiting-requires-clause-modest : goal.first_waiting-requires-clause-modest
first_waiting-requires-clause-modest c = (subst AreSound (sym c.self.view_is) c.requires).modest

pub returns-clause-seen : goal.returns-clause-seen
returns-clause-seen c =
    let p = parted_of c.self.inside in
    c.first_waiting.ensures ∙ sym (ap (first (first_by p)) (waiting_list p c.self.invariant.roles))
    ∙ ap (λ (q : Parted). (view q.version (state_of q)).first_waiting) c.self.view_is
