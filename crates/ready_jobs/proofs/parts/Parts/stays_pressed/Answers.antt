use Rattle.std.proofs.Common.{sym, ap, ◌∙◌, subst, ◌&&◌}
use Rattle.std.specs.List.{list_any}
use Rattle.dover_model.specs.State.{is_open_job}
use Rattle.ready_jobs.specs.Parts.{Parted, HaveRoles, ready_of}
use Rattle.ready_jobs.proofs.Seeing.{some_open}
use Rattle.ready_jobs.proofs.parts.Parts.stays_pressed.Goals as goal

pub returns-then-self : goal.returns-then-self
returns-then-self c =
    let p = c.args.self.now in
    some_open p (subst HaveRoles c.self.view_is c.self.invariant.roles) c.is_empty.result c.is_empty.ensures.0
    c.is_empty.ensures.1
    ∙ ap (λ b. b && list_any is_open_job (ready_of p))
    (sym (sym (ap (λ (q : Parted). q.pressed) c.self.view_is) ∙ c.if-self.true))
