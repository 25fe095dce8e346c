use Rattle.std.proofs.Common.{◌≡◌, Some, None, true, false, sym, ap, ◌∙◌}
use Rattle.dover_model.proofs.lists.Members.{some_same}
use Rattle.ready_server.specs.Roster.{job_at}
use Rattle.snapshot.specs.Kept.{stance_of}
use Rattle.snapshot.proofs.Comparing.{at_place}
use Rattle.snapshot.proofs.resuming.is_at.Goals as goal

pub returns-in-Some : goal.returns-in-Some
returns-in-Some c =
    let at = at_place (job_at c.args.roster.now.roll c.args.mark) c.args.roster.now.roll.jobs c.args.number
    (Some c.in-Some.job) (sym c.in-Some.is ∙ c.job.ensures.is) in (
      λ e. at ∙ ap Some (c.has_stance.ensures.0 e),
      λ is. c.has_stance.ensures.1 (some_same (stance_of c.in-Some.job) c.args.stance.now (sym at ∙ is)),
    )

pub returns-in-None : goal.returns-in-None
returns-in-None c =
    let at = at_place (job_at c.args.roster.now.roll c.args.mark) c.args.roster.now.roll.jobs c.args.number None
    (sym c.in-None.is ∙ c.job.ensures.is) in (
      λ e. absurd (let clash : false ≡ true = e in cc),
      λ is. absurd (let clash : None ≡ Some c.args.stance.now = sym at ∙ is in cc),
    )
