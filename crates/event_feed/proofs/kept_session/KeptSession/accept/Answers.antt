use Rattle.std.proofs.Common.{◌∙◌, sym, ap, subst}
use Rattle.dover_model.specs.Session.{admitted_jobs}
use Rattle.dover_model.proofs.sessions.Growing.{job_instance}
use Rattle.admission.specs.Kept as admission
use Rattle.event_feed.proofs.kept_session.KeptSession.accept.Goals as goal

pub returns : goal.returns
returns c S mark it = record {
  rules = it.rules ∙ sym c.admit.ensures.rules;
  jobs = subst (admission.StandsFor c.admit.new.self) (sym (ap (λ J. J.jobs) (job_instance S c.args.job)))
      (c.admit.ensures.stands (admitted_jobs S.items) it.jobs);
  marked = it.marked;
}
