-- A late job line, from version Three on.
use Rattle.std.proofs.Common.{◌≡◌, ◌∙◌, ap, sym, subst, true, Some}
use Rattle.dover_model.specs.Common.{job_of_numbers, refuses_lines, late_refusal}
use Rattle.dover_model.specs.declared.events.Version.{Version}
use Rattle.dover_model.specs.declared.events.Refusal.TheVariants.{Late}
use Rattle.event_feed.proofs.JobLines.{takes_late, refuses_late}
use Rattle.event_feed.proofs.kept_session.KeptSession.late.Goals as goal

pub returns-in-Three : goal.returns-in-Three
returns-in-Three c lines S mark it late =
    takes_late lines S mark (job_of_numbers c.args.release c.args.work c.args.deadline c.args.value) c.args.self.now it
    late (subst (λ (v : Version). (refuses_lines v ≡ true) × (late_refusal v ≡ Some Late))
    (sym (ap (λ rules. rules.version) it.rules ∙ sym c.version.ensures))
    (refuses_late c.version.result c.in-Three.is)) c.requires
