-- A refused job line, from version Two on.
use Rattle.std.proofs.Common.{◌∙◌, ap, sym, Some}
use Rattle.dover_model.specs.Common.{JobFacts, job_of_numbers, refuses_lines}
use Rattle.event_feed.proofs.JobLines.{refuses_alone, takes_refused}
use Rattle.event_feed.proofs.kept_session.KeptSession.refuse.Goals as goal

pub returns-in-Two : goal.returns-in-Two
returns-in-Two c lines S mark it =
    let j : JobFacts = job_of_numbers c.args.release c.args.work c.args.deadline c.args.value in
    takes_refused lines S mark j it.no_fall c.args.self.now it.kept_of
    (ap (λ rules. refuses_lines rules.version) it.kept_of.rules
    ∙ ap refuses_lines (sym c.version.ensures) ∙ refuses_alone c.version.result c.in-Two.is) it.numerals
    c.refusal.result (it.refusal ∙ ap (λ r. Some r) (sym c.refusal.ensures))
