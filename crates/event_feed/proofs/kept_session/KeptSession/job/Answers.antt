-- A job line by what the test of the job answers.
use Rattle.std.proofs.Common.{◌∙◌, sym, ap, subst, arith, Ok}
use Rattle.dover_model.specs.Common.{JobFacts, job_of_numbers, refusal_of, admitted_jobs, JobLine}
use Rattle.event_feed.specs.declared.fed.Fed.TheVariants as fed
use Rattle.event_feed.specs.declared.kept_session.KeptSession.{KeptSession}
use Rattle.event_feed.specs.Reading.{Takes}
use Rattle.event_feed.proofs.JobLines.{takes_job}
use Rattle.event_feed.proofs.kept_session.KeptSession.job.Goals as goal

pub returns-in-Ok : goal.returns-in-Ok
returns-in-Ok c lines S mark it =
    let j : JobFacts = job_of_numbers c.args.release c.args.work c.args.deadline c.args.value in
    let kept : KeptSession = c.args.self.now in
    subst (λ job. Takes (JobLine j) lines S mark (record kept { mark = c.args.release })
    (Ok (fed.Job c.count.result job))) (sym c.in-Ok.ensures.job)
    (takes_job lines S mark j (omega (arith, it.marked)) kept c.count.result it c.requires
    (ap (λ rules. refusal_of rules (admitted_jobs S.items) j) it.rules
    ∙ c.in-Ok.ensures.refusal (admitted_jobs S.items) it.jobs)
    c.count.ensures)
