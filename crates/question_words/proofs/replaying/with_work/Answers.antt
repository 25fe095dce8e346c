use Rattle.std.proofs.Common.{◌∙◌, refl, sym}
use Rattle.dover_model.proofs.lists.Tests.{never}
use Rattle.question_words.proofs.Observations.{work_some, work_none}
use Rattle.question_words.proofs.replaying.with_work.Goals as goal

pub returns-in-Some : goal.returns-in-Some
returns-in-Some c =
    let facts = rw (c.release.ensures.is, c.deadline.ensures.is, c.value.ensures.is) at c.in-Some.ensures.facts in
    let allowed = rw (c.release.ensures.is, c.deadline.ensures.is, c.value.ensures.is) at c.in-Some.ensures.allowed in
    facts ∙ sym (work_some c.args.work c.args.job.now (allowed.0 refl))

pub returns-in-None : goal.returns-in-None
returns-in-None c =
    let allowed = rw (c.release.ensures.is, c.deadline.ensures.is, c.value.ensures.is) at c.in-None.ensures.allowed in
    sym (work_none c.args.work c.args.job.now (λ one. never (allowed.1 one)))
