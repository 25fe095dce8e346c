use Rattle.std.proofs.Common.{refl, subst, sym}
use Rattle.ratio_word.specs.Account.{cause_of, with_line}
use Rattle.ratio_word.specs.Keeping.{StandsAt}
use Rattle.ratio_word.specs.declared.intake.Progress.TheVariants.{Open}
use Rattle.ratio_word.specs.declared.lines.TextLine.TheVariants.{Mark}
use Rattle.ratio_word.proofs.Offering.{job_offered, passed}
use Rattle.ratio_word.proofs.intake.Intake.take.Goals as goal

pub returns-in-Job : goal.returns-in-Job
returns-in-Job c = λ a opened keeps.
    subst (λ l. StandsAt c.offer.result c.offer.new.self (with_line a l (cause_of a l))) (sym c.in-Job.is)
    (job_offered a c.in-Job.release c.in-Job.work c.in-Job.deadline c.in-Job.value c.offer.result c.offer.new.self
    (c.offer.ensures a opened keeps))

pub returns-in-Mark : goal.returns-in-Mark
returns-in-Mark c = λ a opened keeps.
    subst (λ l. StandsAt c.pass.result c.args.self.now (with_line a l (cause_of a l))) (sym c.in-Mark.is)
    (passed a c.args.self.now keeps Mark Open c.pass.result refl c.pass.ensures.none c.pass.ensures.some
    (λ some version. (opened, keeps)))
