use Rattle.std.proofs.Common.{refl, subst, sym}
use Rattle.task_words.specs.declared.reading.lines.TaskLine.TheVariants.{End}
use Rattle.ratio_word.specs.Account.{cause_of, with_line}
use Rattle.ratio_word.specs.Keeping.{StandsAt}
use Rattle.ratio_word.specs.declared.intake.Progress.TheVariants.{Ended}
use Rattle.ratio_word.specs.declared.lines.TextLine.TheVariants.{Plain}
use Rattle.ratio_word.proofs.Offering.{ends, passed}
use Rattle.ratio_word.proofs.intake.Intake.take_plain.Goals as goal

pub returns-in-End : goal.returns-in-End
returns-in-End c = λ a opened keeps.
    subst (λ l. StandsAt c.pass.result c.args.self.now (with_line a (Plain l) (cause_of a (Plain l)))) (sym c.in-End.is)
    (passed a c.args.self.now keeps (Plain End) Ended c.pass.result refl c.pass.ensures.none c.pass.ensures.some
    (λ some version. ends a c.args.self.now keeps some version))
