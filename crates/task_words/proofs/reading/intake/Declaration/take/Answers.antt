use Rattle.std.proofs.Common.{refl, sym, subst, Some, ◌∙◌, ap}
use Rattle.task_words.specs.reading.Faults.{NamesOther}
use Rattle.task_words.specs.declared.reading.lines.TaskLine.TheVariants.{Task}
use Rattle.task_words.proofs.reading.Taking.{took, named, not_taken}
use Rattle.event_feed.specs.Kept.{cause_of_fault}
use Rattle.task_words.proofs.reading.intake.Declaration.take.Goals as goal

pub returns-in-Ok-clause-takes : goal.returns-in-Ok-clause-takes
returns-in-Ok-clause-takes c = λ rules tasks keeps. took c.args.until c.args.task.now rules tasks c.args.self.now
    (record c.args.self.now { admission = c.admit.new.self }) keeps c.if-task-eq0.false c.last_release-release.result
    c.in-Ok.job
    c.last_release-release.ensures.is (c.in-Ok.ensures.refusal _ keeps.tested) c.in-Ok.ensures.job
    (c.admit.ensures.stands _ keeps.tested) c.admit.ensures.rules refl

pub returns-in-Err-clause-names : goal.returns-in-Err-clause-names
returns-in-Err-clause-names c = λ rules tasks keeps.
    subst (λ o. NamesOther c.args.until (Some (Task c.args.task.now)) (Some rules) tasks o) (sym c.of.ensures)
    (named _ _ _ _ _ keeps _ c.last_release-release.ensures.is _ (c.in-Err.ensures.other _ keeps.tested))

pub returns-in-Err-clause-takes : goal.returns-in-Err-clause-takes
returns-in-Err-clause-takes c = λ rules tasks keeps. not_taken c.args.until c.args.task.now rules tasks c.args.self.now
    c.args.self.now keeps c.if-task-eq0.false c.last_release-release.result c.last_release-release.ensures.is
    c.in-Err.refused (c.in-Err.ensures.refusal _ keeps.tested) ∙ ap (λ f. Some (cause_of_fault f)) (sym c.of.ensures)
