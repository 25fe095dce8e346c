use Rattle.std.proofs.Common.{refl}
use Rattle.task_words.specs.declared.reading.lines.TaskLine.TheVariants.{Task}
use Rattle.ratio_word.specs.declared.intake.Progress.TheVariants.{Refused}
use Rattle.ratio_word.specs.declared.lines.TextLine.TheVariants.{Plain}
use Rattle.event_feed.specs.declared.faults.Cause.TheVariants.{BadJob}
use Rattle.ratio_word.proofs.Offering.{passed, task_bad, task_offered}
use Rattle.ratio_word.proofs.intake.Intake.task.Goals as goal

pub returns-then-task-eq0 : goal.returns-then-task-eq0
returns-then-task-eq0 c = λ a opened keeps.
    passed a c.args.self.now keeps (Plain (Task c.args.task.now)) (Refused BadJob) c.pass.result refl
    c.pass.ensures.none c.pass.ensures.some
    (λ some version. task_bad a c.args.task.now c.args.self.now keeps c.if-task-eq0.true version)

pub returns : goal.returns
returns c = λ a opened keeps.
    task_offered a c.args.task.now c.if-task-eq0.false c.offer.result c.offer.new.self
    (c.offer.ensures a opened keeps)
