use Rattle.std.proofs.Common.{subst}
use Rattle.dover_port.specs.Moves.{PutsThrough}
use Rattle.task_report.proofs.Parts.{task_put}
use Rattle.task_report.proofs.lines.put_task.Goals as goal

pub returns-clause-text : goal.returns-clause-text
returns-clause-text g c = subst (PutsThrough _ _ _ _ _)
    (task_put c.args.number c.args.tally.now c.args.task.now.name) c.put_line.ensures.text
